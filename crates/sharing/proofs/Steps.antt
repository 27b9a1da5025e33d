-- The way as the code goes it: place by place, wants of 0 among them. Assumes nothing.
use mathlib.Core.List.{List, ◌∷◌}
use mathlib.Core.Path.{◌≡◌, refl, ap}
use Prim.Native.Nat.{ℕ, zero, suc, ◌+◌, ◌-◌, ◌<◌}
use native.Mathlib.Numerals.{add-one, unary_clauses}
use native.Mathlib.Omega.{arith}
use lib.ListN.{length, drop, length-drop}
use lib.Seq.{drop-cons}
use Rattle.sharing.specs.Level.{want_of}
use Rattle.sharing.specs.Way.{carried_after, step_of, step_then, way, level_found}
use Rattle.sharing.specs.declared.Step.{Step}
use Rattle.sharing.specs.declared.Step.TheVariants.{Met, Last}

-- one want more met
pub carried_less : (n : ℕ) (order : List ℕ) (limit : ℕ) → carried_after n order limit - want_of order n ≡ carried_after (n + 1) order limit
unfolding carried_after
carried_less n order limit = simp unary_clauses (omega arith)

way_first :
    (want : ℕ) (more : List ℕ) (carried : ℕ) → 0 < want → way (want ∷ more) carried ≡ step_then (step_of want (length more + 1) carried) (way more)
unfolding way
way_first zero more carried h = absurd (omega arith)
way_first (suc want) more carried h = refl

-- the level found from a place on
module _ (order : List ℕ) (count place carried limit : ℕ) (long : length order ≡ count) (h : place < count) where
  abbrev found_from : ℕ → ℕ → ℕ
  found_from from watts = level_found (way (drop from order) watts) limit

  -- a want of 0 is passed
  pub found_passes : want_of order place ≡ 0 → found_from place carried ≡ found_from (place + 1) carried
  unfolding way
  found_passes e = rw (add-one, drop-cons order place 0 (omega arith), e)

  module _ (some : 0 < want_of order place) where
    step_first :
        (step : Step)
        → step ≡ step_of (want_of order place) (count - place) carried
        → found_from place carried ≡ level_found (step_then step (way (drop (place + 1) order))) limit
    step_first step e =
        let unmet : length (drop (suc place) order) + 1 ≡ count - place = omega (arith, length-drop (suc place) order) in
        rw (add-one, drop-cons order place 0 (omega arith), e, ← unmet)
        (ap (λ (steps : List Step). level_found steps limit) (way_first (want_of order place) (drop (suc place) order) carried some))

    pub found_meets :
        (want left : ℕ)
        → Met want left ≡ step_of (want_of order place) (count - place) carried
        → found_from place carried ≡ found_from (place + 1) left
    unfolding level_found
    found_meets want left e = step_first (Met want left) e

    pub found_ends : (level : ℕ) → Last level ≡ step_of (want_of order place) (count - place) carried → found_from place carried ≡ level
    unfolding level_found
    found_ends level e = step_first (Last level) e
