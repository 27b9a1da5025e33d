-- The way's laws: each step is the one whose turn it is, none is taken for a want of 0, and it comes to the level. Assumes nothing.
use mathlib.Core.Bool.{Bool, true, false, cond}
use mathlib.Core.List.{List, [], ◌∷◌}
use mathlib.Core.Logic.{◌⊎◌, inl, inr}
use mathlib.Core.Path.{◌≡◌, refl, sym, ap, subst, ◌∙◌}
use Prim.Native.Nat.{ℕ, zero, suc, ◌+◌, ◌-◌, ◌*◌, ◌/◌, ◌≤◌, ◌<◌, min}
use native.Mathlib.Nat.{div-mul-le_self, lt-div-mul-add, div-le_self, le-div_iff_mul-le}
use native.Mathlib.Omega.{arith}
use borrow.Author.Tests.{leb-true, leb-false}
use lib.Dec.{leb}
use lib.ListN.{length, get_or}
use Rattle.sharing.specs.Level.{want_of, sum, total_at, level_of, one_if_any}
use Rattle.sharing.specs.Way.{in_order, takers, carried_after, step_of, step_then, way, level_found}
use Rattle.sharing.specs.Claims.{step_in_turn}
use Rattle.sharing.specs.declared.Step.{Step}
use Rattle.sharing.specs.declared.Step.TheVariants.{Met, Last}
use Rattle.sharing.proofs.Sums.{sum_of_each, sum_front, sum_of_each_lem}
use Rattle.sharing.proofs.Laws.{level_is}
use Rattle.sharing.proofs.Order.{in_order_sum, Rises, rises_from_less, in_order_rises}

pub last_not_met : {level want carried : ℕ} → Last level ≡ Met want carried → ⊥
last_not_met e = let z : ◌≡◌ {A = ℕ} 0 1 = cc in omega arith

-- a step that is not the last meets its want, which is within the watts that come in
pub step_met :
    (want unmet carried met left : ℕ) → step_of want unmet carried ≡ Met met left → (met ≡ want) × (left ≡ carried - want) × (want ≤ carried)
unfolding step_of
step_met want unmet carried met left e = go (leb want (carried / unmet)) refl _ e
  where
    go : (b : Bool) → leb want (carried / unmet) ≡ b → (level : ℕ) → cond b (Met want (carried - want)) (Last level) ≡ Met met left
        → (met ≡ want) × (left ≡ carried - want) × (want ≤ carried)
    go true t level x = (cc, cc, omega (arith, leb-true want (carried / unmet) t, div-le_self carried unmet))
    go false t level x = absurd (last_not_met x)

-- behind a want above 0 all take a step
takers_all : (least : ℕ) (order : List ℕ) → Rises (suc least) order → takers order ≡ order
unfolding takers
takers_all least [] up = refl
takers_all least (zero ∷ more) up = absurd (omega (arith, up.0))
takers_all least (suc want ∷ more) up = ap (λ (rest : List ℕ). suc want ∷ rest) (takers_all want more up.1)

pub takers_want : (order : List ℕ) (n : ℕ) → n < length (takers order) → 0 < want_of (takers order) n
unfolding takers
takers_want [] n h = absurd (omega arith)
takers_want (zero ∷ more) n h = takers_want more n h
takers_want (suc want ∷ more) zero h = omega arith
takers_want (suc want ∷ more) (suc n) h = takers_want more n (omega arith)

-- each step is the one whose turn it is
pub way_in_turn :
    (least : ℕ) (order : List ℕ) (carried n : ℕ)
    → Rises least order
    → n < length (way order carried)
    → get_or (way order carried) n (Last 0) ≡ step_in_turn (takers order) carried n
unfolding way takers carried_after
way_in_turn least [] carried n up h = absurd (omega arith)
way_in_turn least (zero ∷ more) carried n up h = way_in_turn 0 more carried n up.1 h
way_in_turn least (suc want ∷ more) carried n up h =
    go (step_of (suc want) (length more + 1) carried) refl n h (λ left next. way_in_turn (suc want) more left next up.1)
  where
    all : takers more ≡ more
    all = takers_all want more up.1

    first : step_in_turn (suc want ∷ takers more) carried 0 ≡ step_of (suc want) (length more + 1) carried
    first =
        let unmet : length (suc want ∷ takers more) - 0 ≡ length more + 1 = omega (arith, ap length all) in
        let whole : carried - 0 ≡ carried = omega arith in
        rw (unmet, whole)

    go : (step : Step) → step_of (suc want) (length more + 1) carried ≡ step → (n : ℕ)
        → n < length (step_then step (way more))
        → ((left next : ℕ) → next < length (way more left) → get_or (way more left) next (Last 0) ≡ step_in_turn (takers more) left next)
        → get_or (step_then step (way more)) n (Last 0) ≡ step_in_turn (suc want ∷ takers more) carried n
    go (Met met left) e zero x onward = sym (first ∙ e)
    go (Met met left) e (suc next) x onward =
        let unmet : length (suc want ∷ takers more) - suc next ≡ length (takers more) - next = omega arith in
        let less : carried - sum (suc next) (want_of (suc want ∷ takers more)) ≡ left - sum next (want_of (takers more))
        = omega (arith, step_met (suc want) (length more + 1) carried met left e, sum_front next (want_of (suc want ∷ takers more))) in
        onward left next (omega arith) ∙ rw (unmet, less)
    go (Last level) e zero x onward = sym (first ∙ e)
    go (Last level) e (suc next) x onward = absurd (omega arith)

-- a want of 0 takes no step
pub way_length : (order : List ℕ) (carried : ℕ) → length (way order carried) ≤ length (takers order)
unfolding way takers
way_length [] carried = omega arith
way_length (zero ∷ more) carried = way_length more carried
way_length (suc want ∷ more) carried = go (step_of (suc want) (length more + 1) carried) (way_length more)
  where
    go : (step : Step) → ((next : ℕ) → length (way more next) ≤ length (takers more)) → length (step_then step (way more)) ≤ suc (length (takers more))
    go (Met first next) onward = omega (arith, onward next)
    go (Last level) onward = omega arith

pub takers_length : (order : List ℕ) → length (takers order) ≡ sum_of_each one_if_any order
unfolding takers
takers_length [] = refl
takers_length (zero ∷ more) = omega (arith, takers_length more)
takers_length (suc want ∷ more) = omega (arith, takers_length more)

-- what wants come to at a level
abbrev total_over : List ℕ → ℕ → ℕ
total_over wants level = sum_of_each (λ want. min want level) wants

over_at_most : (wants : List ℕ) (level : ℕ) → total_over wants level ≤ length wants * level
over_at_most [] level = omega arith
over_at_most (want ∷ more) level = omega (arith, over_at_most more level)

-- exactly so much, where none is below the level
over_all : (least : ℕ) (wants : List ℕ) (level : ℕ) → Rises least wants → level ≤ least → total_over wants level ≡ length wants * level
over_all least [] level up h = omega arith
over_all least (want ∷ more) level up h = omega (arith, over_all want more level up.1 (omega arith))

-- what a level is known by (`level_is`), with what is given out at each level
record IsLevel (total : ℕ → ℕ) (limit level : ℕ) : Type 0 where
  within : level ≤ limit
  fits : total level ≤ limit
  largest : (level ≡ limit) ⊎ (limit < total (level + 1))

is_level_same : {limit level : ℕ} (f g : ℕ → ℕ) → ((l : ℕ) → f l ≡ g l) → IsLevel f limit level → IsLevel g limit level
is_level_same {limit} {level} f g e is = record {
  within = is.within;
  fits = subst (λ (x : ℕ). x ≤ limit) (e level) is.fits;
  largest = next is.largest;
}
  where
    next : (level ≡ limit) ⊎ (limit < f (level + 1)) → (level ≡ limit) ⊎ (limit < g (level + 1))
    next (inl x) = inl x
    next (inr x) = inr (subst (λ (y : ℕ). limit < y) (e (level + 1)) x)

-- On the way, with some wants met and others to come: those met come to `met` at every level from `least` up, and to no more at any other.
record SoFar (given : ℕ → ℕ) (met least : ℕ) : Type 0 where
  at_most : (level : ℕ) → given level ≤ met
  all : (level : ℕ) → least ≤ level → given level ≡ met

module _ (limit : ℕ) where
  abbrev Found : (ℕ → ℕ) → List ℕ → ℕ → Type 0
  Found given order carried = IsLevel (λ level. given level + total_over order level) limit (level_found (way order carried) limit)

  -- one want more, none of those met before being above it
  met_too :
      {given : ℕ → ℕ} {met least : ℕ} (want : ℕ)
      → least ≤ want
      → SoFar given met least
      → SoFar (λ level. given level + min want level) (met + want) want
  met_too want h far = record {
    at_most = λ level. omega (arith, far.at_most level);
    all = λ level g. omega (arith, far.all level (omega arith));
  }

  -- the last step: the part fits, and one watt more for each who is not met does not
  last_step :
      (given : ℕ → ℕ) (carried met least want : ℕ) (more : List ℕ)
      → SoFar given met least
      → carried + met ≡ limit
      → least * (length more + 1) ≤ carried
      → Rises want more
      → carried / (length more + 1) < want
      → IsLevel (λ level. given level + total_over (want ∷ more) level) limit (carried / (length more + 1))
  last_step given carried met least want more far e room up short = record {
    within = omega (arith, div-le_self carried (length more + 1));
    fits = omega (arith, far.at_most part, over_at_most more part, div-mul-le_self carried (length more + 1));
    largest = inr (omega (arith, far.all (part + 1) (omega (arith, below)), over_all want more (part + 1) up (omega arith), next));
  }
    where
      part : ℕ
      part = carried / (length more + 1)

      below : least ≤ part
      below = (le-div_iff_mul-le {k = length more + 1} (omega arith)).1 room

      next : carried < part * (length more + 1) + (length more + 1)
      next = lt-div-mul-add (omega arith)

  -- From here on the way comes to the level of all wants, those met and those to come. None of the wants met is above an equal part of what is
  -- carried, so none is above the level either.
  way_found :
      (order : List ℕ) (given : ℕ → ℕ) (carried met least : ℕ)
      → SoFar given met least
      → carried + met ≡ limit
      → least * length order ≤ carried
      → Rises least order
      → Found given order carried
  unfolding way level_found step_of
  way_found [] given carried met least far e room up = record {
    within = omega arith;
    fits = omega (arith, far.at_most limit);
    largest = inl refl;
  }
  way_found (zero ∷ more) given carried met least far e room up =
      is_level_same (λ level. given level + total_over more level) (λ level. given level + total_over (0 ∷ more) level) (λ level. omega arith)
      (way_found more given carried met least far e (omega arith) (rises_from_less least 0 more up.0 up.1))
  way_found (suc want ∷ more) given carried met least far e room up =
      go (leb (suc want) part) refl
      (λ h.
      way_found more (λ level. given level + min (suc want) level) (carried - suc want) (met + suc want) (suc want)
      (met_too (suc want) up.0 far) (omega (arith, enough h)) (omega (arith, enough h)) up.1)
    where
      part : ℕ
      part = carried / (length more + 1)

      enough : suc want ≤ part → suc want * (length more + 1) ≤ carried
      enough h = (le-div_iff_mul-le {k = length more + 1} (omega arith)).0 h

      go : (b : Bool) → leb (suc want) part ≡ b
          → (suc want ≤ part → Found (λ level. given level + min (suc want) level) more (carried - suc want))
          → IsLevel (λ level. given level + total_over (suc want ∷ more) level) limit
          (level_found (step_then (cond b (Met (suc want) (carried - suc want)) (Last part)) (way more)) limit)
      go true t onward =
          is_level_same (λ level. given level + min (suc want) level + total_over more level)
          (λ level. given level + total_over (suc want ∷ more) level) (λ level. omega arith) (onward (leb-true (suc want) part t))
      go false t onward = last_step given carried met least (suc want) more far e (omega arith) up.1 (leb-false (suc want) part t)

total_over_lem : (wants : List ℕ) (level : ℕ) → total_over (in_order wants) level ≡ total_at (length wants) (want_of wants) level
unfolding total_at
total_over_lem wants level = in_order_sum (λ want. min want level) wants ∙ sym (sum_of_each_lem (λ want. min want level) wants)

-- over the wants in order, with the limit carried at first, it comes to the level
pub way_level : (wants : List ℕ) (limit : ℕ) → level_found (way (in_order wants) limit) limit ≡ level_of (length wants) (want_of wants) limit
way_level wants limit =
    level_is (length wants) (want_of wants) limit (level_found (way (in_order wants) limit) limit) is.within is.fits is.largest
  where
    none : SoFar (λ level. 0) 0 0
    none = record { at_most = λ level. omega arith; all = λ level h. refl }

    is : IsLevel (total_at (length wants) (want_of wants)) limit (level_found (way (in_order wants) limit) limit)
    is =
        is_level_same (λ level. 0 + total_over (in_order wants) level) (total_at (length wants) (want_of wants))
        (λ level. omega (arith, total_over_lem wants level))
        (way_found limit (in_order wants) (λ level. 0) limit 0 0 none (omega arith) (omega arith) (in_order_rises wants))
