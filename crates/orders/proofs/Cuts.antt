-- Where a text is cut into lines, and its first line into fields. Assumes nothing.
use mathlib.Core.Bool.{Bool, true, false, cond}
use mathlib.Core.List.{List, [], ◌∷◌}
use mathlib.Core.Logic.{◌⊎◌, inl, inr}
use mathlib.Core.Path.{◌≡◌, refl, sym, ap, subst}
use Prim.Native.Nat.{ℕ, suc, ◌≤◌, ◌<◌}
use native.Mathlib.Omega.{arith}
use lib.Dec.{eqb}
use lib.ListN.{length, take, drop}
use borrow.Author.Tests.{eqb-true}
use Rattle.common.specs.Texts.{push, fields_of}
use Rattle.orders.specs.Lines.{lines_of}
use Rattle.orders.specs.Scans.{is_mark, first_field, field_length, first_line, behind_line}

-- the first line, and the lines behind it
pub line_first : (c : ℕ) (s : List ℕ) → lines_of (c ∷ s) ≡ first_line (c ∷ s) ∷ lines_of (behind_line (c ∷ s))
line_first c [] = go (eqb c 10)
  where
    go : (b : Bool) → cond b ([] ∷ []) ((c ∷ []) ∷ []) ≡ cond b [] (c ∷ []) ∷ lines_of (cond b [] [])
    go true = refl
    go false = refl
line_first c (d ∷ s) = go (eqb c 10) (line_first d s)
  where
    go :
        (b : Bool)
        → lines_of (d ∷ s) ≡ first_line (d ∷ s) ∷ lines_of (behind_line (d ∷ s))
        → cond b ([] ∷ lines_of (d ∷ s)) (push c (lines_of (d ∷ s)))
        ≡ cond b [] (c ∷ first_line (d ∷ s)) ∷ lines_of (cond b (d ∷ s) (behind_line (d ∷ s)))
    go true k = refl
    go false k = ap (push c) k

-- what stands behind the first line is shorter
behind_within : (s : List ℕ) → length (behind_line s) ≤ length s
behind_within [] = omega arith
behind_within (c ∷ s) = go (eqb c 10) (behind_within s)
  where
    go : (b : Bool) → length (behind_line s) ≤ length s → length (cond b s (behind_line s)) ≤ suc (length s)
    go true h = omega arith
    go false h = omega arith

pub behind_shorter : (c : ℕ) (s : List ℕ) → length (behind_line (c ∷ s)) < length (c ∷ s)
behind_shorter c s = go (eqb c 10) (behind_within s)
  where
    go : (b : Bool) → length (behind_line s) ≤ length s → length (cond b s (behind_line s)) < suc (length s)
    go true h = omega arith
    go false h = omega arith

-- a field lies in its text
pub field_inside : (s : List ℕ) → field_length s ≤ length s
field_inside [] = omega arith
field_inside (c ∷ s) = go (is_mark c) (field_inside s)
  where
    go : (b : Bool) → field_length s ≤ length s → cond b 0 (suc (field_length s)) ≤ suc (length s)
    go true h = omega arith
    go false h = omega arith

pub field_taken : (s : List ℕ) → take (field_length s) s ≡ first_field s
field_taken [] = refl
field_taken (c ∷ s) = go (is_mark c) (field_taken s)
  where
    go : (b : Bool) → take (field_length s) s ≡ first_field s → take (cond b 0 (suc (field_length s))) (c ∷ s) ≡ cond b [] (c ∷ first_field s)
    go true e = refl
    go false e = ap (λ f. c ∷ f) e

-- the first line's fields, by what stands behind the first one: nothing, a tab or a line feed
abbrev pub Cut : List ℕ → List ℕ → Type 0
Cut s [] = (fields_of (first_line s) ≡ first_field s ∷ []) × (behind_line s ≡ [])
Cut s (c ∷ r) =
    ((c ≡ 9) × (fields_of (first_line s) ≡ first_field s ∷ fields_of (first_line r)) × (behind_line s ≡ behind_line r))
    ⊎ ((c ≡ 10) × (fields_of (first_line s) ≡ first_field s ∷ []) × (behind_line s ≡ r))

pub cut : (s : List ℕ) → Cut s (drop (field_length s) s)
unfolding is_mark
cut [] = (refl, refl)
cut (c ∷ s) = go (eqb c 9) refl (eqb c 10) refl (cut s)
  where
    pushed : (r : List ℕ) → eqb c 9 ≡ false → eqb c 10 ≡ false → Cut s r → Cut (c ∷ s) r
    pushed [] e f (k, n) = (rw (f, e) (ap (push c) k), rw f n)
    pushed (d ∷ r) e f (inl (t, k, n)) = inl (t, rw (f, e) (ap (push c) k), rw f n)
    pushed (d ∷ r) e f (inr (t, k, n)) = inr (t, rw (f, e) (ap (push c) k), rw f n)

    go : (b : Bool) → eqb c 9 ≡ b → (d : Bool) → eqb c 10 ≡ d → Cut s (drop (field_length s) s) → Cut (c ∷ s) (drop (field_length (c ∷ s)) (c ∷ s))
    go true e d f k = subst (λ x. Cut (x ∷ s) (drop (field_length (x ∷ s)) (x ∷ s))) (sym (eqb-true c 9 e)) (inl (refl, refl, refl))
    go false e true f k = subst (λ x. Cut (x ∷ s) (drop (field_length (x ∷ s)) (x ∷ s))) (sym (eqb-true c 10 f)) (inr (refl, refl, refl))
    go false e false f k = rw (e, f) (pushed (drop (field_length s) s) e f k)
