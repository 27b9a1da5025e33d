-- Where a line is cut into fields: at its first tab, and not at all where there is none. Assumes nothing.
use mathlib.Core.Bool.{Bool, true, false, cond, not}
use mathlib.Core.List.{List, [], ◌∷◌}
use mathlib.Core.Path.{◌≡◌, refl, ap, subst}
use Prim.Native.Nat.{ℕ, suc, ◌+◌, ◌-◌, ◌≤◌, ◌<◌}
use native.Mathlib.Numerals.{add-one}
use native.Mathlib.Omega.{arith}
use lib.Dec.{ltb, eqb}
use lib.ListN.{length, take, drop, length-drop}
use lib.Seq.{take_all}
use borrow.Author.Tests.{ne_eqb, ltb-true, ltb-false}
use Rattle.std.specs.Prelude.{Option, Some, None, position}
use Rattle.std.specs.List.{position_or_len}
use Rattle.common.proofs.Bools.{and_first, and_second}
use Rattle.common.proofs.Texts.{some_field}
use Rattle.common.specs.Texts.{digit_value, is_digit, all_digits, push, fields_of}

-- how many characters stand before the first tab
abbrev pub tab_at : List ℕ → ℕ
tab_at s = position_or_len (λ c. eqb c 9) s

cut_in : (s : List ℕ) → tab_at s < length s → fields_of s ≡ take (tab_at s) s ∷ fields_of (drop (suc (tab_at s)) s)
cut_in [] h = absurd (omega arith)
cut_in (c ∷ s) h = go (eqb c 9) (1 + tab_at s) (omega arith) h (λ x. cut_in s x)
  where
    go :
        (b : Bool) (n : ℕ)
        → n ≡ suc (tab_at s)
        → cond (not b) n 0 < suc (length s)
        → (tab_at s < length s → fields_of s ≡ take (tab_at s) s ∷ fields_of (drop (suc (tab_at s)) s))
        → cond b ([] ∷ fields_of s) (push c (fields_of s))
        ≡ take (cond (not b) n 0) (c ∷ s) ∷ fields_of (drop (suc (cond (not b) n 0)) (c ∷ s))
    go true n e h k = refl
    go false n e h k = rw e (ap (push c) (k (omega arith)))

pub cut_none : (s : List ℕ) → length s ≤ tab_at s → fields_of s ≡ s ∷ []
cut_none [] h = refl
cut_none (c ∷ s) h = go (eqb c 9) h (λ x. cut_none s x)
  where
    go :
        (b : Bool)
        → suc (length s) ≤ cond (not b) (1 + tab_at s) 0
        → (length s ≤ tab_at s → fields_of s ≡ s ∷ [])
        → cond b ([] ∷ fields_of s) (push c (fields_of s)) ≡ (c ∷ s) ∷ []
    go true h k = absurd (omega arith)
    go false h k = ap (push c) (k (omega arith))

-- the first field and the fields behind it, as the code cuts them out, by where the first tab is
module _ (s : List ℕ) where
  abbrev Cut : Option ℕ → Type 0
  Cut None = fields_of s ≡ s ∷ []
  Cut (Some n) = (n < length s) × (fields_of s ≡ take n s ∷ fields_of (take (length s - (n + 1)) (drop (n + 1) s)))

  pub cut_at : (r : Option ℕ) → position (λ c. eqb c 9) s ≡ r → Cut r
  cut_at r e = subst Cut e (go (ltb (tab_at s) (length s)) refl)
    where
      go : (b : Bool) → ltb (tab_at s) (length s) ≡ b → Cut (cond b (Some (tab_at s)) None)
      go true t =
          let h : tab_at s < length s = ltb-true (tab_at s) (length s) t in
          let n : ℕ = tab_at s + 1 in
          (h, rw (take_all (length s - n) (drop n s) (omega (arith, length-drop n s)), add-one (tab_at s)) (cut_in s h))
      go false t = cut_none s (ltb-false (tab_at s) (length s) t)

-- what holds of one field that is the whole line, and of two fields or more
pub by_fields :
    (s : List ℕ) (Q : List (List ℕ) → Type 0) → Q (s ∷ []) → ((f g : List ℕ) (fs : List (List ℕ)) → Q (f ∷ g ∷ fs)) → Q (fields_of s)
by_fields s Q one more = go (ltb (tab_at s) (length s)) refl
  where
    go : (b : Bool) → ltb (tab_at s) (length s) ≡ b → Q (fields_of s)
    go true e =
        rw (cut_in s (ltb-true (tab_at s) (length s) e))
        (some_field (drop (suc (tab_at s)) s) (λ fs. Q (take (tab_at s) s ∷ fs)) (more (take (tab_at s) s)))
    go false e = rw (cut_none s (ltb-false (tab_at s) (length s) e)) one

-- digits of a base hold no tab
tab_value : digit_value 9 ≡ 16
unfolding digit_value
tab_value = refl

module _ (base : ℕ) (h : base ≤ 16) where
  no_tab : (c : ℕ) → is_digit base c ≡ true → eqb c 9 ≡ false
  no_tab c e = ne_eqb c 9 (λ t. omega (arith, tab_value, ap digit_value t, ltb-true (digit_value c) base e))

  pub digits_field : (s : List ℕ) → all_digits base s ≡ true → fields_of s ≡ s ∷ []
  digits_field [] e = refl
  digits_field (c ∷ s) e =
      rw (no_tab c (and_first (is_digit base c) (all_digits base s) e), digits_field s (and_second (is_digit base c) (all_digits base s) e))
