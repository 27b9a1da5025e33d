-- `least` means what its name says: it is not below the float's exact value, and no smaller number of tenths is; and rounded up to the whole
-- it is the least whole number that is not. Assumes nothing.
use mathlib.Core.Path.{◌≡◌, refl, sym, ap, ◌∙◌, subst}
use mathlib.Core.Bool.{Bool, true, false}
use Prim.Native.Nat.{ℕ, ◌*◌, ◌≤◌, ◌<◌, zero-le}
use native.Mathlib.Nat.{le_trans, le_of_eq, one-mul, mul_assoc, mul_right_comm, mul-le-mul_right, le_of_mul-le-mul_right}
use native.Mathlib.Omega.{arith}
use lib.Dec.{T, lit<}
use lib.IntN.{ℤ}
use lib.Ieee.{Float, nan, inf, fin, up, down, is_nan}
use lib.Ieee.Digits.{Equals}
use lib.Ieee.Fits.{down_pos}
use Rattle.readings.specs.Value.{within, least, ceiling, tenths_per_unit}
use Rattle.readings.specs.Claims.{IsLeast}
use Rattle.readings.proofs.Ceiling as ceilings
use Rattle.readings.proofs.InRange.{lower, sized, minus_zero_lem, no_nan, no_inf}

-- of a fraction
least_part : (parts m : ℕ) (e : ℤ) → IsLeast parts (fin false m e) (ceiling (parts * (m * up e)) (down e))
least_part parts m e = record {
  not_below = ceilings.not_below (parts * (m * up e)) (down e) (down_pos e);
  nothing_smaller = λ n h. ceilings.is_least (parts * (m * up e)) (down e) n (down_pos e) h;
}

-- minus zero is not above 0
nothing_below : (parts m : ℕ) (e : ℤ) → IsLeast parts (fin true m e) 0
nothing_below parts m e = record {
  not_below = tt;
  nothing_smaller = λ n h. zero-le;
}

pub is_least_tenth : (x : Float) → T (within 1000 x) → IsLeast tenths_per_unit x (least x)
unfolding least is_nan
is_least_tenth nan t = absurd (no_nan nan t)
is_least_tenth (inf s) t = absurd (no_inf s t)
is_least_tenth (fin true m e) t = nothing_below tenths_per_unit m e
is_least_tenth (fin false m e) t = least_part tenths_per_unit m e

pub is_least_whole : (x : Float) → T (within 1000 x) → IsLeast 1 x (ceiling (least x) tenths_per_unit)
unfolding least is_nan
is_least_whole nan t = absurd (no_nan nan t)
is_least_whole (inf s) t = absurd (no_inf s t)
is_least_whole (fin true m e) t = nothing_below 1 m e
is_least_whole (fin false m e) t =
    subst (IsLeast 1 (fin false m e))
    (ap (λ (n : ℕ). ceiling n (down e)) (one-mul (m * up e)) ∙ sym (ceilings.nested tenths_per_unit (m * up e) (down e) (lit< tt) (down_pos e)))
    (least_part 1 m e)

-- in range it goes by the size alone, as minus zero is the only negative float there
by_size : (s : Bool) (m : ℕ) (e : ℤ) → T (within 1000 (fin s m e)) → least (fin s m e) ≡ ceiling (tenths_per_unit * (m * up e)) (down e)
unfolding least
by_size true m e t = rw (minus_zero_lem m e (lower 1000 _ t)) (sym (ceilings.zero_of (down e) (down_pos e)))
by_size false m e t = refl

-- a float whose size is a / c
module _ (a c : ℕ) (p : 0 < c) where
  pub least_of : (x : Float) → T (within 1000 x) → Equals x a c → least x ≡ ceiling (tenths_per_unit * a) c
  least_of nan t v = absurd v
  least_of (inf s) t v = absurd v
  least_of (fin s m e) t v =
      by_size s m e t
      ∙ ceilings.same (tenths_per_unit * (m * up e)) (down e) (tenths_per_unit * a) c (down_pos e) p
      (mul_assoc tenths_per_unit (m * up e) c ∙ ap (λ (n : ℕ). tenths_per_unit * n) v ∙ sym (mul_assoc tenths_per_unit a (down e)))

  pub size_of : (x : Float) → T (within 1000 x) → Equals x a c → a ≤ 1000 * c
  size_of nan t v = absurd v
  size_of (inf s) t v = absurd v
  size_of (fin s m e) t v =
      le_of_mul-le-mul_right (le_trans (le_of_eq (sym v)) (le_trans (mul-le-mul_right c (sized s m e t)) (le_of_eq (mul_right_comm 1000 (down e) c)))) (down_pos e)

-- at most 1000 units, so it fits two bytes
pub least_top : (x : Float) → T (within 1000 x) → least x ≤ tenths_per_unit * 1000
unfolding is_nan
least_top nan t = absurd (no_nan nan t)
least_top (inf s) t = absurd (no_inf s t)
least_top (fin s m e) t =
    rw (by_size s m e t)
    (ceilings.is_least (tenths_per_unit * (m * up e)) (down e) (tenths_per_unit * 1000) (down_pos e) (let h : m * up e ≤ 1000 * down e = sized s m e t in omega arith))
