-- `least` of a float in range by the fields of its bits: exponent and fraction. Assumes nothing.
use mathlib.Core.Path.{◌≡◌, refl, sym, ap, ◌∙◌, subst}
use mathlib.Core.Bool.{Bool, true, false, not, cond}
use Prim.Native.Nat.{ℕ, zero, suc, ◌+◌, ◌-◌, ◌*◌, ◌/◌, ◌%◌, ◌^◌, ◌≤◌, ◌<◌}
use native.Mathlib.Nat.{le_trans, le_of_eq, lt_of_not-le, not-le_of_lt, mul_assoc, mul-pos, mul-le-mul}
use native.Mathlib.Omega.{arith}
use borrow.Author.Tests.{lt-ltb, le-ltb}
use lib.Dec.{T, leb, eqb, lit<, lit≤}
use lib.Pow.{pow_pos, pow-add, pow_mono}
use lib.Ieee.{Float, nan, inf, fin, binary32, of_bits, to_bits, nan_bits, of_fields, odd, fits, is_nan}
use lib.Ieee.Bits.{of_bits-to_bits, nan_bits_is, nan_bits_above}
use lib.Ieee.Digits.{Equals, odd_val}
use Rattle.readings.specs.Value.{within, least, ceiling, tenths_per_unit}
use Rattle.readings.proofs.Ceiling as ceilings
use Rattle.readings.proofs.InRange.{no_nan, no_inf}
use Rattle.readings.proofs.Least.{least_of, size_of}

-- ---- from bits

is_nan_lem : (x : Float) → is_nan x ≡ true → x ≡ nan
unfolding is_nan
is_nan_lem nan e = refl
is_nan_lem (inf s) e = cc
is_nan_lem (fin s m x) e = cc

-- above the patterns of infinity are those of NaNs, which all stand for the one NaN
pub nan_of_bits : (b : ℕ) → 0x7f80_0000 < b % 0x8000_0000 → of_bits binary32 b ≡ nan
nan_of_bits b h = is_nan_lem (of_bits binary32 b) (sym (nan_bits_is binary32 b) ∙ nan_bits_above binary32 b ∙ lt-ltb _ _ h)

pub no_nan_bits : (b : ℕ) → b % 0x8000_0000 ≤ 0x7f80_0000 → T (not (nan_bits binary32 b))
no_nan_bits b h = rw (nan_bits_above, le-ltb _ _ h) tt

-- ---- the value by the fields: an exponent field of 0 has no leading one, any other has

without_one : (s : Bool) (d : ℕ) → Equals (of_fields binary32 s 0 d) (d * 2 ^ 0) (2 ^ 149)
unfolding of_fields
without_one s d = odd_val 24 s d 0 149

with_one : (s : Bool) (k d : ℕ) → T (within 1000 (of_fields binary32 s (suc k) d)) → Equals (of_fields binary32 s (suc k) d) ((8388608 + d) * 2 ^ k) (2 ^ 149)
unfolding of_fields is_nan
with_one s k d = go (eqb (suc k) 255) (eqb d 0)
  where
    x : Bool → Bool → Float
    x b z = cond b (cond z (inf s) nan) (odd 24 s (8388608 + d) k 149)

    go : (b z : Bool) → T (within 1000 (x b z)) → Equals (x b z) ((8388608 + d) * 2 ^ k) (2 ^ 149)
    go true true t = no_inf s t
    go true false t = no_nan nan t
    go false z t = odd_val 24 s (8388608 + d) k 149

-- a bit pattern without its sign, and its fields, as the code takes them
abbrev magnitude : ℕ → ℕ
magnitude b = b % 0x8000_0000

abbrev pub exponent : ℕ → ℕ
exponent b = magnitude b / 0x80_0000

abbrev pub fraction : ℕ → ℕ
fraction b = b % 0x80_0000

module _ (x : Float) (f : T (fits binary32 x)) (t : T (within 1000 x)) where
  abbrev bits : ℕ
  bits = to_bits binary32 x

  from_fields : of_fields binary32 (leb 0x8000_0000 bits) (exponent bits) (fraction bits) ≡ x
  unfolding of_bits
  from_fields = of_bits-to_bits binary32 x f

  by_exponent : (k : ℕ) → exponent bits ≡ k → of_fields binary32 (leb 0x8000_0000 bits) k (fraction bits) ≡ x
  by_exponent k z = ap (λ (j : ℕ). of_fields binary32 (leb 0x8000_0000 bits) j (fraction bits)) (sym z) ∙ from_fields

  subnormal : exponent bits ≡ 0 → Equals x (fraction bits * 2 ^ 0) (2 ^ 149)
  subnormal z =
      subst (λ (y : Float). Equals y (fraction bits * 2 ^ 0) (2 ^ 149)) (by_exponent 0 z)
      (without_one (leb 0x8000_0000 bits) (fraction bits))

  normal : (k : ℕ) → exponent bits ≡ suc k → Equals x ((0x80_0000 + fraction bits) * 2 ^ k) (2 ^ 149)
  normal k z =
      subst (λ (y : Float). Equals y ((0x80_0000 + fraction bits) * 2 ^ k) (2 ^ 149)) (by_exponent (suc k) z)
      (with_one (leb 0x8000_0000 bits) k (fraction bits) (subst (λ (y : Float). T (within 1000 y)) (sym (by_exponent (suc k) z)) t))

  -- ---- `least` by the fields

  pub least_nothing : magnitude bits ≡ 0 → least x ≡ 0
  least_nothing z =
      let d : fraction bits ≡ 0 = omega arith in
      least_of (fraction bits * 2 ^ 0) (2 ^ 149) (pow_pos 149) x t (subnormal (omega arith))
      ∙ ap (λ (n : ℕ). ceiling (tenths_per_unit * (n * 2 ^ 0)) (2 ^ 149)) d

  least_subnormal : exponent bits ≡ 0 → (fraction bits ≡ 0 → ⊥) → least x ≡ 1
  least_subnormal z d =
      least_of (fraction bits * 2 ^ 0) (2 ^ 149) (pow_pos 149) x t (subnormal z)
      ∙ ceilings.one (tenths_per_unit * (fraction bits * 2 ^ 0)) (2 ^ 149) (omega arith) (le_trans {m = 2 ^ 28} (omega arith) (lit≤ tt))

  module _ (p : 0 < exponent bits) where
    abbrev k : ℕ
    k = exponent bits - 1

    abbrev significand : ℕ
    significand = 0x80_0000 + fraction bits

    value : Equals x (significand * 2 ^ k) (2 ^ 149)
    value = normal k (omega arith)

    least_small : exponent bits < 120 → least x ≡ 1
    least_small h =
        let s : tenths_per_unit * significand ≤ 2 ^ 28 = omega arith in
        let e : k ≤ 118 = omega arith in
        let u : tenths_per_unit * significand * 2 ^ k ≤ 2 ^ 28 * 2 ^ 118 = mul-le-mul s (pow_mono e) in
        let w : 0 < significand * 2 ^ k = mul-pos (omega arith) (pow_pos k) in
        least_of (significand * 2 ^ k) (2 ^ 149) (pow_pos 149) x t value
        ∙ ceilings.one (tenths_per_unit * (significand * 2 ^ k)) (2 ^ 149) (mul-pos {m = tenths_per_unit} (lit< tt) w)
        (le_trans (le_of_eq (sym (mul_assoc tenths_per_unit significand (2 ^ k)))) (le_trans u (lit≤ tt)))

    pub exponent_top : exponent bits ≤ 136
    exponent_top =
        let a : significand * 2 ^ k ≤ 1000 * 2 ^ 149 = size_of (significand * 2 ^ k) (2 ^ 149) (pow_pos 149) x t value in
        let s : 2 ^ 23 ≤ significand = omega arith in
        let c : k < 136 = lt_of_not-le (λ h. not-le_of_lt (lit< tt) (le_trans {m = significand * 2 ^ k} (mul-le-mul s (pow_mono {i = 136} h)) a)) in
        omega arith

    pub least_normal : least x ≡ ceiling (tenths_per_unit * significand) (2 ^ (150 - exponent bits))
    least_normal =
        let d = 150 - exponent bits in
        let e : k + d ≡ 149 = omega (arith, exponent_top) in
        least_of (significand * 2 ^ k) (2 ^ 149) (pow_pos 149) x t value
        ∙ ceilings.same (tenths_per_unit * (significand * 2 ^ k)) (2 ^ 149) (tenths_per_unit * significand) (2 ^ d) (pow_pos 149) (pow_pos d)
        (ap (λ (n : ℕ). n * 2 ^ d) (sym (mul_assoc tenths_per_unit significand (2 ^ k)))
        ∙ mul_assoc (tenths_per_unit * significand) (2 ^ k) (2 ^ d)
        ∙ ap (λ (n : ℕ). tenths_per_unit * significand * n) (sym (pow-add 2 k d) ∙ ap (λ (n : ℕ). 2 ^ n) e))

  -- less than 1 / 128, and not 0
  pub least_tiny : magnitude bits < 120 * 0x80_0000 → (magnitude bits ≡ 0 → ⊥) → least x ≡ 1
  least_tiny h n = go (exponent bits) refl
    where
      go : (k : ℕ) → exponent bits ≡ k → least x ≡ 1
      go zero z = least_subnormal z (λ d. n (omega arith))
      go (suc k) z = least_small (omega arith) (omega arith)
