-- The volts at the connector are from 0 to 1000 where the volts are, and neither the amperes nor the resistance is negative or above 1000. Assumes nothing.
use mathlib.Core.Path.{◌≡◌, refl, sym, ap, ◌∙◌, subst}
use mathlib.Core.Bool.{Bool, true, false, not, cond, ◌&&◌}
use Prim.Native.Nat.{ℕ, zero, suc, ◌+◌, ◌-◌, ◌*◌, ◌^◌, ◌≤◌, ◌<◌}
use native.Mathlib.Nat.{zero-mul, mul-zero, mul-one, mul-pos, mul_assoc, mul-le-mul_right, le_trans, le_of_eq}
use native.Mathlib.Omega.{arith}
use borrow.Author.Tests.{not-false, ltb-false}
use lib.IntN.{pos}
use lib.Dec.{T, ltb, eqb, lit<, lit≤}
use lib.Ieee.{Float, nan, inf, fin, up, down, binary32, unlike, le, lt, eq, of_int, round, units, odd, sum, add, sub, neg, mul, is_nan}
use lib.Ieee.Fits.{and_i, and_l, and_r, eq→eqb, down_pos, round_is}
use lib.Ieee.Order.{round_mono, le_of_values}
use lib.Ieee.Scale.{round_same}
use Rattle.std.proofs.lemmas.Bool.{false≢true}
use Rattle.readings.specs.Value.{number, within}
use Rattle.readings.specs.Readings.{in_range, connector_volts}
use Rattle.readings.specs.declared.Measurement.{Measurement}
use Rattle.readings.proofs.InRange.{lower, sized, minus_zero_lem, no_nan, no_inf, minus_below, wider}
use Rattle.common.proofs.Bools.{holds}

-- ---- a rounded number is at most 1000 where the exact one is, or where its sign says negative

odd_below : (q k : ℕ) → T (le (odd 25 true q k 149) (number 1000))
unfolding odd
odd_below zero k = minus_below 0 (pos 0)
odd_below (suc q) k = minus_below _ _

units_below : (q k : ℕ) → T (le (units binary32 true q k) (number 1000))
unfolding units le lt of_int
units_below q k = go (ltb (q * 2 ^ k) (2 ^ 277))
  where
    go : (b : Bool) → T (le (cond b (odd 25 true q k 149) (inf true)) (number 1000))
    go true = odd_below q k
    go false = tt

below_zero : (n c : ℕ) → T (le (round binary32 true n c) (number 1000))
below_zero n c = subst (λ (y : Float). T (le y (number 1000))) (sym (round_is binary32 true n c)) (units_below _ _)

capped : (r : Bool) (n c : ℕ) → 0 < c → (r ≡ false → n ≤ 1000 * c) → T (le (round binary32 r n c) (number 1000))
unfolding of_int
capped true n c p h = below_zero n c
capped false n c p h = round_mono binary32 n c 1000 1 p (lit< tt) (le_trans (le_of_eq (mul-one n)) (h refl))

zero_rounded : (s : Bool) (c : ℕ) → 0 < c → round binary32 s 0 c ≡ fin s 0 (pos 0)
unfolding round units odd
zero_rounded s c p = round_same binary32 s 0 c 0 1 p (lit< tt) (sym (zero-mul c))

-- ---- the difference

-- two fractions of one denominator with their signs, the first in range; the second is 0 where it would add
sum_capped : (s t : Bool) (a b c : ℕ) → 0 < c → a ≤ 1000 * c → (t ≡ false → b ≡ 0) → T (le (sum binary32 s a t b c) (number 1000))
unfolding sum
sum_capped true true a b c p h z = below_zero (a + b) c
sum_capped false false a b c p h z = capped false (a + b) c p (λ e. (let y : b ≡ 0 = z refl in omega arith))
sum_capped true false a b c p h z = go (ltb a b) (ltb b a)
  where
    go : (u v : Bool) → T (le (cond u (round binary32 false (b - a) c) (round binary32 (true && v) (a - b) c)) (number 1000))
    go true v = capped false (b - a) c p (λ e. (let y : b ≡ 0 = z refl in omega arith))
    go false v = capped v (a - b) c p (λ e. (omega arith))
sum_capped false true a b c p h z = go (ltb a b)
  where
    go : (u : Bool) → T (le (cond u (round binary32 true (b - a) c) (round binary32 false (a - b) c)) (number 1000))
    go true = below_zero (b - a) c
    go false = capped false (a - b) c p (λ e. (omega arith))

-- ---- the product is not negative: no NaN, no negative infinity, and zero where its sign says minus

abbrev NonNegative : Float → Type 0
NonNegative nan = ⊥
NonNegative (inf s) = s ≡ false
NonNegative (fin s m e) = s ≡ true → m * up e ≡ 0

nonnegative_odd : (q k : ℕ) → NonNegative (odd 25 false q k 149)
unfolding odd
nonnegative_odd zero k = λ e. absurd (false≢true e)
nonnegative_odd (suc q) k = λ e. absurd (false≢true e)

nonnegative_units : (q k : ℕ) → NonNegative (units binary32 false q k)
unfolding units
nonnegative_units q k = go (ltb (q * 2 ^ k) (2 ^ 277))
  where
    go : (b : Bool) → NonNegative (cond b (odd 25 false q k 149) (inf false))
    go true = nonnegative_odd q k
    go false = refl

nonnegative_round : (s : Bool) (n c : ℕ) → 0 < c → (s ≡ true → n ≡ 0) → NonNegative (round binary32 s n c)
nonnegative_round true n c p h = subst NonNegative (sym (ap (λ (k : ℕ). round binary32 true k c) (h refl) ∙ zero_rounded true c p)) (λ e. refl)
nonnegative_round false n c p h = subst NonNegative (sym (round_is binary32 false n c)) (nonnegative_units _ _)

nonnegative_mul : (x y : Float) → T (within 1000 x) → T (within 1000 y) → NonNegative (mul binary32 x y)
unfolding mul is_nan
nonnegative_mul nan y t u = absurd (no_nan nan t)
nonnegative_mul (inf s) y t u = absurd (no_inf s t)
nonnegative_mul (fin s m e) nan t u = absurd (no_nan nan u)
nonnegative_mul (fin s m e) (inf r) t u = absurd (no_inf r u)
nonnegative_mul (fin s m e) (fin r n d) t u =
    nonnegative_round (unlike s r) (m * up e * (n * up d)) (down e * down d) (mul-pos (down_pos e) (down_pos d)) (zero-if s r t u)
  where
    zero-if : (s r : Bool) → T (within 1000 (fin s m e)) → T (within 1000 (fin r n d)) → unlike s r ≡ true → m * up e * (n * up d) ≡ 0
    zero-if true r t u z = ap (λ (k : ℕ). k * (n * up d)) (minus_zero_lem m e (lower 1000 (fin true m e) t)) ∙ zero-mul (n * up d)
    zero-if false true t u z = ap (λ (k : ℕ). m * up e * k) (minus_zero_lem n d (lower 1000 (fin true n d) u)) ∙ mul-zero (m * up e)
    zero-if false false t u z = absurd (false≢true z)

-- ---- the volts at the connector

sub_capped : (v p : Float) → T (within 1000 v) → NonNegative p → T (le (sub binary32 v p) (number 1000))
unfolding sub add neg is_nan le lt of_int
sub_capped nan p t f = absurd (no_nan nan t)
sub_capped (inf s) p t f = absurd (no_inf s t)
sub_capped (fin s m e) nan t f = absurd f
sub_capped (fin s m e) (inf true) t f = absurd (false≢true (sym f))
sub_capped (fin s m e) (inf false) t f = tt
sub_capped (fin s m e) (fin r n d) t f =
    sum_capped s (not r) (m * up e * down d) (n * up d * down e) (down e * down d) (mul-pos (down_pos e) (down_pos d))
    (le_trans (mul-le-mul_right (down d) (sized s m e t)) (le_of_eq (mul_assoc 1000 (down e) (down d))))
    (λ z. ap (λ (k : ℕ). k * down e) (f (not-false r z)) ∙ zero-mul (down e))

from_zero : (d : Float) → T (le d (number 1000)) → lt d (number 0) ≡ false → T (le (number 0) d)
unfolding le lt eq of_int
from_zero nan u l = absurd u
from_zero (inf true) u l = absurd (false≢true (sym l))
from_zero (inf false) u l = tt
from_zero (fin true m e) u l =
    let h : m * up e * 1 + 0 * down e ≤ 0 = ltb-false 0 (m * up e * 1 + 0 * down e) l in
    let z : 0 * down e ≡ m * up e * 1 = omega arith in
    and_i (eqb (0 * down e) (m * up e * 1)) (eqb (0 * down e) 0) (eq→eqb z) (eq→eqb (zero-mul (down e)))
from_zero (fin false m e) u l = le_of_values (number 0) (fin false m e) 0 1 (m * up e) (down e) (lit< tt) (down_pos e) (refl, refl) (refl, refl) (omega arith)

pub connector_within :
    (m : Measurement)
    → T (within 1000 m.volts)
    → T (within 1000 m.amperes)
    → T (within 1000 m.resistance)
    → T (within 1000 (connector_volts m))
unfolding connector_volts le lt eq of_int
connector_within m hv ha hr = go (lt d (number 0)) refl
  where
    d : Float
    d = sub binary32 m.volts (mul binary32 m.resistance m.amperes)

    top : T (le d (number 1000))
    top = sub_capped m.volts (mul binary32 m.resistance m.amperes) hv (nonnegative_mul m.resistance m.amperes hr ha)

    go : (b : Bool) → lt d (number 0) ≡ b → T (within 1000 (cond b (number 0) d))
    go true e = tt
    go false e = and_i (le (number 0) d) (le d (number 1000)) (from_zero d top e) top

-- both values of a reading in range are in the range of `least`
pub values_within :
    (m : Measurement)
    → in_range m ≡ true
    → within 1 m.resistance ≡ true
    → T (within 1000 (connector_volts m)) × T (within 1000 m.amperes)
unfolding in_range
values_within m e r =
    let volts = and_l (within 1000 m.volts) (within 400 m.amperes) (holds e) in
    let amperes = wider 400 m.amperes (lit≤ tt) (and_r (within 1000 m.volts) (within 400 m.amperes) (holds e)) in
    (connector_within m volts amperes (wider 1 m.resistance (lit≤ tt) (holds r)), amperes)
