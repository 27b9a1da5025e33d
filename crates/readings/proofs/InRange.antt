-- What the two comparisons of `within` say of a float's value. Assumes nothing.
use mathlib.Core.Path.{◌≡◌, refl, sym, ap, ◌∙◌, subst}
use mathlib.Core.Logic.{inl, inr}
use mathlib.Core.Bool.{Bool, true, false, not, ◌&&◌, ◌||◌}
use Prim.Native.Nat.{ℕ, ◌+◌, ◌*◌, ◌^◌, ◌≤◌, ◌<◌}
use native.Mathlib.Nat.{le_trans, le_of_eq, le_of_mul-le-mul_right, mul-one, zero-mul, mul_right_comm, mul-le-mul_right}
use native.Mathlib.Omega.{arith}
use lib.IntN.{ℤ}
use lib.Dec.{T, ltb, eqb, ltb→lt, lt→ltb, eqb→eq, lit<, lit≤}
use lib.Ieee.{Float, nan, inf, fin, up, down, binary32, le, lt, eq, of_int, is_nan}
use lib.Ieee.Fits.{and_i, and_l, and_r, down_pos}
use lib.Ieee.Back.{round_whole}
use lib.Ieee.Exact.{HasValue}
use lib.Ieee.Order.{le_of_values}
use Rattle.readings.specs.Value.{number, within}
use mir.Facts.{or_yes}
use Rattle.common.proofs.Bools.{or_l}

pub lower : (top : ℕ) (x : Float) → T (within top x) → T (le (number 0) x)
lower top x t = and_l (le (number 0) x) (le x (number top)) t

pub upper : (top : ℕ) (x : Float) → T (within top x) → T (le x (number top))
upper top x t = and_r (le (number 0) x) (le x (number top)) t

-- no NaN and no infinity is in the range of a reading
pub no_nan : (x : Float) → T (within 1000 x) → T (not (is_nan x))
unfolding le lt eq of_int is_nan
no_nan nan t = t
no_nan (inf s) t = tt
no_nan (fin s m e) t = tt

pub no_inf : (s : Bool) → T (within 1000 (inf s)) → ⊥
unfolding le lt eq of_int
no_inf true t = t
no_inf false t = t

-- a negative float that is not below 0 is minus zero
pub minus_zero_lem : (m : ℕ) (e : ℤ) → T (le (number 0) (fin true m e)) → m * up e ≡ 0
unfolding le lt eq of_int
minus_zero_lem m e t =
    let h : 0 * down e ≡ m * up e * 1 = eqb→eq (0 * down e) (m * up e * 1) (and_l (eqb (0 * down e) (m * up e * 1)) _ t) in
    sym (mul-one (m * up e)) ∙ sym h ∙ zero-mul (down e)

pub at_most : (a b : ℕ) (z : Bool) → T (ltb a b || (eqb a b && z)) → a ≤ b
at_most a b z t = elim (or_yes (ltb a b) (eqb a b && z) t) [
  | inl l ↦ (let h : a < b = ltb→lt a b l in omega arith)
  | inr r ↦ le_of_eq (eqb→eq a b (and_l (eqb a b) z r))
]

under_1000 : (m : ℕ) (e : ℤ) → T (le (fin false m e) (number 1000)) → m * up e ≤ 1000 * down e
unfolding le lt eq of_int
under_1000 m e t = rw mul-one at (at_most (m * up e * 1) (1000 * down e) _ t)

-- the size of a float in range, whatever its sign
pub sized : (s : Bool) (m : ℕ) (e : ℤ) → T (within 1000 (fin s m e)) → m * up e ≤ 1000 * down e
sized true m e t = let z : m * up e ≡ 0 = minus_zero_lem m e (lower 1000 _ t) in omega arith
sized false m e t = under_1000 m e (upper 1000 _ t)

-- ---- a range within that of a reading

exact : (n : ℕ) → n ≤ 2 ^ 24 → HasValue (number n) false n 1
unfolding of_int
exact n h = round_whole binary32 false n h

pub minus_below : (m : ℕ) (e : ℤ) → T (le (fin true m e) (number 1000))
unfolding le lt eq of_int
minus_below m e = or_l (lt (fin true m e) (number 1000)) (eq (fin true m e) (number 1000)) (lt→ltb 0 (m * up e * 1 + 1000 * down e) (let p : 0 < down e = down_pos e in omega arith))

-- from 0 to a float whose value is n
cap : (n : ℕ) (x y : Float) → n ≤ 1000 → HasValue y false n 1 → T (le (number 0) x) → T (le x y) → T (le x (number 1000))
unfolding le lt eq of_int
cap n x nan h v l u = absurd v
cap n x (inf s) h v l u = absurd v
cap n nan (fin s k d) h v l u = absurd u
cap n (inf true) (fin s k d) h v l u = absurd l
cap n (inf false) (fin s k d) h v l u = absurd u
cap n (fin true m e) (fin s k d) h v l u = minus_below m e
cap n (fin false m e) (fin true k d) h v l u = absurd (subst T v.0 tt)
cap n (fin false m e) (fin false k d) h v l u =
    let a : m * up e * down d ≤ k * up d * down e = at_most (m * up e * down d) (k * up d * down e) _ u in
    let b : k * up d ≡ n * down d = sym (mul-one (k * up d)) ∙ v.1 in
    let c : m * up e ≤ n * down e = le_of_mul-le-mul_right (le_trans a (le_of_eq (ap (λ (j : ℕ). j * down e) b ∙ mul_right_comm n (down d) (down e)))) (down_pos d) in
    le_of_values (fin false m e) (number 1000) (m * up e) (down e) 1000 1 (down_pos e) (lit< tt) (refl, refl) (exact 1000 (lit≤ tt))
    (le_trans (le_of_eq (mul-one (m * up e))) (le_trans c (mul-le-mul_right (down e) h)))

pub wider : (n : ℕ) (x : Float) → n ≤ 1000 → T (within n x) → T (within 1000 x)
wider n x h t =
    and_i (le (number 0) x) (le x (number 1000)) (lower n x t)
    (cap n x (number n) h (exact n (le_trans h (lit≤ tt))) (lower n x t) (upper n x t))
