-- `ceiling a c` is the least whole number that is not below the fraction a / c. Assumes nothing.
use mathlib.Core.Path.{◌≡◌, refl, sym, ap, ◌∙◌}
use mathlib.Core.Bool.{Bool, true, false}
use Prim.Native.Nat.{ℕ, suc, ◌+◌, ◌-◌, ◌*◌, ◌/◌, ◌≤◌, ◌<◌}
use native.Mathlib.Nat.{le_trans, le_of_eq, le_antisymm, lt_of_not-le, not-le_of_lt, le_of_mul-le-mul_right, mul-le-mul_left, mul-le-mul_right, le_of_mul-le-mul_left, mul_comm, mul_assoc, mul_right_comm, lt-div-mul-add, div-lt_iff_lt-mul, div-eq_of_lt-le, div-eq_of_lt, suc-mul}
use native.Mathlib.Omega.{arith}
use borrow.Author.Tests.{leb-true, leb-false, le-leb, lt-leb}
use lib.Dec.{leb}
use Rattle.std.specs.Int.{div_ceil}
use Rattle.std.proofs.lemmas.Grind.{div_ceil_times}
use Rattle.readings.specs.Value.{ceiling}

pub not_below : (a c : ℕ) → 0 < c → a ≤ ceiling a c * c
not_below a c h =
    let l : a + (c - 1) < (a + (c - 1)) / c * c + c = lt-div-mul-add h in
    omega arith

pub is_least : (a c k : ℕ) → 0 < c → a ≤ k * c → ceiling a c ≤ k
is_least a c k h e =
    let t : a + (c - 1) < suc k * c = rw suc-mul (omega arith) in
    let l : (a + (c - 1)) / c < suc k = (div-lt_iff_lt-mul h).1 t in
    omega arith

grows : (a b c d : ℕ) → 0 < b → 0 < d → a * d ≤ c * b → ceiling a b ≤ ceiling c d
grows a b c d hb hd e =
    is_least a b (ceiling c d) hb
    (le_of_mul-le-mul_right (le_trans e (le_trans (mul-le-mul_right b (not_below c d hd)) (le_of_eq (mul_right_comm (ceiling c d) d b)))) hd)

-- equal fractions have the same ceiling
pub same : (a b c d : ℕ) → 0 < b → 0 < d → a * d ≡ c * b → ceiling a b ≡ ceiling c d
same a b c d hb hd e = le_antisymm (grows a b c d hb hd (le_of_eq e)) (grows c d a b hd hb (le_of_eq (sym e)))

-- a fraction above 0 and up to 1
pub one : (a c : ℕ) → 0 < a → a ≤ c → ceiling a c ≡ 1
one a c h k = div-eq_of_lt-le c (omega arith) (omega arith)

pub zero_of : (c : ℕ) → 0 < c → ceiling 0 c ≡ 0
zero_of c h = div-eq_of_lt (omega arith)

-- the library's own words for it
pub by_parts : (a c : ℕ) → 0 < c → div_ceil a c ≡ ceiling a c
by_parts a c h =
    let between = div_ceil_times a c h in
    sym (div-eq_of_lt-le c (omega (arith, between.1)) (omega (arith, between.0)))

-- rounded up in parts, k to a unit, and then to whole units: the same as rounded up to whole units at once
pub nested : (k a c : ℕ) → 0 < k → 0 < c → ceiling (ceiling (k * a) c) k ≡ ceiling a c
nested k a c hk hc =
    let whole = ceiling a c in
    let parts = ceiling (k * a) c in
    let units = ceiling parts k in
    le_antisymm
    (is_least parts k whole hk
    (is_least (k * a) c (whole * k) hc
    (le_trans (mul-le-mul_left k (not_below a c hc)) (le_of_eq (sym (mul_assoc k whole c) ∙ ap (λ (n : ℕ). n * c) (mul_comm k whole))))))
    (is_least a c units hc
    (le_of_mul-le-mul_left
    (le_trans (not_below (k * a) c hc)
    (le_trans (mul-le-mul_right c (not_below parts k hk)) (le_of_eq (ap (λ (n : ℕ). n * c) (mul_comm units k) ∙ mul_assoc k units c))))
    hk))

-- n parts are within some whole units exactly where n rounded up to whole units is
pub whole_limit : (n k units : ℕ) → 0 < k → leb n (k * units) ≡ leb (ceiling n k) units
whole_limit n k units h = go (leb (ceiling n k) units) refl
  where
    go : (b : Bool) → leb (ceiling n k) units ≡ b → leb n (k * units) ≡ b
    go true e =
        le-leb n (k * units) (le_trans (not_below n k h) (le_trans (mul-le-mul_right k (leb-true (ceiling n k) units e)) (le_of_eq (mul_comm units k))))
    go false e =
        lt-leb n (k * units) (lt_of_not-le (λ l. not-le_of_lt (leb-false (ceiling n k) units e) (is_least n k units h (le_trans l (le_of_eq (mul_comm k units))))))
