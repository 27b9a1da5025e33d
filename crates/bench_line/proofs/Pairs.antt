-- Hex in pairs of digits: the test of all digits, the byte of each pair, and bytes written one by one with 0 behind them. Assumes nothing.
use mathlib.Core.Bool.{Bool, true, false, cond, ◌&&◌, ◌||◌}
use mathlib.Core.List.{List, [], ◌∷◌, ◌++◌}
use mathlib.Core.Path.{◌≡◌, refl, sym, ap}
use Prim.Native.Nat.{ℕ, zero, suc, ◌+◌, ◌-◌, ◌*◌, ◌/◌, ◌%◌, ◌≤◌, ◌<◌}
use native.Mathlib.Numerals.{add-one}
use native.Mathlib.Omega.{arith}
use lib.Dec.{leb, ltb, eqb}
use lib.ListN.{length, get_or, set, take}
use lib.Seq.{take-suc-set}
use borrow.Author.Tests.{leb-true, ltb-true, lt-ltb}
use Rattle.std.specs.Char.{is_ascii_hexdigit}
use Rattle.std.specs.List.{list_all}
use Rattle.common.proofs.Bools.{and_first, and_second}
use Rattle.common.specs.Tests.{between}
use Rattle.common.specs.Texts.{digit_value, is_digit, all_digits}
use Rattle.bench_line.specs.Digits.{is_pairs, bytes_of, padded}

-- the test as the library goes through the characters
pub all_are : (base : ℕ) (s : List ℕ) → list_all (λ c. is_digit base c) s ≡ all_digits base s
all_are base [] = refl
all_are base (c ∷ s) = ap (λ b. is_digit base c && b) (all_are base s)

-- a hex digit, as the library has it
pub hex_digit : (c : ℕ) → is_ascii_hexdigit c ≡ is_digit 16 c
unfolding digit_value
hex_digit c = go (between 48 57 c) refl (between 65 70 c) refl (between 97 102 c) refl
  where
    within : (a b : ℕ) → between a b c ≡ true → c ≤ b
    within a b e = leb-true c b (and_second (leb a c) (leb c b) e)

    go :
        (p : Bool)
        → between 48 57 c ≡ p
        → (q : Bool)
        → between 65 70 c ≡ q
        → (r : Bool)
        → between 97 102 c ≡ r
        → (p || q) || r ≡ ltb (cond p (c - 48) (cond q (c - 55) (cond r (c - 87) 16))) 16
    go true e q f r g = sym (lt-ltb (c - 48) 16 (omega (arith, within 48 57 e)))
    go false e true f r g = sym (lt-ltb (c - 55) 16 (omega (arith, within 65 70 f)))
    go false e false f true g = sym (lt-ltb (c - 87) 16 (omega (arith, within 97 102 g)))
    go false e false f false g = refl

pub pairs_digits : (s : List ℕ) → is_pairs s ≡ true → all_digits 16 s ≡ true
unfolding is_pairs
pairs_digits s e = and_second (eqb (length s % 2) 0) (all_digits 16 s) e

digit_of_all : (s : List ℕ) (i : ℕ) → all_digits 16 s ≡ true → i < length s → digit_value (get_or s i 0) < 16
digit_of_all [] i e h = absurd (omega arith)
digit_of_all (c ∷ s) zero e h = ltb-true (digit_value c) 16 (and_first (is_digit 16 c) (all_digits 16 s) e)
digit_of_all (c ∷ s) (suc i) e h = digit_of_all s i (and_second (is_digit 16 c) (all_digits 16 s) e) (omega arith)

pub pairs_digit : (s : List ℕ) (i : ℕ) → is_pairs s ≡ true → i < length s → digit_value (get_or s i 0) < 16
pairs_digit s i e h = digit_of_all s i (pairs_digits s e) h

-- the byte of a pair, and 0 where there is none
pub byte_there :
    (s : List ℕ) (k : ℕ)
    → k < length s / 2
    → get_or (bytes_of s) k 0 ≡ 16 * digit_value (get_or s (2 * k) 0) + digit_value (get_or s (2 * k + 1) 0)
byte_there [] k h = absurd (omega arith)
byte_there (a ∷ []) k h = absurd (omega arith)
byte_there (a ∷ b ∷ s) zero h = refl
byte_there (a ∷ b ∷ s) (suc k) h =
    let e : 2 * suc k ≡ suc (suc (2 * k)) = omega arith in
    let g : suc (suc (2 * k)) + 1 ≡ suc (suc (2 * k + 1)) = omega arith in
    rw (e, g) (byte_there s k (omega arith))

pub byte_missing : (s : List ℕ) (k : ℕ) → length s / 2 ≤ k → get_or (bytes_of s) k 0 ≡ 0
byte_missing [] k h = refl
byte_missing (a ∷ []) k h = refl
byte_missing (a ∷ b ∷ s) zero h = absurd (omega arith)
byte_missing (a ∷ b ∷ s) (suc k) h = byte_missing s k (omega arith)

padded_suc : (n : ℕ) (l : List ℕ) → padded (suc n) l ≡ padded n l ++ (get_or l n 0 ∷ [])
padded_suc zero [] = refl
padded_suc zero (b ∷ l) = refl
padded_suc (suc n) [] = ap (◌∷◌ 0) (padded_suc n [])
padded_suc (suc n) (b ∷ l) = ap (◌∷◌ b) (padded_suc n l)

-- one more byte written
pub padded_more :
    (l d : List ℕ) (i x : ℕ)
    → i < length d
    → x ≡ get_or l i 0
    → take i d ≡ padded i l
    → take (i + 1) (set d i x) ≡ padded (i + 1) l
padded_more l d i x h e before = rw (add-one i, take-suc-set d i x h, before, e, padded_suc i l)
