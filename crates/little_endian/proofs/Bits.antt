-- A byte put together of bits: each read again, and how large it is. Assumes nothing.
use mathlib.Core.Bool.{Bool, true, false}
use mathlib.Core.List.{List, [], ◌∷◌}
use mathlib.Core.Path.{◌≡◌, sym, ap, ◌∙◌}
use Prim.Native.Nat.{ℕ, zero, suc, ◌+◌, ◌*◌, ◌/◌, ◌%◌, ◌^◌, ◌<◌}
use native.Mathlib.Nat.{zero-div, pow-succ'}
use native.Mathlib.Omega.{arith}
use borrow.Author.Tests.{eq-eqb, ne_eqb}
use lib.Dec.{eqb}
use lib.ListN.{length, get_or}
use lib.Pow.{shr-shr}
use Rattle.little_endian.specs.Flags.{bit_at, bit_value, byte_of}

half : (bit : Bool) (m : ℕ) → (bit_value bit + 2 * m) / 2 ≡ m
half true m = omega arith
half false m = omega arith

pub bit_back : (bits : List Bool) (k : ℕ) → bit_at k (byte_of bits) ≡ get_or bits k false
bit_back [] k = ap (λ (n : ℕ). eqb (n % 2) 1) (zero-div (2 ^ k))
bit_back (true ∷ bits) zero = eq-eqb ((1 + 2 * byte_of bits) / 1 % 2) 1 (omega arith)
bit_back (false ∷ bits) zero = ne_eqb ((0 + 2 * byte_of bits) / 1 % 2) 1 (omega arith)
bit_back (bit ∷ bits) (suc k) =
    let next : suc k ≡ 1 + k = omega arith in
    ap (λ (n : ℕ). eqb (n % 2) 1)
    (ap (λ (j : ℕ). (bit_value bit + 2 * byte_of bits) / 2 ^ j) next
    ∙ sym (shr-shr (bit_value bit + 2 * byte_of bits) 1 k)
    ∙ ap (λ (n : ℕ). n / 2 ^ k) (half bit (byte_of bits)))
    ∙ bit_back bits k

pub byte_below : (bits : List Bool) → byte_of bits < 2 ^ length bits
byte_below [] = omega arith
byte_below (bit ∷ bits) =
    rw (pow-succ' 2 (length bits)) (go bit (byte_below bits))
  where
    go : (b : Bool) → byte_of bits < 2 ^ length bits → bit_value b + 2 * byte_of bits < 2 * 2 ^ length bits
    go true r = omega arith
    go false r = omega arith
