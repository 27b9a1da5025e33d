-- Flags in a byte. Document 01: "bits from 0 as the lowest". Definitions only.
use Rattle.std.specs.Prelude.{Bool, cond, List, [], ◌∷◌, ℕ, ◌+◌, ◌*◌, ◌/◌, ◌%◌, ◌^◌, eqb}

-- bit n of a byte
abbrev pub bit_at : ℕ → ℕ → Bool
bit_at n byte = eqb (byte / 2 ^ n % 2) 1

abbrev pub bit_value : Bool → ℕ
bit_value set = cond set 1 0

-- a flag's part of a byte that is the sum of its flags
abbrev pub flag_of : Bool → ℕ → ℕ
flag_of set weight = weight * bit_value set

-- the byte that has the given bits, from bit 0 on
abbrev pub byte_of : List Bool → ℕ
byte_of [] = 0
byte_of (bit ∷ bits) = bit_value bit + 2 * byte_of bits
