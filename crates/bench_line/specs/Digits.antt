-- Document 01, 'Bench program': digits, numbers and bytes as text, in ASCII. Definitions only.
use Rattle.std.specs.Prelude.{Bool, cond, ◌&&◌, Option, None, List, [], ◌∷◌, ℕ, zero, suc, ◌+◌, ◌*◌, ◌/◌, ◌%◌, ltb, eqb, length}
use Rattle.common.specs.Texts.{digit_value, all_digits, number_in}

-- "Setup's first three numbers are decimal, at most 65,535"; 2026-08: "the two errors in decimal, at most 65,535"
unfoldable pub decimal_of : List ℕ → Option ℕ
decimal_of s = cond (eqb (length s) 0) None (number_in 10 65535 s)

-- "resistance bits (8 hex digits, as one number, highest first)": it always fits 32 bits
unfoldable pub bits_of : List ℕ → Option ℕ
bits_of s = cond (eqb (length s) 8) (number_in 16 4294967295 s) None

-- "hex comes in pairs of digits", each a byte
unfoldable pub is_pairs : List ℕ → Bool
is_pairs s = eqb (length s % 2) 0 && all_digits 16 s

abbrev pub bytes_of : List ℕ → List ℕ
bytes_of [] = []
bytes_of (a ∷ []) = []
bytes_of (a ∷ b ∷ s) = (16 * digit_value a + digit_value b) ∷ bytes_of s

-- the first n of some bytes, "missing final bytes 0"
abbrev pub padded : ℕ → List ℕ → List ℕ
padded zero l = []
padded (suc n) [] = 0 ∷ padded n []
padded (suc n) (b ∷ l) = b ∷ padded n l

-- "in capital hex"
unfoldable pub digit : ℕ → ℕ
digit n = cond (ltb n 10) (48 + n) (55 + n)

abbrev pub hex_text : List ℕ → List ℕ
hex_text [] = []
hex_text (b ∷ l) = digit (b / 16) ∷ digit (b % 16) ∷ hex_text l
