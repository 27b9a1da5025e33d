-- Document 01, 'Frames', first paragraph: which record of a tick counts. Definitions only.
use Rattle.std.specs.Prelude.{Bool, cond, ◌&&◌, List, ℕ, zero, suc, ◌+◌, ◌/◌, min, eqb, length, get_or, Option, Some, None}
use Rattle.common.specs.Parts.{part}
use Rattle.little_endian.specs.Numbers.{u16_at}

-- "A frame record is 11 bytes: identifier (2), length (1), data (8)."
abbrev pub record_size : ℕ
record_size = 11

abbrev pub record_at : ℕ → List ℕ → List ℕ
record_at n s = part 0 record_size n s

-- data byte i, and the number of two bytes that starts there
abbrev pub data_byte : List ℕ → ℕ → ℕ
data_byte r i = get_or r (3 + i) 0

abbrev pub data_number : List ℕ → ℕ → ℕ
data_number r i = u16_at r (3 + i)

-- "Other identifiers, or a length other than 8, are ignored."
unfoldable pub is_frame : ℕ → List ℕ → Bool
is_frame identifier r = eqb (u16_at r 0) identifier && eqb (get_or r 2 0) 8

-- "Of several with one identifier in a tick, the last counts": the last such frame among the first n records, None where there is none
abbrev pub last_of : ℕ → List ℕ → ℕ → Option (List ℕ)
last_of identifier s zero = None
last_of identifier s (suc n) = cond (is_frame identifier (record_at n s)) (Some (record_at n s)) (last_of identifier s n)

-- of the records that the count takes in; there are no more than the list has whole ones
unfoldable pub newest_record : ℕ → ℕ → List ℕ → Option (List ℕ)
newest_record identifier count s = last_of identifier s (min count (length s / record_size))
