-- Numbers of two, four and eight bytes, the lowest byte first. Definitions only.
use Rattle.std.specs.Prelude.{List, [], ◌∷◌, ◌++◌, ℕ, ◌+◌, ◌*◌, ◌/◌, ◌%◌, get_or}

abbrev pub byte_at : List ℕ → ℕ → ℕ
byte_at s at = get_or s at 0

-- the number that starts at a place of a list of bytes
abbrev pub u16_at : List ℕ → ℕ → ℕ
u16_at s at = byte_at s at + 256 * byte_at s (at + 1)

abbrev pub u32_at : List ℕ → ℕ → ℕ
u32_at s at = u16_at s at + 65536 * u16_at s (at + 2)

abbrev pub u64_at : List ℕ → ℕ → ℕ
u64_at s at = u32_at s at + 4294967296 * u32_at s (at + 4)

-- the two bytes of a number below 65,536
abbrev pub low_byte : ℕ → ℕ
low_byte x = x % 256

abbrev pub high_byte : ℕ → ℕ
high_byte x = x / 256

-- the two halves of a number below 4,294,967,296
abbrev pub low_half : ℕ → ℕ
low_half x = x % 65536

abbrev pub high_half : ℕ → ℕ
high_half x = x / 65536

-- the two words of a number below 18,446,744,073,709,551,616
abbrev pub low_word : ℕ → ℕ
low_word x = x % 4294967296

abbrev pub high_word : ℕ → ℕ
high_word x = x / 4294967296

-- a number as its bytes
abbrev pub u16_bytes : ℕ → List ℕ
u16_bytes x = low_byte x ∷ high_byte x ∷ []

abbrev pub u32_bytes : ℕ → List ℕ
u32_bytes x = u16_bytes (low_half x) ++ u16_bytes (high_half x)

abbrev pub u64_bytes : ℕ → List ℕ
u64_bytes x = u32_bytes (low_word x) ++ u32_bytes (high_word x)
