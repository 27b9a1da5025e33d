-- A number written as bytes and read again is the same, and so are its bytes read and written again. Assumes nothing.
use mathlib.Core.Path.{◌≡◌}
use Prim.Native.Nat.{ℕ, ◌+◌, ◌*◌, ◌<◌}
use native.Mathlib.Omega.{arith}
use Rattle.little_endian.specs.Numbers.{low_byte, high_byte, low_half, high_half, low_word, high_word}

pub u16_back : (x : ℕ) → low_byte x + 256 * high_byte x ≡ x
u16_back x = omega arith

pub u32_back :
    (x : ℕ)
    → low_byte (low_half x) + 256 * high_byte (low_half x) + 65536 * (low_byte (high_half x) + 256 * high_byte (high_half x)) ≡ x
u32_back x = omega arith

pub u64_back : (x : ℕ) → low_word x + 4294967296 * high_word x ≡ x
u64_back x = omega arith

module _ (a b : ℕ) where
  pub low_byte_back : a < 256 → low_byte (a + 256 * b) ≡ a
  low_byte_back h = omega arith

  pub high_byte_back : a < 256 → high_byte (a + 256 * b) ≡ b
  high_byte_back h = omega arith

  pub low_half_back : a < 65536 → low_half (a + 65536 * b) ≡ a
  low_half_back h = omega arith

  pub high_half_back : a < 65536 → high_half (a + 65536 * b) ≡ b
  high_half_back h = omega arith

  pub low_word_back : a < 4294967296 → low_word (a + 4294967296 * b) ≡ a
  low_word_back h = omega arith

  pub high_word_back : a < 4294967296 → high_word (a + 4294967296 * b) ≡ b
  high_word_back h = omega arith
