-- A number of four bytes, read in its part or in the whole. Assumes nothing.
use mathlib.Core.List.{List}
use mathlib.Core.Path.{◌≡◌, ap, ◌∙◌}
use Prim.Native.Nat.{ℕ, ◌+◌, ◌<◌}
use native.Mathlib.Omega.{arith}
use lib.ListN.{get_or, take, drop}
use lib.Seq.{get_or-take, get_or-drop}
use Rattle.little_endian.specs.Numbers.{u32_at}

module _ (b : List ℕ) (at : ℕ) where
  byte : (i place : ℕ) → i < 4 → at + i ≡ place → get_or (take 4 (drop at b)) i 0 ≡ get_or b place 0
  byte i place h e = get_or-take 4 (drop at b) i 0 h ∙ get_or-drop at b i 0 ∙ ap (λ n. get_or b n 0) e

  pub u32_part : u32_at (take 4 (drop at b)) 0 ≡ u32_at b at
  u32_part =
      rw (
        byte 0 at (omega arith) (omega arith),
        byte 1 (at + 1) (omega arith) (omega arith),
        byte 2 (at + 2) (omega arith) (omega arith),
        byte 3 (at + 2 + 1) (omega arith) (omega arith),
      )
