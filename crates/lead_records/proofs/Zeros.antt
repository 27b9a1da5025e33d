-- Four bytes are zero where their number is. Assumes nothing.
use mathlib.Core.Bool.{◌&&◌}
use mathlib.Core.Path.{◌≡◌}
use Prim.Native.Nat.{ℕ, zero, suc, ◌+◌, ◌*◌, ◌<◌}
use native.Mathlib.Nat.{mul-zero, mul-pos}
use native.Mathlib.Omega.{arith}
use borrow.Author.Tests.{ne_eqb}
use lib.Dec.{eqb, lit<}

both_zero : (w a b : ℕ) → 0 < w → eqb (a + w * b) 0 ≡ (eqb a 0 && eqb b 0)
both_zero w zero zero h = rw (mul-zero w)
both_zero w zero (suc b) h =
    let more : 0 < w * suc b = mul-pos h (omega arith) in
    rw (ne_eqb (suc b) 0 (omega arith)) (ne_eqb (0 + w * suc b) 0 (omega arith))
both_zero w (suc a) b h = rw (ne_eqb (suc a) 0 (omega arith)) (ne_eqb (suc a + w * b) 0 (omega arith))

pub four_zero : (a b c d : ℕ) → eqb (a + 256 * b + 65536 * (c + 256 * d)) 0 ≡ (eqb a 0 && eqb b 0 && (eqb c 0 && eqb d 0))
four_zero a b c d =
    rw (both_zero 65536 (a + 256 * b) (c + 256 * d) (lit< tt), both_zero 256 a b (lit< tt), both_zero 256 c d (lit< tt))
