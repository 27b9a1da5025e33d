-- `bench_line::numbers::byte_at` meets its contract. The pair is there, with two digits, or there is none. Assumes nothing.
use mathlib.Core.Path.{sym}
use Prim.Native.Nat.{◌+◌, ◌*◌}
use native.Mathlib.Omega.{arith}
use Rattle.bench_line.proofs.Pairs.{pairs_digit, byte_there, byte_missing}
use Rattle.bench_line.proofs.numbers.byte_at.Goals as goal

pub returns-then-hex-pair : goal.returns-then-hex-pair
returns-then-hex-pair c =
    let a = c.args in
    sym (byte_missing a.hex.now a.pair c.if-hex-pair.true)

pub overflow_mul-result : goal.overflow_mul-result
overflow_mul-result c =
    omega (arith, c.digit_value.ensures, pairs_digit c.args.hex.now (2 * c.args.pair) c.requires (omega arith))

pub overflow_add-result : goal.overflow_add-result
overflow_add-result c =
    let digit-there = pairs_digit c.args.hex.now in
    omega (
      arith,
      c.digit_value.ensures,
      digit-there (2 * c.args.pair) c.requires (omega arith),
      c.digit_value-2.ensures,
      digit-there (2 * c.args.pair + 1) c.requires (omega arith),
    )

pub returns : goal.returns
returns c =
    let a = c.args in
    rw (c.digit_value.ensures, c.digit_value-2.ensures) (sym (byte_there a.hex.now a.pair (omega arith)))
