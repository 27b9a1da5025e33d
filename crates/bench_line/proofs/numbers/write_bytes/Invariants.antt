-- `bench_line::numbers::write_bytes` meets its contract. The loop's invariant: the bytes passed are written. Assumes nothing.
use mathlib.Core.Path.{◌≡◌}
use lib.ListN.{take}
use Rattle.bench_line.specs.Digits.{bytes_of, padded}
use Rattle.bench_line.proofs.numbers.write_bytes.Given as goal

abbrev pub invariant-loop-pair : goal.invariant-loop-pair
invariant-loop-pair l =
    take l.pair l.input ≡ padded l.pair (bytes_of l.hex)
