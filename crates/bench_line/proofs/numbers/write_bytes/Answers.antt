-- `bench_line::numbers::write_bytes` meets its contract. The loop's invariant: the bytes passed are written. Assumes nothing.
use native.Mathlib.Omega.{arith}
use Rattle.bench_line.specs.Digits.{bytes_of}
use Rattle.bench_line.proofs.Pairs.{padded_more}
use Rattle.bench_line.proofs.numbers.write_bytes.Goals as goal

pub loop-pair-preserved : goal.loop-pair-preserved
loop-pair-preserved c =
    padded_more (bytes_of c.args.hex.now) c.loop-pair.input c.loop-pair.pair c.byte_at.result (omega arith) c.byte_at.ensures
    c.loop-pair.invariant
