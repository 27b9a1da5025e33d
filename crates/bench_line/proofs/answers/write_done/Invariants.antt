-- `bench_line::answers::write_done` meets its contract. The loop's invariant: the bytes passed are written. Assumes nothing.
use Prim.Native.Nat.{◌+◌, ◌*◌, ◌≤◌}
use lib.ListN.{length}
use Rattle.bench_line.proofs.DoneText.{Bytes}
use Rattle.bench_line.proofs.answers.write_done.Given as goal

abbrev pub invariant-loop-i : goal.invariant-loop-i
invariant-loop-i l =
    (2 * length l.output + 3 ≤ length l.text) × Bytes l.output l.initial.text l.text l.i
