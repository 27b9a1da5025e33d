-- `frames::newest::HeardFrames::newest` meets its contract. The newest of the records passed; the rest is to come. Assumes nothing.
use Rattle.std.proofs.Common.{◌≡◌, ◌+◌, ◌/◌, ◌≤◌, length}
use Rattle.std.specs.Iterator.Adapters.{take_count, take_source}
use Rattle.std.specs.Slice.Iter.{iter_rest}
use Rattle.frames.specs.Records.{record_size}
use Rattle.frames.proofs.Passed.{heard_among, after_passed}
use Rattle.frames.proofs.newest.HeardFrames.newest.Given as goal

abbrev pub invariant-loop-frame : goal.invariant-loop-frame
invariant-loop-frame l =
    let n = length l.yielded in
    let many = length l.records / record_size in
    record {
      heard : l.heard ≡ heard_among l.records n;
      to_take : take_count l.frame-iterator + n ≡ l.count;
      rest : iter_rest (take_source l.frame-iterator) ≡ after_passed l.records many n;
      passed : n ≤ many;
    }
