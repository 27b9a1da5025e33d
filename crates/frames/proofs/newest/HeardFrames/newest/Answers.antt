-- `frames::newest::HeardFrames::newest` meets its contract. Each chunk is the next record. Assumes nothing.
use mathlib.Core.Path.{sym, ap, ◌∙◌}
use Prim.Native.Nat.{◌/◌}
use native.Mathlib.Numerals.{add-one}
use native.Mathlib.Omega.{arith}
use lib.ListN.{length, length-append}
use Rattle.frames.specs.Records.{record_size}
use Rattle.frames.proofs.Passed.{heard_among, next_record, heard_further, all_passed, found_newest}
use Rattle.frames.proofs.newest.HeardFrames.newest.Goals as goal

pub loop-frame-preserved : goal.loop-frame-preserved
loop-frame-preserved c =
    let l = c.loop-frame in
    let s = c.args.records.now in
    let n = length l.yielded in
    let frame = c.in-Some.frame.now in
    let steps = c.in-Some.ensures.steps in
    let next = next_record s frame _ (length s / record_size) n (sym l.invariant.rest ∙ steps.0) in
    let said = c.with-heard.ensures in
    rw (length-append, add-one)
    record {
      heard = heard_further s frame n l.heard c.with-heard.result l.invariant.heard next.0 said.battery said.time said.status;
      to_take = omega (arith, steps.1, l.invariant.to_take);
      rest = next.1;
      passed = next.2;
    }

pub returns : goal.returns
returns c =
    let l = c.loop-frame in
    let s = c.args.records.now in
    let n = length l.yielded in
    let passed = all_passed s c.args.count _ (length s / record_size) n l.invariant.to_take l.invariant.passed
    (λ some. sym (ap length l.invariant.rest) ∙ (c.in-None.ensures.steps some).0) in
    l.invariant.heard ∙ ap (heard_among s) passed ∙ found_newest c.args.count s
