-- `bench_line::answers::write_done` meets its contract. The loop's invariant: the bytes passed are written. Assumes nothing.
use native.Mathlib.Omega.{arith}
use lib.ListN.{length-set}
use Rattle.bench_line.specs.Answers.{done_text}
use Rattle.bench_line.proofs.Filled.{not_written}
use Rattle.bench_line.proofs.DoneText.{bytes_none, bytes_more, bytes_end, done_length}
use Rattle.bench_line.proofs.answers.write_done.Goals.{then-text-lt3-via-then-text-lt3, then-text-lt3-via-else-text-lt3+then-text-output}
use Rattle.bench_line.proofs.answers.write_done.Goals as goal

pub returns-then-text-lt3 : goal.returns-then-text-lt3
returns-then-text-lt3 c =
    let a = c.args in
    let long = done_length a.output.now in
    let left = not_written (done_text a.output.now) a.text.now in
    elim c.then-text-lt3.branch [
      | then-text-lt3-via-then-text-lt3 w ↦ left (omega (arith, long))
      | then-text-lt3-via-else-text-lt3+then-text-output w ↦ left (omega (arith, long))
    ]

pub loop-i-init : goal.loop-i-init
loop-i-init c =
    let a = c.args in
    (simp length-set (omega arith), bytes_none a.output.now a.text.now (omega arith))

pub loop-i-preserved : goal.loop-i-preserved
loop-i-preserved c =
    let a = c.args in (
      simp length-set (omega arith),
      bytes_more a.output.now a.text.now c.loop-i.text c.loop-i.i c.loop-i.invariant.1 _ _ (omega arith) (omega arith)
          c.digit.ensures c.digit-in-loop-i.ensures,
    )

pub returns : goal.returns
returns c =
    let a = c.args in
    bytes_end a.output.now a.text.now c.loop-i.text c.loop-i.i c.loop-i.invariant.1 (omega arith) (omega arith)
