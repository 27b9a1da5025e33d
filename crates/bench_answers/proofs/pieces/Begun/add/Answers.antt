-- `bench_answers::pieces::Begun::add` meets its contract. What is copied stands behind what is there. Assumes nothing.
use native.Mathlib.Omega.{arith}
use Rattle.bench_answers.proofs.ReadOn.{added}
use Rattle.bench_answers.proofs.pieces.Begun.add.Goals as goal

pub returns : goal.returns
returns c =
    let a = c.args in
    let n = c.min-more.ensures in
    let copied = c.copy_from_slice in
    added a.self.now.count c.min-more.result a.part.now a.self.now.line copied.new.self _ (omega arith) (omega arith) n
    copied.ensures.after
