-- `bench_answers::pieces::Carried::finish` meets its contract. There is no line, or it is the last one. Assumes nothing.
use mathlib.Core.Path.{refl}
use borrow.Author.Rules.{rules}
use native.Mathlib.Omega.{arith}
use Rattle.bench_answers.proofs.ReadOn.{last_none, last_answered}
use Rattle.bench_answers.proofs.pieces.Carried.finish.Goals as goal

pub returns-then-self-eq0 : goal.returns-then-self-eq0
returns-then-self-eq0 c =
    let a = c.args in
    record { written = (search rules, last_none a.self.now a.text.now c.if-self-eq0.true); kept = (refl, refl) }

pub returns : goal.returns
returns c =
    let a = c.args in
    let text = last_answered a.self.now a.text.now c.if-self-eq0.false (omega arith) (omega arith) c.answer_line.ensures.answered in
    record { written = text; kept = c.answer_line.ensures.kept }
