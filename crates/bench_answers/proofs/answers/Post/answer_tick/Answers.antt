-- `bench_answers::answers::Post::answer_tick` meets its contract. There is no post, or the tick is done, or it is refused. Assumes nothing.
use native.Mathlib.Omega.{arith}
use Rattle.post.proofs.Returned.{tick_byte}
use Rattle.bench_answers.proofs.Ticks.{tick_unknown, tick_done, tick_refused}
use Rattle.bench_answers.proofs.answers.Post.answer_tick.Goals as goal

pub returns-then-self-eq0 : goal.returns-then-self-eq0
returns-then-self-eq0 c =
    let a = c.args in
    tick_unknown a.self.now.leads a.count a.input.now a.self.now.state a.text.now c.if-self-eq0.true
    c.write_answer.ensures

pub returns-then-number-eq0 : goal.returns-then-number-eq0
returns-then-number-eq0 c =
    let a = c.args in
    tick_done a.self.now.leads a.count a.input.now a.self.now.state a.text.now c.if-self-eq0.false (omega arith) c.tick_on-number.new.state
    c.tick_on-number.ensures c.if-number-eq0.true
    (rw (← c.output_length-end.ensures) c.write_answer-then-number-eq0.ensures)

pub overflow_cast-number : goal.overflow_cast-number
overflow_cast-number c = omega (arith, tick_byte _ _ _ c.tick_on-number.ensures)

pub returns : goal.returns
returns c =
    let a = c.args in
    tick_refused a.self.now.leads a.count a.input.now a.self.now.state a.text.now c.if-self-eq0.false (omega arith) c.tick_on-number.new.state
    c.tick_on-number.ensures c.if-number-eq0.false c.write_answer-2.ensures
