-- `bench_answers::answers::Post::answer_setup` meets its contract. A setup is taken, or it is refused and the post is as it was. Assumes
-- nothing.
use native.Mathlib.Omega.{arith}
use Rattle.post.proofs.Returned.{setup_byte}
use Rattle.bench_answers.specs.Buffers.{kept_in}
use Rattle.bench_answers.proofs.Setups.{setup_taken, setup_refused}
use Rattle.bench_answers.proofs.answers.Post.answer_setup.Goals.{then-number-eq0, else-number-eq0}
use Rattle.bench_answers.proofs.answers.Post.answer_setup.Goals as goal

pub returns : goal.returns
returns c =
    let a = c.args in
    let made = c.set_up-number in
    elim c.if-number-eq0.branch [
      | then-number-eq0 w ↦
          rw w.self-is
          (setup_taken a.numbers a.self.now.state made.new.state (omega arith) made.ensures.begun
          (kept_in a.self.now.leads a.self.now.state) a.text.now w.if-number-eq0.true w.leads_of-self.ensures c.write_answer.ensures)
      | else-number-eq0 w ↦
          rw w.self-is
          (setup_refused a.numbers a.self.now.state made.new.state (omega arith) made.ensures.begun a.self.now.leads a.text.now
          made.ensures.rest w.if-number-eq0.false c.write_answer.ensures)
    ]

pub overflow_cast-number : goal.overflow_cast-number
overflow_cast-number c = omega (arith, setup_byte _ _ c.set_up-number.ensures.begun)
