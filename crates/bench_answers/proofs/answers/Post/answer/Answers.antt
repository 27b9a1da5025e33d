-- `bench_answers::answers::Post::answer` meets its contract. Each kind of line has its answer. Assumes nothing.
use mathlib.Core.Path.{refl, ap, ◌∙◌}
use Rattle.std.specs.Prelude.{Some}
use Rattle.bench_answers.specs.Buffers.{kept_in}
use Rattle.bench_answers.proofs.ByLine.{by_line_lem}
use Rattle.bench_answers.proofs.answers.Post.answer.Goals as goal

pub returns-in-Some-Setup : goal.returns-in-Some-Setup
returns-in-Some-Setup c =
    let a = c.args in
    let is = c.in-Some-Setup.is ∙ ap Some c.in-Some-Setup.field-0-is in
    rw (← by_line_lem (kept_in a.self.now.leads a.self.now.state) a.line.now _ c.parse.ensures is) c.answer_setup.ensures

pub returns-in-Some-Tick : goal.returns-in-Some-Tick
returns-in-Some-Tick c =
    let a = c.args in
    let is = c.in-Some-Tick.is ∙ ap Some c.in-Some-Tick.field-0-is in
    rw (← by_line_lem (kept_in a.self.now.leads a.self.now.state) a.line.now _ c.parse.ensures is) c.answer_tick.ensures

pub returns-in-None : goal.returns-in-None
returns-in-None c =
    let a = c.args in
    rw (
      ← by_line_lem (kept_in a.self.now.leads a.self.now.state) a.line.now _ c.parse.ensures c.in-None.is,
      ← c.write_answer.ensures,
    )
    refl
