-- `bench_answers::posts::set_up` meets its contract. The beginning of the buffer comes back as setup left it. Assumes nothing.
use mathlib.Core.Path.{sym, ap, ◌∙◌}
use native.Mathlib.Omega.{arith}
use lib.Seq.{length-take-le}
use Rattle.post.specs.Heads.{state_length, head_from}
use Rattle.bench_answers.proofs.Fronts.{setup_front}
use Rattle.bench_answers.proofs.posts.set_up.Goals as goal

pub slice_bounds-setup-end-2 : goal.slice_bounds-setup-end-2
slice_bounds-setup-end-2 c =
    let l = c.state_length-end in
    sym
    (length-take-le l.result c.args.state.now (omega (arith, l.ensures, c.leads_of.ensures)))

pub returns : goal.returns
returns c =
    let l = c.state_length-end in
    let few = c.leads_of.ensures in
    let a = c.args in
    let done =
    setup_front a.state.now c.setup.new.state (l.ensures ∙ ap state_length few) (omega (arith, l.ensures, few)) (omega arith)
    (head_from a.numbers) c.setup.ensures in
    record { begun = done.0; rest = done.1 }
