-- `post::ticks::try_tick` meets its contract. By what a tick refuses and what carrying it out leaves. Assumes nothing.
use mathlib.Core.Path.{refl, sym, ap, ◌∙◌}
use Rattle.common.specs.Refusals.{number_of}
use Rattle.post.specs.Refusals.{number}
use Rattle.common.proofs.Asked.{handed_on}
use Rattle.post.proofs.Numbers.{never_0}
use Rattle.post.proofs.Returned.{tick_done, tick_refused}
use Rattle.post.proofs.ticks.try_tick.Goals as goal

pub returns-in_err-ask_tick : goal.returns-in_err-ask_tick
returns-in_err-ask_tick c =
    let a = c.args in
    let stopped = sym (ap (number_of number) c.in_err-ask_tick.was) ∙ c.ask_tick.ensures in
    rw (handed_on c.from_residual.result c.from_residual.ensures.1)
    (tick_refused a.state.now a.input.now a.output.now stopped (never_0 c.in_err-ask_tick.field-0.0))

pub returns : goal.returns
returns c =
    let a = c.args in
    let went_on = sym (ap (number_of number) c.in_ok-ask_tick.was) ∙ c.ask_tick.ensures in
    tick_done a.state.now a.input.now a.output.now went_on refl c.carry_out.ensures.state_after c.carry_out.ensures.output_after
