-- `post::refusals::ask_tick` meets its contract. By what is refused first. Assumes nothing.
use mathlib.Core.Path.{sym, ◌∙◌}
use native.Mathlib.Omega.{arith}
use Rattle.common.proofs.Bools.{holds}
use Rattle.post.specs.Refusals.{tick_rows}
use Rattle.common.proofs.Asked.{yes, no}
use Rattle.post.proofs.Taken.{post_length}
use Rattle.post.proofs.refusals.ask_tick.Goals as goal

pub returns-in_err-unless : goal.returns-in_err-unless
unfolding tick_rows
returns-in_err-unless c =
    let n = no _ _ c.unless.ensures c.from_residual.result c.in_err-unless.was c.from_residual.ensures.1 in
    rw (n.1, sym c.is_good_post.ensures ∙ n.0)

pub read-head-requires : goal.read-head-requires
read-head-requires c =
    omega (arith, post_length c.args.state.now (holds (sym c.is_good_post.ensures ∙ yes _ _ c.unless.ensures c.in_ok-unless.was)))

pub returns : goal.returns
unfolding tick_rows
returns c =
    rw (sym c.is_good_post.ensures ∙ yes _ _ c.unless.ensures c.in_ok-unless.was, ← c.read-head.ensures) c.ask_input.ensures
