-- `post::head::ask_head` meets its contract. Each answer decides a question. Assumes nothing.
use mathlib.Core.Path.{sym, ap, ◌∙◌}
use Rattle.common.proofs.Refused.{row_asked}
use Rattle.common.specs.Refusals.{number_of}
use Rattle.post.specs.Refusals.{number, head_rows}
use Rattle.common.proofs.Asked.{yes, no}
use Rattle.post.proofs.head.ask_head.Goals as goal

pub returns-in_err-unless : goal.returns-in_err-unless
unfolding head_rows
returns-in_err-unless c =
    let n = no _ _ c.unless.ensures c.from_residual.result c.in_err-unless.was c.from_residual.ensures.1 in
    rw (n.1, sym c.is_between.ensures ∙ n.0)

pub returns-in_err-unless-2 : goal.returns-in_err-unless-2
unfolding head_rows
returns-in_err-unless-2 c =
    let n = no _ _ c.unless-2.ensures c.from_residual-in_err-unless-2.result c.in_err-unless-2.was c.from_residual-in_err-unless-2.ensures.1 in
    rw (n.1, sym c.is_between.ensures ∙ yes _ _ c.unless.ensures c.in_ok-unless.was, sym c.is_between-2.ensures ∙ n.0)

pub returns-in_err-unless-3 : goal.returns-in_err-unless-3
unfolding head_rows
returns-in_err-unless-3 c =
    let n = no _ _ c.unless-3.ensures c.from_residual-in_err-unless-3.result c.in_err-unless-3.was c.from_residual-in_err-unless-3.ensures.1 in
    rw (n.1, sym c.is_between.ensures ∙ yes _ _ c.unless.ensures c.in_ok-unless.was, sym c.is_between-2.ensures ∙ yes _ _ c.unless-2.ensures c.in_ok-unless-2.was, sym c.is_between-3.ensures ∙ n.0)

pub returns-in_err-unless-4 : goal.returns-in_err-unless-4
unfolding head_rows
returns-in_err-unless-4 c =
    let n = no _ _ c.unless-4.ensures c.from_residual-in_err-unless-4.result c.in_err-unless-4.was c.from_residual-in_err-unless-4.ensures.1 in
    rw (n.1, sym c.is_between.ensures ∙ yes _ _ c.unless.ensures c.in_ok-unless.was, sym c.is_between-2.ensures ∙ yes _ _ c.unless-2.ensures c.in_ok-unless-2.was, sym c.is_between-3.ensures ∙ yes _ _ c.unless-3.ensures c.in_ok-unless-3.was, sym c.is_allowed_resistance.ensures ∙ n.0)

pub returns : goal.returns
unfolding head_rows
returns c =
    rw (sym c.is_between.ensures ∙ yes _ _ c.unless.ensures c.in_ok-unless.was, sym c.is_between-2.ensures ∙ yes _ _ c.unless-2.ensures c.in_ok-unless-2.was, sym c.is_between-3.ensures ∙ yes _ _ c.unless-3.ensures c.in_ok-unless-3.was, sym c.is_allowed_resistance.ensures ∙ yes _ _ c.unless-4.ensures c.in_ok-unless-4.was)
    (ap (number_of number) c.unless-5.ensures ∙ row_asked number _ _)
