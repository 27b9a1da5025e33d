-- `post::refusals::ask_input` meets its contract. Each answer decides a question. Assumes nothing.
use mathlib.Core.Path.{ap, ◌∙◌}
use Rattle.common.specs.Refusals.{number_of}
use Rattle.common.proofs.Refused.{row_asked}
use Rattle.post.specs.Refusals.{number, input_rows}
use Rattle.common.proofs.Asked.{yes, no}
use Rattle.post.proofs.refusals.ask_input.Goals as goal

pub returns-in_err-unless : goal.returns-in_err-unless
unfolding input_rows
returns-in_err-unless c =
    let n = no _ _ c.unless.ensures c.from_residual.result c.in_err-unless.was c.from_residual.ensures.1 in
    rw (n.1, ← c.input_length.ensures, n.0)

pub returns-in_err-unless-2 : goal.returns-in_err-unless-2
unfolding input_rows
returns-in_err-unless-2 c =
    let n = no _ _ c.unless-2.ensures c.from_residual-in_err-unless-2.result c.in_err-unless-2.was c.from_residual-in_err-unless-2.ensures.1 in
    rw (n.1, ← c.input_length.ensures, yes _ _ c.unless.ensures c.in_ok-unless.was, ← c.output_length.ensures, n.0)

pub returns : goal.returns
unfolding input_rows
returns c =
    rw (
      ← c.input_length.ensures,
      yes _ _ c.unless.ensures c.in_ok-unless.was,
      ← c.output_length.ensures,
      yes _ _ c.unless-2.ensures c.in_ok-unless-2.was,
      ← c.are_good_inputs.ensures,
    )
    (ap (number_of number) c.unless-3.ensures ∙ row_asked number _ _)
