-- `post::head::Head::try_from` meets its contract. Numbers that setup takes fit. Assumes nothing.
use mathlib.Core.Path.{sym, ap, ◌∙◌}
use native.Mathlib.Omega.{arith}
use Rattle.common.specs.Refusals.{number_of}
use Rattle.post.specs.Heads.{head_from}
use Rattle.post.specs.Refusals.{number}
use Rattle.post.proofs.Taken.{head_taken}
use Rattle.post.proofs.head.HeadTryFromSetupNumbers.try_from.Goals as goal

pub overflow_cast-result : goal.overflow_cast-result
overflow_cast-result c =
    omega (arith, (head_taken (head_from c.args.numbers) (sym c.ask_head.ensures ∙ ap (number_of number) c.in_ok-ask_head.was)).few_leads)

pub overflow_cast-result-2 : goal.overflow_cast-result-2
overflow_cast-result-2 c =
    omega (arith, (head_taken (head_from c.args.numbers) (sym c.ask_head.ensures ∙ ap (number_of number) c.in_ok-ask_head.was)).volts_most)

pub overflow_cast-result-3 : goal.overflow_cast-result-3
overflow_cast-result-3 c =
    omega (arith, (head_taken (head_from c.args.numbers) (sym c.ask_head.ensures ∙ ap (number_of number) c.in_ok-ask_head.was)).amperes_most)

pub overflow_cast-result-4 : goal.overflow_cast-result-4
overflow_cast-result-4 c =
    omega (arith, (head_taken (head_from c.args.numbers) (sym c.ask_head.ensures ∙ ap (number_of number) c.in_ok-ask_head.was)).volts_error_most)

pub overflow_cast-result-5 : goal.overflow_cast-result-5
overflow_cast-result-5 c =
    omega (arith, (head_taken (head_from c.args.numbers) (sym c.ask_head.ensures ∙ ap (number_of number) c.in_ok-ask_head.was)).amperes_error_most)
