-- `orders::lines::ended` meets its contract. The number, and the character behind it, if there is one. Assumes nothing.
use Rattle.std.proofs.Common.{Some, [], sym, ap, ◌∙◌}
use Rattle.std.proofs.lemmas.List.{nil_from_length}
use borrow.Author.Tests.{eq-eqb, ne_eqb}
use Rattle.orders.specs.Scans.{seen, if_ended, ended_read}
use Rattle.orders.proofs.Fields.{by_number, by_none}
use Rattle.orders.proofs.lines.ended.Goals as goal

pub returns-in_err-value : goal.returns-in_err-value
unfolding ended_read
returns-in_err-value c = ap seen c.from_residual.ensures ∙ by_none if_ended c.args.text.now (sym c.in_err-value.was ∙ c.number.ensures.number)

pub returns-in_default : goal.returns-in_default
unfolding ended_read
returns-in_default c =
    let number = sym c.in_ok-value.was ∙ c.number.ensures.number in
    let nothing = nil_from_length _ c.in_default.ensures.cases in
    ap (λ r. Some (c.in_ok-value.value, r)) nothing ∙ by_number if_ended c.args.text.now _ _ number [] nothing

pub returns-then-mark-ne-LINE_FEED : goal.returns-then-mark-ne-LINE_FEED
unfolding ended_read
returns-then-mark-ne-LINE_FEED c =
    let number = sym c.in_ok-value.was ∙ c.number.ensures.number in
    let other = ne_eqb _ 10 c.if-mark-ne-LINE_FEED.true in
    rw other at (by_number if_ended c.args.text.now _ _ number _ c.in-Some.ensures.cases.0)

pub returns : goal.returns
unfolding ended_read
returns c =
    let number = sym c.in_ok-value.was ∙ c.number.ensures.number in
    let feed = eq-eqb _ 10 c.if-mark-ne-LINE_FEED.false in
    rw feed at (by_number if_ended c.args.text.now _ _ number _ c.in-Some.ensures.cases.0)
