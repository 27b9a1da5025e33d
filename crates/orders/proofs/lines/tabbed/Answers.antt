-- `orders::lines::tabbed` meets its contract. The number, and the character behind it. Assumes nothing.
use Rattle.std.proofs.Common.{[], sym, ap, ◌∙◌}
use Rattle.std.proofs.lemmas.List.{nil_from_length}
use borrow.Author.Tests.{eq-eqb, ne_eqb}
use Rattle.orders.specs.Scans.{seen, if_tab, tabbed_read}
use Rattle.orders.proofs.Fields.{by_number, by_none}
use Rattle.orders.proofs.lines.tabbed.Goals as goal

pub returns-in_err-value : goal.returns-in_err-value
unfolding tabbed_read
returns-in_err-value c = ap seen c.from_residual.ensures ∙ by_none if_tab c.args.text.now (sym c.in_err-value.was ∙ c.number.ensures.number)

pub returns-in_err-mark : goal.returns-in_err-mark
unfolding tabbed_read
returns-in_err-mark c =
    let number = sym c.in_ok-value.was ∙ c.number.ensures.number in
    ap seen c.from_residual-in_err-mark.ensures
    ∙ by_number if_tab c.args.text.now _ _ number [] (nil_from_length _ c.in_err-mark.ensures.cases)

pub returns-then-mark-ne-TAB : goal.returns-then-mark-ne-TAB
unfolding tabbed_read
returns-then-mark-ne-TAB c =
    let number = sym c.in_ok-value.was ∙ c.number.ensures.number in
    let other = ne_eqb _ 9 c.if-mark-ne-TAB.true in
    rw other at (by_number if_tab c.args.text.now _ _ number _ c.in_ok-mark.ensures.cases.0)

pub returns : goal.returns
unfolding tabbed_read
returns c =
    let number = sym c.in_ok-value.was ∙ c.number.ensures.number in
    let tab = eq-eqb _ 9 c.if-mark-ne-TAB.false in
    rw tab at (by_number if_tab c.args.text.now _ _ number _ c.in_ok-mark.ensures.cases.0)
