-- `orders::lines::first_order` meets its contract. The fields left decide, one after the other. Assumes nothing.
use Rattle.std.proofs.Common.{refl, sym, ap, ◌∙◌}
use borrow.Author.Tests.{le-leb, lt-leb}
use Rattle.orders.specs.Lines.{after_number, after_first, after_last}
use Rattle.orders.specs.Scans.{seen}
use Rattle.orders.proofs.Fields.{made, all_left, number_not, ended_not, no_order, the_order, one_read, two_read, three_read, four_read}
use Rattle.orders.proofs.lines.first_order.Goals as goal

pub returns-in_err-number : goal.returns-in_err-number
returns-in_err-number c =
    ap seen c.from_residual.ensures
    ∙ number_not after_number (all_left c.args.text.now) (λ n. refl) (ap seen (sym c.in_err-number.was) ∙ c.tabbed.ensures)

pub returns-in_err-first : goal.returns-in_err-first
returns-in_err-first c =
    let one = ap seen (sym c.in_ok-number.was) ∙ c.tabbed.ensures in
    ap seen c.from_residual-in_err-first.ensures
    ∙ number_not (after_first c.in_ok-number.number) (one_read c.args.text.now one) (λ n. refl) (ap seen (sym c.in_err-first.was) ∙ c.tabbed-2.ensures)

pub returns-in_err-last : goal.returns-in_err-last
returns-in_err-last c =
    let one = ap seen (sym c.in_ok-number.was) ∙ c.tabbed.ensures in
    let two = ap seen (sym c.in_ok-first.was) ∙ c.tabbed-2.ensures in
    ap seen c.from_residual-in_err-last.ensures
    ∙ number_not (after_last c.in_ok-number.number c.in_ok-first.first) (two_read c.args.text.now one two) (λ n. refl) (ap seen (sym c.in_err-last.was) ∙ c.tabbed-3.ensures)

pub returns-in_err-watts : goal.returns-in_err-watts
returns-in_err-watts c =
    let one = ap seen (sym c.in_ok-number.was) ∙ c.tabbed.ensures in
    let two = ap seen (sym c.in_ok-first.was) ∙ c.tabbed-2.ensures in
    let three = ap seen (sym c.in_ok-last.was) ∙ c.tabbed-3.ensures in
    ap seen c.from_residual-in_err-watts.ensures
    ∙ ended_not (made c.in_ok-number.number c.in_ok-first.first c.in_ok-last.last) (three_read c.args.text.now one two three) (ap seen (sym c.in_err-watts.was) ∙ c.ended.ensures)

pub returns-then-last-first : goal.returns-then-last-first
returns-then-last-first c =
    let one = ap seen (sym c.in_ok-number.was) ∙ c.tabbed.ensures in
    let two = ap seen (sym c.in_ok-first.was) ∙ c.tabbed-2.ensures in
    let three = ap seen (sym c.in_ok-last.was) ∙ c.tabbed-3.ensures in
    let end = four_read c.args.text.now one two three (ap seen (sym c.in_ok-watts.was) ∙ c.ended.ensures) in
    no_order c.args.text.now (end.0 ∙ rw (lt-leb c.in_ok-first.first c.in_ok-last.last c.if-last-first.true))

pub returns : goal.returns
returns c =
    let one = ap seen (sym c.in_ok-number.was) ∙ c.tabbed.ensures in
    let two = ap seen (sym c.in_ok-first.was) ∙ c.tabbed-2.ensures in
    let three = ap seen (sym c.in_ok-last.was) ∙ c.tabbed-3.ensures in
    let end = four_read c.args.text.now one two three (ap seen (sym c.in_ok-watts.was) ∙ c.ended.ensures) in
    the_order c.args.text.now _ _ (end.0 ∙ rw (le-leb c.in_ok-first.first c.in_ok-last.last c.if-last-first.false)) end.1
