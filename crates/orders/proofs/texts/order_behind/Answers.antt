-- `orders::texts::order_behind` meets its contract. The line is a 65th, no order, of a number used, or one order more. Assumes nothing.
use mathlib.Core.Bool.{not}
use Rattle.std.proofs.Common.{◌<◌, ◌≤◌, ◌+◌, length, sym, ap, ◌∙◌, arith}
use lib.Dec.{ltb}
use borrow.Author.Tests.{ltb-true, ltb-false, not-true, not-false}
use Rattle.common.proofs.Asked.{yes, turned_down}
use Rattle.orders.specs.Refusals.{number}
use Rattle.orders.specs.Texts.{Refused}
use Rattle.orders.specs.Scans.{seen}
use Rattle.orders.specs.declared.refusals.Refusal.TheVariants.{Line65, LineForm, NumberUsed}
use Rattle.orders.proofs.Reading.{first_65, first_not, first_used, first_taken, line_65, line_not, line_used, line_taken, line_shorter, given_none, given_some, refused_with, refused_first}
use Rattle.orders.proofs.texts.order_behind.Goals as goal

pub returns-in_err-unless : goal.returns-in_err-unless
returns-in_err-unless c =
    let a = c.args in
    let told = turned_down (ltb c.len.result 64) Line65 c.unless.ensures c.in_err-unless.was in
    let full : 64 ≤ length a.kept.now = omega (arith, ltb-false c.len.result 64 told.0, c.len.ensures.len) in
    let same = ap (λ r. Refused (number r) (length a.kept.now + 1)) (sym told.1) in
    record {
      line = refused_first _ a.kept.now _ _ _ c.from_residual.ensures.1 (λ lines. first_65 a.kept.now a.text.now full lines ∙ same);
      text = refused_with _ a.kept.now a.text.now _ _ c.from_residual.ensures.1 (line_65 a.kept.now a.text.now c.requires full ∙ same);
    }

pub returns-in_err-order : goal.returns-in_err-order
returns-in_err-order c =
    let a = c.args in
    let room : length a.kept.now < 64 = omega (arith, ltb-true c.len.result 64 (yes (ltb c.len.result 64) Line65 c.unless.ensures c.in_ok-unless.was), c.len.ensures.len) in
    let told = given_none LineForm c.first_order.result c.in_err-order.field-0.0 c.in_err-order.ensures.value in
    let read = ap seen (sym told.0) ∙ c.first_order.ensures in
    let same = ap (λ r. Refused (number r) (length a.kept.now + 1)) (sym told.1) in
    record {
      line = refused_first _ a.kept.now _ _ _ c.from_residual-in_err-order.ensures.1 (λ lines. first_not a.kept.now a.text.now room read lines ∙ same);
      text = refused_with _ a.kept.now a.text.now _ _ c.from_residual-in_err-order.ensures.1 (line_not a.kept.now a.text.now c.requires room read ∙ same);
    }

pub returns-in_err-unless-2 : goal.returns-in_err-unless-2
returns-in_err-unless-2 c =
    let a = c.args in
    let room : length a.kept.now < 64 = omega (arith, ltb-true c.len.result 64 (yes (ltb c.len.result 64) Line65 c.unless.ensures c.in_ok-unless.was), c.len.ensures.len) in
    let read = ap seen (sym (given_some LineForm c.first_order.result _ c.in_ok-order.ensures.value)) ∙ c.first_order.ensures in
    let told = turned_down (not c.is_used.result) NumberUsed c.unless-2.ensures c.in_err-unless-2.was in
    let used = sym c.is_used.ensures ∙ not-false c.is_used.result told.0 in
    let same = ap (λ r. Refused (number r) (length a.kept.now + 1)) (sym told.1) in
    record {
      line = refused_first _ a.kept.now _ _ _ c.from_residual-in_err-unless-2.ensures.1 (λ lines. first_used a.kept.now a.text.now room _ _ read used lines ∙ same);
      text = refused_with _ a.kept.now a.text.now _ _ c.from_residual-in_err-unless-2.ensures.1 (line_used a.kept.now a.text.now c.requires room _ _ read used ∙ same);
    }

pub returns : goal.returns
returns c =
    let a = c.args in
    let room : length a.kept.now < 64 = omega (arith, ltb-true c.len.result 64 (yes (ltb c.len.result 64) Line65 c.unless.ensures c.in_ok-unless.was), c.len.ensures.len) in
    let read = ap seen (sym (given_some LineForm c.first_order.result _ c.in_ok-order.ensures.value)) ∙ c.first_order.ensures in
    let unused = sym c.is_used.ensures ∙ not-true c.is_used.result (yes (not c.is_used.result) NumberUsed c.unless-2.ensures c.in_ok-unless-2.was) in
    record {
      line = (room, first_taken a.kept.now a.text.now room _ _ read unused);
      text = (
        room,
        line_shorter a.kept.now a.text.now c.requires room _ _ read,
        line_taken a.kept.now a.text.now c.requires room _ _ read unused,
      );
    }
