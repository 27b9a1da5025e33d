-- `common::number_in` meets its contract. The loop's invariant: what the digits left say behind the others. Assumes nothing.
use borrow.Author.Rules.{rules}
use mathlib.Core.Path.{sym, ◌∙◌}
use Prim.Native.Nat.{◌+◌, ◌*◌}
use native.Mathlib.Omega.{arith}
use Rattle.common.proofs.Texts.{number_begins, number_more, number_not, number_too_great, number_ends}
use Rattle.common.proofs.number_in.Goals as goal

pub loop-character-init : goal.loop-character-init
loop-character-init c =
    let a = c.args in
    (search rules, number_begins a.base a.most a.digits.now)

pub returns-then-base-digit : goal.returns-then-base-digit
returns-then-base-digit c =
    let a = c.args in
    let l = c.loop-character in
    sym (l.invariant.1 ∙ number_not a.base a.most a.digits.now l.value l.character-index (omega arith) (omega arith))

pub returns-then-from-value : goal.returns-then-from-value
returns-then-from-value c =
    let a = c.args in
    let l = c.loop-character in
    -- one digit more
    let m = c.from.result * l.value + c.from-in-loop-character.result in
    let more =
    number_more a.base a.most a.digits.now l.value l.character-index m (omega arith) (omega arith)
    (rw (c.from.ensures, c.from-in-loop-character.ensures, c.digit_value-digit.ensures)) in
    sym (l.invariant.1 ∙ more ∙ number_too_great a.base a.most _ _ (omega arith) (omega arith))

pub loop-character-preserved : goal.loop-character-preserved
loop-character-preserved c =
    let a = c.args in
    let l = c.loop-character in
    -- one digit more
    let m = c.from.result * l.value + c.from-in-loop-character.result in
    let more =
    number_more a.base a.most a.digits.now l.value l.character-index m (omega arith) (omega arith)
    (rw (c.from.ensures, c.from-in-loop-character.ensures, c.digit_value-digit.ensures)) in
    (omega arith, l.invariant.1 ∙ more)

pub returns : goal.returns
returns c =
    let a = c.args in
    let l = c.loop-character in
    sym (l.invariant.1 ∙ number_ends a.base a.most a.digits.now l.value l.character-index (omega arith) l.invariant.0)
