-- `post::refusals::is_good_post` meets its contract. Each answer decides a part of the rule. Assumes nothing.
use mathlib.Core.Bool.{false≢true}
use mathlib.Core.Path.{sym, ◌∙◌}
use native.Mathlib.Omega.{arith}
use borrow.Author.Tests.{eqb-true, eqb-false}
use Rattle.post.proofs.Taken.{too_short, other_head, other_length, good_if_leads}
use Rattle.post.proofs.refusals.is_good_post.Goals.{then-is_good, else-is_good}
use Rattle.post.proofs.refusals.is_good_post.Goals as goal

pub returns-then-state-lt-SIZE : goal.returns-then-state-lt-SIZE
returns-then-state-lt-SIZE c = too_short c.args.state.now (omega arith)

pub returns-then-state-state_length : goal.returns-then-state-state_length
returns-then-state-state_length c =
    let state = c.args.state.now in
    let said = c.if-state-state_length.true in
    elim c.if-is_good.branch [
      | then-is_good w ↦ c.are_good_states.ensures ∙ good_if_leads state c.read-head.ensures (sym c.is_good.ensures ∙ w.if-is_good.true)
          (eqb-true _ _ (sym w.value-is ∙ said) ∙ w.state_length.ensures)
      | else-is_good w ↦ absurd (false≢true (sym w.if-is_good.false ∙ sym w.value-is ∙ said))
    ]

pub returns-else-state-state_length : goal.returns-else-state-state_length
returns-else-state-state_length c =
    let state = c.args.state.now in
    let said = c.if-state-state_length.false in
    said ∙ elim c.if-is_good.branch [
      | then-is_good w ↦ other_length state c.read-head.ensures (sym c.is_good.ensures ∙ w.if-is_good.true)
          (λ e. eqb-false _ _ (sym w.value-is ∙ said) (e ∙ sym w.state_length.ensures))
      | else-is_good w ↦ other_head state c.read-head.ensures (sym c.is_good.ensures ∙ w.if-is_good.false)
    ]
