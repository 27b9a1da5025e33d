-- `post::fresh::try_setup` meets its contract. By what setup refuses and writes. Assumes nothing.
use mathlib.Core.Bool.{true, false}
use mathlib.Core.Path.{◌≡◌, refl, sym, ap, ◌∙◌}
use native.Mathlib.Omega.{arith}
use Prim.Native.Nat.{ℕ}
use lib.Dec.{eqb}
use lib.ListN.{length}
use Rattle.lead.specs.Leads.{fresh}
use Rattle.post.specs.Heads.{head_from, state_length}
use Rattle.post.specs.Rules.{post_bytes}
use Rattle.post.specs.declared.head.Head.{Head}
use Rattle.common.proofs.Asked.{handed_on, yes, no}
use Rattle.post.proofs.Numbers.{never_0}
use Rattle.post.proofs.Returned.{by_head, by_length, setup_done, setup_refused}
use Rattle.post.proofs.fresh.try_setup.Goals as goal

pub returns-in_err-head : goal.returns-in_err-head
returns-in_err-head c =
    let h = head_from c.args.numbers in
    let state = c.args.state.now in
    let away = never_0 c.in_err-head.field-0.0 in
    rw (handed_on c.from_residual.result c.from_residual.ensures.1) (setup_refused h state (by_head h (length state) c.in_err-head.ensures away) away)

pub returns-in_err-unless : goal.returns-in_err-unless
returns-in_err-unless c =
    let h = head_from c.args.numbers in
    let state = c.args.state.now in
    let out = c.from_residual-in_err-unless.result in
    let n = no _ _ c.unless.ensures out c.in_err-unless.was c.from_residual-in_err-unless.ensures.1 in
    let other : eqb (length state) (state_length h.leads) ≡ false = ap (λ (m : ℕ). eqb (length state) m) (sym (c.state_length.ensures ∙ ap (λ (h : Head). state_length h.leads) c.in_ok-head.ensures.0)) ∙ n.0 in
    rw n.1 (setup_refused h state (rw (← by_length h (length state) c.in_ok-head.ensures.1, other)) (λ e. omega arith))

pub returns : goal.returns
returns c =
    let h = head_from c.args.numbers in
    let state = c.args.state.now in
    let same : eqb (length state) (state_length h.leads) ≡ true = ap (λ (m : ℕ). eqb (length state) m) (sym (c.state_length.ensures ∙ ap (λ (h : Head). state_length h.leads) c.in_ok-head.ensures.0)) ∙ yes _ _ c.unless.ensures c.in_ok-unless.was in
    setup_done h state (rw (← by_length h (length state) c.in_ok-head.ensures.1, same)) refl
    (c.write_fresh.ensures ∙ ap (λ (h : Head). post_bytes h (λ k. fresh)) c.in_ok-head.ensures.0)
