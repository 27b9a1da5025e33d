-- `post::fresh::write_fresh_leads` meets its contract. The loop's invariant: the records passed are written, the rest is as it was. Assumes nothing.
use mathlib.Core.Path.{refl, ap, ◌∙◌}
use Prim.Native.Nat.{ℕ, ◌+◌, ◌-◌, ◌*◌}
use native.Mathlib.Nat.{add-sub_cancel_left}
use native.Mathlib.Omega.{arith}
use Rattle.lead.specs.Leads.{fresh}
use Rattle.lead_records.specs.States.{state_size, encode}
use Rattle.lead_records.proofs.RoundTrip.{encode_length}
use Rattle.post.specs.Heads.{head_size}
use Rattle.common.proofs.Joined.{filled_none, filled_written, filled_all}
use Rattle.post.proofs.fresh.write_fresh_leads.Goals as goal

pub loop-i-init : goal.loop-i-init
loop-i-init c = (omega arith, filled_none state_size (λ k. encode fresh) (λ k. encode_length _) head_size c.args.state.now)

pub loop-i-preserved : goal.loop-i-preserved
loop-i-preserved c =
    let a = c.args in
    let i = c.loop-i.i in
    let at : ℕ = head_size + state_size * i in
    let copied = c.copy_from_slice in (
      omega arith,
      filled_written state_size (λ k. encode fresh) (λ k. encode_length _) head_size a.state.now i at (at + state_size - at) c.loop-i.state
          copied.new.self (omega arith) (omega arith) refl (add-sub_cancel_left at state_size)
          (copied.ensures.after ∙ c.bytes-kept.ensures ∙ ap encode c.fresh.ensures) c.loop-i.invariant.1,
    )

pub shape_of-state : goal.shape_of-state
shape_of-state c = c.loop-i.invariant.1.0

pub returns : goal.returns
returns c =
    let a = c.args in
    filled_all state_size (λ k. encode fresh) (λ k. encode_length _) head_size a.state.now a.leads c.loop-i.i _
    c.requires (omega arith) c.loop-i.invariant.1
