-- `post::written::write_leads` meets its contract. The loop's invariant: in state and output the records passed are written, the rest is as it
-- was. Assumes nothing.
use mathlib.Core.Path.{refl, ap, ◌∙◌}
use Prim.Native.Nat.{ℕ, ◌+◌, ◌-◌, ◌*◌}
use native.Mathlib.Nat.{add-sub_cancel_left}
use native.Mathlib.Omega.{arith}
use Rattle.lead_records.specs.States.{state_size, encode}
use Rattle.lead_records.specs.Outputs.{output_size}
use Rattle.lead_records.proofs.RoundTrip.{encode_length}
use Rattle.lead_records.proofs.Shown.{output_length_lem}
use Rattle.post.specs.Heads.{head_size}
use Rattle.lead_records.specs.Turns.{turn_shown}
use Rattle.lead_records.specs.declared.turns.Turn.{Turn}
use Rattle.common.proofs.Joined.{filled_none, filled_written, filled_all}
use Rattle.post.proofs.written.write_leads.Invariants.{kept, shown}
use Rattle.post.proofs.written.write_leads.Goals as goal

pub loop-i-init : goal.loop-i-init
loop-i-init c =
    let a = c.args in (
      omega arith,
      filled_none state_size (kept a.head.ratings a.level a.turns) (λ k. encode_length _) head_size a.state.now,
      filled_none output_size (shown a.head.ratings a.level a.turns) (λ k. output_length_lem _ _ _ _ _) 0 a.output.now,
    )

pub loop-i-preserved : goal.loop-i-preserved
loop-i-preserved c =
    let a = c.args in
    let i = c.loop-i.i in
    let at : ℕ = head_size + state_size * i in
    let to : ℕ = output_size * i in
    let e = c.command-turn.ensures in (
      omega arith,
      filled_written state_size (kept a.head.ratings a.level a.turns) (λ k. encode_length _) head_size a.state.now i at
          (at + state_size - at) c.loop-i.state c.copy_from_slice.new.self (omega arith) (omega arith) refl
          (add-sub_cancel_left at state_size)
          (c.copy_from_slice.ensures.after ∙ c.bytes-kept.ensures ∙ ap (λ (t : Turn). encode t.lead) e) c.loop-i.invariant.1,
      filled_written output_size (shown a.head.ratings a.level a.turns) (λ k. output_length_lem _ _ _ _ _) 0 a.output.now i to
          (to + output_size - to) c.loop-i.output c.write.new.output (omega arith) (omega arith)
          (omega arith) (add-sub_cancel_left to output_size) (c.write.ensures ∙ ap (turn_shown a.head.ratings a.level) e) c.loop-i.invariant.2,
    )

pub shape_of-state : goal.shape_of-state
shape_of-state c = c.loop-i.invariant.1.0

pub shape_of-output : goal.shape_of-output
shape_of-output c = c.loop-i.invariant.2.0

pub returns : goal.returns
returns c =
    let a = c.args in
    let p = c.requires in
    record {
      state_after = filled_all state_size (kept a.head.ratings a.level a.turns) (λ k. encode_length _) head_size a.state.now a.head.leads
          c.loop-i.i _ p.1 (omega arith) c.loop-i.invariant.1;
      output_after = filled_all output_size (shown a.head.ratings a.level a.turns) (λ k. output_length_lem _ _ _ _ _) 0 a.output.now a.head.leads
          c.loop-i.i _ (omega arith) (omega arith) c.loop-i.invariant.2;
    }
