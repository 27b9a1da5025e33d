-- `post::fresh::write_fresh_leads` meets its contract. The loop's invariant: the records passed are written, the rest is as it was. Assumes nothing.
use Prim.Native.Nat.{◌-◌, ◌≤◌}
use Rattle.lead.specs.Leads.{fresh}
use Rattle.lead_records.specs.States.{state_size, encode}
use Rattle.post.specs.Heads.{head_size}
use Rattle.common.proofs.Joined.{Filling}
use Rattle.post.proofs.fresh.write_fresh_leads.Given as goal

abbrev pub invariant-loop-i : goal.invariant-loop-i
invariant-loop-i l =
    (l.i ≤ l.leads) × Filling head_size state_size (λ k. encode fresh) l.initial.state l.state l.i

abbrev pub decreases-loop-i : goal.decreases-loop-i
decreases-loop-i l =
    l.leads - l.i
