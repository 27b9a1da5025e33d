-- `post::written::write_leads` meets its contract. The loop's invariant: in state and output the records passed are written, the rest is as it
-- was. Assumes nothing.
use mathlib.Core.List.{List}
use Prim.Native.Nat.{ℕ, ◌-◌, ◌≤◌}
use lib.ListN.{get_or}
use Rattle.lead.specs.declared.state.Ratings.{Ratings}
use Rattle.lead_records.specs.States.{state_size, encode}
use Rattle.lead_records.specs.Outputs.{output_size}
use Rattle.post.specs.Heads.{head_size}
use Rattle.lead_records.specs.Turns.{empty_turn, commanded_turn, turn_shown}
use Rattle.lead_records.specs.declared.turns.Turn.{Turn}
use Rattle.common.proofs.Joined.{Filling}
use Rattle.post.proofs.written.write_leads.Given as goal

-- the records of the turns
module _ (c : Ratings) (level : ℕ) (turns : List Turn) (k : ℕ) where
  abbrev pub kept : List ℕ
  kept = encode (commanded_turn c level (get_or turns k empty_turn)).lead

  abbrev pub shown : List ℕ
  shown = turn_shown c level (commanded_turn c level (get_or turns k empty_turn))

abbrev pub invariant-loop-i : goal.invariant-loop-i
invariant-loop-i l =
    (l.i ≤ l.head.leads)
    × Filling head_size state_size (kept l.head.ratings l.level l.turns) l.initial.state l.state l.i
    × Filling 0 output_size (shown l.head.ratings l.level l.turns) l.initial.output l.output l.i

abbrev pub decreases-loop-i : goal.decreases-loop-i
decreases-loop-i l =
    l.head.leads - l.i
