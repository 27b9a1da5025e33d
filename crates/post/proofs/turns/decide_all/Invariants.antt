-- `post::turns::decide_all` meets its contract. The loop's invariant: the places passed have their turn, the others are empty, and the wants
-- are the turns'. Assumes nothing.
use mathlib.Core.Path.{◌≡◌}
use Prim.Native.Nat.{ℕ, ◌-◌, ◌≤◌}
use lib.ListN.{length, get_or}
use Rattle.sharing.specs.Level.{places}
use Rattle.post.specs.Rules.{tick_input}
use Rattle.post.specs.Calls.{leads_of}
use Rattle.lead_records.specs.Turns.{empty_turn}
use Rattle.post.specs.Turns.{turn_at, among}
use Rattle.post.proofs.Tables.{Wanted}
use Rattle.post.proofs.turns.decide_all.Given as goal

abbrev pub invariant-loop-i : goal.invariant-loop-i
invariant-loop-i l =
    (l.i ≤ l.head.leads)
    × (length l.turns ≡ places)
    × (length l.wants ≡ places)
    × ((k : ℕ) → get_or l.turns k empty_turn ≡ among l.i (turn_at l.head (tick_input l.input) (leads_of l.state)) k)
    × Wanted l.head.ratings l.turns l.wants

abbrev pub decreases-loop-i : goal.decreases-loop-i
decreases-loop-i l =
    l.head.leads - l.i
