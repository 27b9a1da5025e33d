-- Every lead's part of a tick, as the code holds it until it is written. The rules (`setup_of`, `tick_of`) do not rest on it. Definitions only.
use Rattle.std.specs.Prelude.{cond, ℕ, ltb}
use Rattle.lead.specs.declared.state.Lead.{Lead}
use Rattle.lead_records.specs.Turns.{empty_turn, decided_turn}
use Rattle.lead_records.specs.declared.turns.Turn.{Turn}
use Rattle.post.specs.Rules.{TickInput, input_at}
use Rattle.post.specs.declared.head.Head.{Head}

abbrev pub turn_at : Head → TickInput → (ℕ → Lead) → ℕ → Turn
turn_at h i leads k = decided_turn h.ratings (leads k) (input_at h i k)

-- the first n places of a family
abbrev pub among : ℕ → (ℕ → Turn) → ℕ → Turn
among n turns k = cond (ltb k n) (turns k) empty_turn
