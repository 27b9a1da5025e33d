-- One lead's part of a tick, as the code holds it until it is written. The rules (`decode`, `input_of`, `output_of`) do not rest on it. Definitions only.
use Rattle.std.specs.Prelude.{false, List, ℕ, None}
use Rattle.lead.specs.Leads.{fresh}
use Rattle.lead.specs.Moves.{decide}
use Rattle.lead.specs.Power.{commanded}
use Rattle.lead.specs.declared.state.Lead.{Lead}
use Rattle.lead.specs.declared.state.Ratings.{Ratings}
use Rattle.lead.specs.declared.state.Input.{Input}
use Rattle.lead_records.specs.Outputs.{output_of}
use Rattle.lead_records.specs.declared.turns.Turn.{Turn}

-- a place that no lead of the post has: a fresh lead without a reading
abbrev pub empty_turn : Turn
empty_turn = record { lead = fresh; lock = false; reading = None }

-- a lead after its decision, and what its output shows of its input
unfoldable pub decided_turn : Ratings → Lead → Input → Turn
decided_turn c lead input = record { lead = decide c input lead; lock = input.contacts.lock; reading = input.reading }

unfoldable pub commanded_turn : Ratings → ℕ → Turn → Turn
commanded_turn c level turn = record { lead = commanded c level turn.lead; lock = turn.lock; reading = turn.reading }

-- what a turn's lead shows at a level
abbrev pub turn_shown : Ratings → ℕ → Turn → List ℕ
turn_shown c level turn = output_of c level turn.lock turn.reading turn.lead
