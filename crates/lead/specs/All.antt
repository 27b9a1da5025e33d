-- One name that opens the rules that a computed tick goes through, of this crate and of those below.
use Rattle.std.specs.Prelude.{Bool, true}
use Rattle.readings.specs.All.{readings_rules}
use Rattle.frames.specs.All.{frames_rules}
use Rattle.lead.specs.Hearing.{hear_known, silence_after, hear_car, hear}
use Rattle.lead.specs.Questions.{view_of, questions, ask, got_no}
use Rattle.lead.specs.Moves.{moves, may_move, next_phase, reason_after, age_after, go_on, advance, decide}
use Rattle.lead.specs.Power.{wanted, wanted_watts, offered, energy_after, commanded}
use Rattle.lead.specs.Good.{good_threshold, good_lead}

unfoldable pub lead_rules : Bool
unfolding readings_rules frames_rules hear_known silence_after hear_car hear view_of questions ask got_no moves may_move next_phase reason_after age_after go_on advance decide wanted wanted_watts offered energy_after commanded good_threshold good_lead
lead_rules = true
