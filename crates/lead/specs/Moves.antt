-- Document 01, 'Phases', and where a stop leads: a lead's tick but for its command and the energy that this adds. Definitions only.
use Rattle.std.specs.Prelude.{Bool, false, not, cond, ◌&&◌, ◌||◌, List, [], ◌∷◌, ℕ, ◌+◌, min, leb, eqb, get_or, ⊤, Option, Some, None, Result, Ok, Err}
use Rattle.common.specs.Tests.{between}
use Rattle.readings.specs.Readings.{at_most}
use Rattle.lead.specs.Names.{idle, handshake, locking, no_reason}
use Rattle.lead.specs.Figures.{discharged_volts, residual_amperes, ramp_down_end, weld_check_end}
use Rattle.lead.specs.Leads.{blank, with_stage, with_command, with_threshold}
use Rattle.lead.specs.Hearing.{hear}
use Rattle.lead.specs.Questions.{unless_bad, view_of, ask, reason_of}
use Rattle.lead.specs.declared.moves.Exits.{Exits}
use Rattle.lead.specs.declared.state.Lead.{Lead}
use Rattle.lead.specs.declared.state.HeardLead.{HeardLead}
use Rattle.lead.specs.declared.state.Ratings.{Ratings}
use Rattle.lead.specs.declared.state.Input.{Input}
use Rattle.lead.specs.declared.questions.View.{View}
use Rattle.lead.specs.declared.questions.Meter.{Meter}
use Rattle.lead.specs.declared.questions.Stop.{Stop}
use Rattle.lead.specs.declared.questions.Stop.TheVariants.{Urgent, Ordinary}

-- the 10 V limit and that of 4.9 A
abbrev pub discharged : Meter → Bool
discharged meter = at_most meter.volts discharged_volts

abbrev pub ramped_down : Meter → Bool
ramped_down meter = at_most meter.amperes residual_amperes

-- a limit on a reading that has to be good
abbrev pub if_good : (Meter → Bool) → Option Meter → Bool
if_good limit (Some meter) = limit meter
if_good limit None = false

-- what each phase's move wants, phases 0 to 10
unfoldable pub moves : View → HeardLead → List Bool
moves v heard =
    let s : Lead = heard.lead in
    -- "0 to 1: start pressed, plug closed, emergency button out."
    (v.contacts.start && v.contacts.plug && not v.contacts.emergency)
    -- "1 to 2: H'100, H'101, H'102 seen, permission closed, enabled."
    ∷ (s.car.battery.seen && s.car.time.seen && s.car.status.seen && v.contacts.permission && v.signals.enabled)
    -- "2 to 3: lock contact closed."
    ∷ v.contacts.lock
    -- "3 to 4: resistance given."
    ∷ v.present
    -- "4 to 5: connector volts", their upper end (2026-08), "at most 10."
    ∷ unless_bad discharged v.meter
    -- "5 to 6: contactor closed."
    ∷ v.signals.closed
    -- phase 6 has no move
    ∷ false
    -- "7 to 8: command 0 and amperes", their upper end (2026-08), "at most" 4.9 (2026-04), "or age 30 or more."
    ∷ (eqb s.command 0 && unless_bad ramped_down v.meter || leb ramp_down_end s.stage.age)
    -- "8 to 9: contactor open, or age 40 or more"
    ∷ (not v.signals.closed || leb weld_check_end s.stage.age)
    -- "9 to 10: good reading, connector volts", their upper end (2026-08), "at most 10."
    ∷ if_good discharged v.meter
    -- "10 to 0: plug open."
    ∷ not v.contacts.plug
    ∷ []

unfoldable pub may_move : View → HeardLead → Bool
may_move v heard = get_or (moves v heard) heard.lead.stage.phase false

-- The phase that the move out of each phase leads to, phases 0 to 10. In these three tables a phase that has no such move or stop stays.
abbrev pub move_to : List ℕ
move_to = 1 ∷ 2 ∷ 3 ∷ 4 ∷ 5 ∷ 6 ∷ 6 ∷ 8 ∷ 9 ∷ 10 ∷ 0 ∷ []

-- "Phase 1 stops into 10. Urgent stops from 2–8 lead to 9."
abbrev pub urgent_to : List ℕ
urgent_to = 0 ∷ 10 ∷ 9 ∷ 9 ∷ 9 ∷ 9 ∷ 9 ∷ 9 ∷ 9 ∷ 9 ∷ 10 ∷ []

-- "Others lead from 2–5 to 8, from 6 to 7."
abbrev pub ordinary_to : List ℕ
ordinary_to = 0 ∷ 10 ∷ 8 ∷ 8 ∷ 8 ∷ 8 ∷ 7 ∷ 7 ∷ 8 ∷ 9 ∷ 10 ∷ []

-- the three side by side
abbrev pub exits_of : ℕ → Exits
exits_of p = record { 0 = get_or move_to p 0; 1 = get_or urgent_to p 0; 2 = get_or ordinary_to p 0 }

-- "without a stop, move at most once"
unfoldable pub next_phase : ℕ → Result ⊤ Stop → Bool → ℕ
next_phase p (Ok done) may = cond may (get_or move_to p 0) p
next_phase p (Err (Urgent stop)) may = get_or urgent_to p 0
next_phase p (Err (Ordinary stop)) may = get_or ordinary_to p 0

-- "In 7 and 8 … the reason recorded first remains, a 0 in a state handed in too."
unfoldable pub reason_after : ℕ → ℕ → Result ⊤ Stop → ℕ
reason_after p reason verdict = cond (between 7 8 p || eqb (reason_of verdict) no_reason) reason (reason_of verdict)

-- "A move or a stop sets age to 0; staying adds 1, up to 4,294,967,295."
unfoldable pub age_after : ℕ → ℕ → ℕ → ℕ
age_after p q age = cond (eqb p q) (min (age + 1) 4294967295) 0

-- a lead that goes on into phase q: "The threshold is kept" on the move to 2; outside 6 and 7 the command is 0
unfoldable pub go_on : View → Result ⊤ Stop → ℕ → HeardLead → Lead
go_on v verdict q heard =
    let s : Lead = heard.lead in
    let p : ℕ = s.stage.phase in
    with_stage (record { phase = q; reason = reason_after p s.stage.reason verdict; age = age_after p q s.stage.age })
    (with_threshold (cond (eqb p handshake && eqb q locking) v.threshold s.threshold)
    (with_command (cond (between 6 7 q) s.command 0) s))

-- "0 to 1 … Then everything remembered is zeroed." 2026-01: the count too is "zeroed at each start", and nowhere else.
unfoldable pub advance : View → Result ⊤ Stop → HeardLead → Lead
advance v verdict heard =
    let p : ℕ = heard.lead.stage.phase in
    let q : ℕ = next_phase p verdict (may_move v heard) in
    cond (eqb p idle && eqb q handshake) (blank handshake) (go_on v verdict q heard)

-- "Each tick, by the phase in which it began": frames, questions, a stop or a move
unfoldable pub decide : Ratings → Input → Lead → Lead
decide c i s =
    let heard : HeardLead = hear i s in
    let v : View = view_of c i heard in
    advance v (ask v heard) heard
