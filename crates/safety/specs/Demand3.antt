-- Demand 3 of document 00, field by field; its words are defined as document 01's 'Demand 3, word by word' defines them. Definitions only.
use Rattle.std.specs.Prelude.{Bool, not, ◌&&◌, List, [], ◌⊎◌, ◌≡◌, ℕ, zero, suc, ◌+◌, ◌*◌, ◌/◌, ◌≤◌, ◌<◌, min, T, get_or, length, Option, Some, None, Result, Err, ⊤}
use Rattle.common.specs.Tests.{between}
use Rattle.little_endian.specs.Numbers.{byte_at}
use Rattle.frames.specs.Heard.{newest_status, signals_of}
use Rattle.frames.specs.declared.heard.VehicleStatus.{VehicleStatus}
use Rattle.sharing.specs.Level.{sum, equal_part}
use Rattle.lead.specs.Names.{permission_open, not_enabled}
use Rattle.lead.specs.Leads.{fresh}
use Rattle.lead.specs.Questions.{revokes, verdict, got_no}
use Rattle.lead.specs.declared.state.Lead.{Lead}
use Rattle.lead.specs.declared.state.Contacts.{Contacts}
use Rattle.lead.specs.declared.questions.Stop.{Stop}
use Rattle.lead.specs.declared.questions.Stop.TheVariants.{Urgent}
use Rattle.lead_records.specs.Inputs.{contacts_of, frame_records}
use Rattle.post.specs.Heads.{output_part}
use Rattle.post.specs.Rules.{TickInput, tick_input, input_at, want_after, lead_after}
use Rattle.post.specs.declared.head.Head.{Head}
use Rattle.safety.specs.Lists.{Tick}

-- past the end of a list
abbrev pub no_tick : Tick
no_tick = record { input = tick_input []; output = []; state = [] }

-- "It permits if faults and system fault are clear and it says enabled, in park, contactor closed and no stop request."
abbrev pub permits : VehicleStatus → Bool
permits frame =
    (signals_of frame).clear && (signals_of frame).enabled && (signals_of frame).parked && (signals_of frame).closed && not (signals_of frame).stop

-- "11–18 are urgent."
abbrev pub is_urgent_question : ℕ → Bool
is_urgent_question n = between 11 18 n

-- The list: what setup fixed, and the ticks that returned 0. Ticks and leads are numbered from 0.
module _ (h : Head) (ticks : List Tick) where
  -- what the tick is given
  abbrev pub inputs_at : ℕ → TickInput
  inputs_at t = (get_or ticks t no_tick).input

  -- "Commands are the outputs'": byte 2 of what the lead shows
  abbrev pub command_at : ℕ → ℕ → ℕ
  command_at t k = byte_at (output_part (get_or ticks t no_tick).output k) 2

  -- "Phases, thresholds, wants and the questions' answers are what the rules above give for the list's setup and inputs": the leads
  -- before tick t, from fresh ones on
  abbrev pub leads_before : ℕ → ℕ → Lead
  leads_before zero = λ k. fresh
  leads_before (suc t) = lead_after h (inputs_at t) (leads_before t)

  abbrev pub phase_before : ℕ → ℕ → ℕ
  phase_before t k = (leads_before t k).stage.phase

  abbrev pub phase_at : ℕ → ℕ → ℕ
  phase_at t k = phase_before (suc t) k

  abbrev pub threshold_at : ℕ → ℕ → ℕ
  threshold_at t k = (leads_before (suc t) k).threshold

  -- in watts
  abbrev pub want_at : ℕ → ℕ → ℕ
  want_at t = want_after h (inputs_at t) (leads_before t)

  abbrev pub limit_at : ℕ → ℕ
  limit_at t = (inputs_at t).limit

  -- question n is asked in the tick and gets a no
  abbrev pub NoAt : ℕ → ℕ → ℕ → Type 0
  NoAt t k n = T (got_no h.ratings (input_at h (inputs_at t) k) (leads_before t k) n)

  -- the verdict of the tick: its stop, if it has one
  abbrev pub verdict_at : ℕ → ℕ → Result ⊤ Stop
  verdict_at t k = verdict h.ratings (input_at h (inputs_at t) k) (leads_before t k)

  -- the tick stops the lead, urgently and with this reason
  abbrev pub StopsUrgently : ℕ → ℕ → ℕ → Type 0
  StopsUrgently t k reason = verdict_at t k ≡ Err (Urgent reason)

  -- the tick moves the lead from one phase to another
  abbrev pub Moves : ℕ → ℕ → ℕ → ℕ → Type 0
  Moves t k from to = (phase_before t k ≡ from) × (phase_at t k ≡ to)

  abbrev pub contacts_at : ℕ → ℕ → Contacts
  contacts_at t k = contacts_of (byte_at ((inputs_at t).records k) 0)

  -- the last H'102 of length 8 in the tick's input, records past the count left out
  abbrev pub status_at : ℕ → ℕ → Option VehicleStatus
  status_at t k = newest_status (byte_at ((inputs_at t).records k) 2) (frame_records ((inputs_at t).records k))

  pub record Closed (t k : ℕ) : Type 0 where
    pub plug : T (contacts_at t k).plug
    pub lock : T (contacts_at t k).lock
    pub permission : T (contacts_at t k).permission

  -- "Stayed closed: in the input of every tick from the latest that moved the lead from 2 to 3, through the later one that moved it from 3
  -- to 4, where its insulation test passes, up to and including the commanding one."
  pub record StayedClosed (t k : ℕ) : Type 0 where
    pub locked : ℕ
    pub moved : Moves locked k 2 3
    pub latest : (u : ℕ) → locked < u → u ≤ t → Moves u k 2 3 → ⊥
    pub tested : ℕ
    pub passed : Moves tested k 3 4
    pub later : locked < tested
    pub sooner : tested ≤ t
    pub stayed : (u : ℕ) → locked ≤ u → u ≤ t → Closed u k

  -- "Raised: above the lead's command in the tick before, or above 0 in the first tick."
  abbrev pub command_before : ℕ → ℕ → ℕ
  command_before zero k = 0
  command_before (suc t) k = command_at t k

  -- "The newest status frame is the last H'102 of length 8 in the lead's inputs so far, this tick's included"
  pub record Newest (t k : ℕ) : Type 0 where
    pub frame : VehicleStatus
    pub tick : ℕ
    pub sofar : tick ≤ t
    pub there : status_at tick k ≡ Some frame
    pub last : (u : ℕ) → tick < u → u ≤ t → status_at u k ≡ None

  -- "Its age is the number of ticks after its own." "It asks that much if its requested amperes are at least the new command."
  pub record MayRaise (t k amperes : ℕ) : Type 0 where
    pub newest : Newest t k
    pub young : t ≤ newest.tick + 9
    pub permitted : T (permits newest.frame)
    pub asked : amperes ≤ newest.frame.request

  -- "Unplugged: a tick after the no, with the plug open, moves the lead from 10 to 0. Started anew: a tick after that one moves it from 0
  -- to 1." Before tick v, after the no in tick t.
  pub record StartedAnew (t v k : ℕ) : Type 0 where
    pub unplugged : ℕ
    pub after : t < unplugged
    pub plug_open : T (not (contacts_at unplugged k).plug)
    pub reset : Moves unplugged k 10 0
    pub anew : ℕ
    pub later : unplugged < anew
    pub sooner : anew < v
    pub started : Moves anew k 0 1

  -- "Zero after a no", in tick t: in a tick that is not past the latest, "unless the list ends sooner."
  pub record Zeroed (t latest k : ℕ) : Type 0 where
    pub tick : ℕ
    pub from : t ≤ tick
    pub by : tick ≤ latest
    pub zeroed : tick < length ticks → command_at tick k ≡ 0

  -- "From there", that is from every tick u on in which it is zero, "it is 0 in every tick until the lead is started anew."
  abbrev pub StaysZero : ℕ → ℕ → Type 0
  StaysZero t k = (u v : ℕ) → t ≤ u → command_at u k ≡ 0 → u ≤ v → v < length ticks → (command_at v k ≡ 0) ⊎ StartedAnew t v k

  -- 2026-06: "In phases 2 to 6, with questions 11–13 yes, permission open and an H'102 counted in this tick with enabled clear"
  pub record Withdraws (t k : ℕ) : Type 0 where
    pub phases : T (between 2 6 (phase_before t k))
    pub passed : (n : ℕ) → T (between 11 13 n) → NoAt t k n → ⊥
    pub opened : T (not (contacts_at t k).permission)
    pub said : T (revokes (status_at t k))

  pub record Demand3 : Type 0 where
    -- "A lead commands current only while plug, lock contact and permission have stayed closed since before its insulation test passed."
    pub stayed_closed : (t k : ℕ) → t < length ticks → k < h.leads → 0 < command_at t k → StayedClosed t k
    -- "It raises it only if the car's newest status frame is at most 9 ticks old, permits, and asks that much."
    pub raises_only : (t k : ℕ) → t < length ticks → k < h.leads → command_before t k < command_at t k → MayRaise t k (command_at t k)
    -- "Commanded amperes times threshold volts, summed over the leads, never pass the allowance"
    pub allowance : (t : ℕ) → t < length ticks → sum h.leads (λ k. command_at t k * threshold_at t k) ≤ limit_at t
    -- "and each charging lead gets at least what its want or an equal part, whichever is less, carries in whole amperes." "A charging lead
    -- is one in phase 6 or 7 after the tick."
    pub share :
        (t k : ℕ)
        → t < length ticks
        → k < h.leads
        → T (between 6 7 (phase_at t k))
        → min (want_at t k) (equal_part h.leads (want_at t) (limit_at t)) / threshold_at t k ≤ command_at t k
    -- "After a stop question gets a no, it commands zero in that tick if urgent, by the 20th otherwise, that tick being the first."
    pub zero_at_once : (t k n : ℕ) → t < length ticks → k < h.leads → T (is_urgent_question n) → NoAt t k n → Zeroed t t k
    -- 2026-06: "The urgent-stop wording of the safety statement includes this stop." So it is said of every urgent stop, whatever its reason.
    -- This one is among them, with 23; and it is question 14's no, so that what follows is said of it too.
    pub zero_at_urgent_stop : (t k reason : ℕ) → t < length ticks → k < h.leads → StopsUrgently t k reason → Zeroed t t k
    pub withdrawal_is_urgent :
        (t k : ℕ) → t < length ticks → k < h.leads → Withdraws t k → StopsUrgently t k not_enabled × NoAt t k permission_open
    pub zero_by_the_20th : (t k n : ℕ) → t < length ticks → k < h.leads → NoAt t k n → Zeroed t (t + 19) k
    -- "There it stays until unplugged and then started anew."
    pub stays_zero : (t k n : ℕ) → t < length ticks → k < h.leads → NoAt t k n → StaysZero t k
