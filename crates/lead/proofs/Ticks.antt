-- What `decide` does to a lead, field by field. Assumes nothing.
use mathlib.Core.Bool.{Bool, true, false, not, cond, ◌&&◌, ◌||◌}
use mathlib.Core.Path.{◌≡◌, refl, sym, ap}
use Prim.Native.Nat.{ℕ, ◌≤◌}
use native.Mathlib.Omega.{arith}
use lib.Dec.{T, leb, eqb, eqb→eq}
use lib.ListN.{get_or}
use lib.Ieee.Fits.{and_r}
use borrow.Author.Tests.{eq-eqb, ne_eqb}
use Rattle.std.specs.Prelude.{⊤, Result, is_some}
use Rattle.frames.specs.Heard.{signals_of}
use Rattle.common.specs.Tests.{between}
use Rattle.lead.specs.Names.{handshake, locking, no_reason}
use Rattle.lead.specs.Leads.{blank}
use Rattle.lead.specs.Hearing.{hear}
use Rattle.lead.specs.Figures.{ramp_down_end, weld_check_end}
use Rattle.lead.specs.Questions.{meter_of, unless_bad, threshold_now, view_of, reason_of, verdict}
use Rattle.lead.specs.Moves.{discharged, ramped_down, if_good, moves, may_move, next_phase, reason_after, age_after, go_on, advance, decide}
use Rattle.lead.specs.declared.state.Lead.{Lead}
use Rattle.lead.specs.declared.state.HeardLead.{HeardLead}
use Rattle.lead.specs.declared.state.Car.{Car}
use Rattle.lead.specs.declared.state.Ratings.{Ratings}
use Rattle.lead.specs.declared.state.Input.{Input}
use Rattle.lead.specs.declared.questions.View.{View}
use Rattle.lead.specs.declared.questions.Stop.{Stop}
use Rattle.common.proofs.Bools.{holds, below}

module _ (c : Ratings) (i : Input) (s : Lead) where
  -- whether the tick may move, the phase after it, and whether it starts the lead
  abbrev pub may : Bool
  may = may_move (view_of c i (hear i s)) (hear i s)

  abbrev pub phase_after : ℕ
  phase_after = next_phase s.stage.phase (verdict c i s) may

  abbrev pub start : Bool
  start = eqb s.stage.phase 0 && eqb phase_after 1

-- what the move wants, by the phase
pub wants_of : (v : View) (heard : HeardLead) (p : ℕ) → heard.lead.stage.phase ≡ p → may_move v heard ≡ get_or (moves v heard) p false
unfolding may_move
wants_of v heard p e = ap (λ (n : ℕ). get_or (moves v heard) n false) e

-- What the move out of each phase asks for, in a tick that starts at s. `car` is what the lead knows of the car once it has heard the
-- tick's frames.
pub record MoveMet (c : Ratings) (i : Input) (s : Lead) (car : Car) : Type 0 where
  pub out_of_0 : s.stage.phase ≡ 0 → T (i.contacts.start && i.contacts.plug && not i.contacts.emergency)
  pub out_of_1 :
      s.stage.phase ≡ 1
      → T (car.battery.seen && car.time.seen && car.status.seen && i.contacts.permission && (signals_of car.status.value).enabled)
  pub out_of_2 : s.stage.phase ≡ 2 → T i.contacts.lock
  pub out_of_3 : s.stage.phase ≡ 3 → T (is_some i.insulation)
  pub out_of_4 : s.stage.phase ≡ 4 → T (unless_bad discharged (meter_of c.errors i.reading))
  pub out_of_5 : s.stage.phase ≡ 5 → T (signals_of car.status.value).closed
  pub out_of_7 :
      s.stage.phase ≡ 7
      → T (eqb s.command 0 && unless_bad ramped_down (meter_of c.errors i.reading) || leb ramp_down_end s.stage.age)
  pub out_of_8 : s.stage.phase ≡ 8 → T (not (signals_of car.status.value).closed || leb weld_check_end s.stage.age)
  pub out_of_9 : s.stage.phase ≡ 9 → T (if_good discharged (meter_of c.errors i.reading))
  pub out_of_10 : s.stage.phase ≡ 10 → T (not i.contacts.plug)

-- of a lead that has heard, so that its phase can be replaced
met : (c : Ratings) (i : Input) (h : HeardLead) → T (may_move (view_of c i h) h) → MoveMet c i h.lead h.lead.car
unfolding may_move moves view_of
met c i h t =
    record {
      out_of_0 = λ e. rw e at t;
      out_of_1 = λ e. rw e at t;
      out_of_2 = λ e. rw e at t;
      out_of_3 = λ e. rw e at t;
      out_of_4 = λ e. rw e at t;
      out_of_5 = λ e. rw e at t;
      out_of_7 = λ e. rw e at t;
      out_of_8 = λ e. rw e at t;
      out_of_9 = λ e. rw e at t;
      out_of_10 = λ e. rw e at t;
    }

pub move_met : (c : Ratings) (i : Input) (s : Lead) → T (may c i s) → MoveMet c i s (hear i s).lead.car
unfolding hear
move_met c i s t =
    let m = met c i (hear i s) t in
    record {
      out_of_0 = m.out_of_0;
      out_of_1 = m.out_of_1;
      out_of_2 = m.out_of_2;
      out_of_3 = m.out_of_3;
      out_of_4 = m.out_of_4;
      out_of_5 = m.out_of_5;
      out_of_7 = m.out_of_7;
      out_of_8 = m.out_of_8;
      out_of_9 = m.out_of_9;
      out_of_10 = m.out_of_10;
    }

module _ (c : Ratings) (i : Input) (s : Lead) where
  -- the start
  pub started : s.stage.phase ≡ 0 → phase_after c i s ≡ 1 → decide c i s ≡ blank handshake
  unfolding decide advance hear
  started e f = rw (eq-eqb _ _ e, eq-eqb _ _ f)

  pub decide_phase : (decide c i s).stage.phase ≡ phase_after c i s
  unfolding decide advance go_on hear
  decide_phase = go (start c i s) refl
    where
      go : (b : Bool) → start c i s ≡ b → (decide c i s).stage.phase ≡ phase_after c i s
      go true e = rw e (sym (eqb→eq (phase_after c i s) 1 (and_r (eqb s.stage.phase 0) (eqb (phase_after c i s) 1) (holds e))))
      go false e = rw e

-- What a tick leaves of a lead that it does not start, and what it makes of the rest.
pub record WentOn (c : Ratings) (i : Input) (s : Lead) : Type 0 where
  pub car : (decide c i s).car ≡ (hear i s).lead.car
  pub command : (decide c i s).command ≡ cond (between 6 7 (phase_after c i s)) s.command 0
  pub energy : (decide c i s).energy ≡ s.energy
  pub threshold :
      (decide c i s).threshold
      ≡ cond (eqb s.stage.phase handshake && eqb (phase_after c i s) locking) (threshold_now c (hear i s)) s.threshold
  pub reason : (decide c i s).stage.reason ≡ reason_after s.stage.phase s.stage.reason (verdict c i s)
  pub age : (decide c i s).stage.age ≡ age_after s.stage.phase (phase_after c i s) s.stage.age

pub not_started : (c : Ratings) (i : Input) (s : Lead) → start c i s ≡ false → WentOn c i s
unfolding decide advance go_on hear view_of
not_started c i s e = record { car = rw e; command = rw e; energy = rw e; threshold = rw e; reason = rw e; age = rw e }

-- up to phase 6 a lead that shows no reason yet shows that of the tick's verdict
pub reason_shown : (p : ℕ) (v : Result ⊤ Stop) → p ≤ 6 → reason_after p no_reason v ≡ reason_of v
unfolding reason_after
reason_shown p v h = rw (below 7 8 p (omega arith)) (go (eqb (reason_of v) no_reason) refl)
  where
    go : (b : Bool) → eqb (reason_of v) no_reason ≡ b → cond b no_reason (reason_of v) ≡ reason_of v
    go true e = sym (eqb→eq (reason_of v) no_reason (holds e))
    go false e = refl

-- a lead that is past phase 0 is not started
pub past_start : (c : Ratings) (i : Input) (s : Lead) → 1 ≤ s.stage.phase → start c i s ≡ false
past_start c i s h = let z : eqb s.stage.phase 0 ≡ false = ne_eqb s.stage.phase 0 (omega arith) in rw z
