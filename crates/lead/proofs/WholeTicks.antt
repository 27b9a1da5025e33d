-- A lead's whole tick, at any level: what the phase in which it ends says of the inputs and of the command. Assumes nothing.
use mathlib.Core.Bool.{Bool, true, false, not, cond, ◌&&◌}
use mathlib.Core.Logic.{◌⊎◌, inl, inr}
use mathlib.Core.Path.{◌≡◌, refl, sym, ap, ◌∙◌}
use Prim.Native.Nat.{ℕ, ◌+◌, ◌-◌, ◌*◌, ◌≤◌, ◌<◌, min}
use native.Mathlib.Omega.{arith}
use lib.Dec.{T, eqb, leb→le, ltb→lt, eqb→eq}
use lib.Ieee.Fits.{and_i, and_l, and_r}
use borrow.Author.Tests.{eq-eqb}
use Rattle.std.specs.Prelude.{⊤, Result}
use Rattle.frames.specs.Heard.{signals_of}
use Rattle.common.specs.Tests.{between}
use Rattle.lead.specs.Figures.{most_energy}
use Rattle.lead.specs.Hearing.{hear}
use Rattle.lead.specs.Questions.{verdict}
use Rattle.lead.specs.Moves.{reason_after, decide}
use Rattle.lead.specs.Power.{wanted, commanded}
use Rattle.lead.specs.declared.state.Lead.{Lead}
use Rattle.lead.specs.declared.state.Stage.{Stage}
use Rattle.lead.specs.declared.state.Car.{Car}
use Rattle.lead.specs.declared.state.Ratings.{Ratings}
use Rattle.lead.specs.declared.state.Input.{Input}
use Rattle.lead.specs.declared.questions.Stop.{Stop}
use Rattle.common.proofs.Bools.{holds, is_true, imp, mp, between_of, between_lo, between_hi, at_or_past}
use Rattle.lead.proofs.Phases as phases
use Rattle.lead.proofs.Phases.{is_pass, is_urgent}
use Rattle.lead.proofs.Answers.{UrgentYes, OrdinaryYes, urgent_yes, ordinary_yes}
use Rattle.lead.proofs.Ticks.{may, phase_after, start, move_met, started, decide_phase, not_started, past_start}
use Rattle.lead.proofs.Commands.{command_stage, command_threshold, command_car, command_energy, command_most, command_0, want_6, want_7}

abbrev pub ticked : Ratings → ℕ → Input → Lead → Lead
ticked c level i s = commanded c level (decide c i s)

-- plug, charge permission and lock closed in the tick, which began in 2 to 7
pub record Live (i : Input) (s : Lead) : Type 0 where
  pub began : T (between 2 7 s.stage.phase)
  pub plug : T i.contacts.plug
  pub permission : T i.contacts.permission
  pub lock : T i.contacts.lock

-- the newest H'102, heard not long ago, lets the post charge, in a tick that began in 5 or 6
pub record Permitted (s : Lead) (car : Car) : Type 0 where
  pub began : T (between 5 6 s.stage.phase)
  pub recent : car.silence < 10
  pub clear : T (signals_of car.status.value).clear
  pub parked : T (signals_of car.status.value).parked
  pub enabled : T (signals_of car.status.value).enabled
  pub unstopped : T (not (signals_of car.status.value).stop)
  pub closed : T (signals_of car.status.value).closed

module _ (c : Ratings) (i : Input) (s : Lead) (p≤ : s.stage.phase ≤ 10) where
  abbrev p : ℕ
  p = s.stage.phase

  abbrev q : ℕ
  q = phase_after c i s

  abbrev v : Result ⊤ Stop
  v = verdict c i s

  abbrev m : Bool
  m = may c i s

  pub phase_most : q ≤ 10
  phase_most = leb→le q 10 (phases.next_range p p≤ v m)

  -- a tick that ends in 3 to 7
  pub ends_live : T (between 3 7 q) → Live i s
  ends_live w =
      let came : T (between 2 7 p && not (is_urgent v)) = mp (between 3 7 q) (between 2 7 p && not (is_urgent v)) (phases.into_3_7 p p≤ v m) w in
      let began : T (between 2 7 p) = and_l (between 2 7 p) (not (is_urgent v)) came in
      let lo : 2 ≤ p = between_lo 2 7 p began in
      let hi : p ≤ 7 = between_hi 2 7 p began in
      let yes : UrgentYes c i s = urgent_yes c i s (and_r (between 2 7 p) (not (is_urgent v)) came) in
      record {
        began = began;
        plug = yes.plug_closed (between_of 1 8 p (omega arith) (omega arith));
        permission = yes.permission_closed began;
        lock = lock-of lo hi yes (at_or_past 2 p lo);
      }
    where
      lock-of : 2 ≤ p → p ≤ 7 → UrgentYes c i s → (p ≡ 2) ⊎ (3 ≤ p) → T i.contacts.lock
      lock-of lo hi said (inr h) = said.lock_closed (between_of 3 7 p h hi)
      lock-of lo hi said (inl e) =
          let moved : T (eqb q 3 && m) =
          mp (eqb p 2 && between 3 7 q) (eqb q 3 && m) (phases.from_2 p p≤ v m) (and_i (eqb p 2) (between 3 7 q) (holds (eq-eqb p 2 e)) w) in
          (move_met c i s (and_r (eqb q 3) m moved)).out_of_2 e

  -- a tick that ends in 3 to 7 and began in 2 moves to 3; one that ends in 4 to 7 and began in 3 moves to 4
  pub out_of_2 : T (between 3 7 q) → p ≡ 2 → q ≡ 3
  out_of_2 w e =
      eqb→eq q 3
      (and_l (eqb q 3) m
      (mp (eqb p 2 && between 3 7 q) (eqb q 3 && m) (phases.from_2 p p≤ v m) (and_i (eqb p 2) (between 3 7 q) (holds (eq-eqb p 2 e)) w)))

  past_3 : T (between 4 7 q) → T (between 3 7 p && imp (eqb p 3) (eqb q 4))
  past_3 w = mp (between 4 7 q) (between 3 7 p && imp (eqb p 3) (eqb q 4)) (phases.into_4_7 p p≤ v m) w

  pub out_of_3 : T (between 4 7 q) → p ≡ 3 → q ≡ 4
  out_of_3 w e = eqb→eq q 4 (mp (eqb p 3) (eqb q 4) (and_r (between 3 7 p) (imp (eqb p 3) (eqb q 4)) (past_3 w)) (holds (eq-eqb p 3 e)))

  -- a tick that ends in 6
  module _ (six : q ≡ 6) where
    came : T (between 5 6 p && is_pass v && imp (eqb p 5) m)
    came = mp (eqb q 6) (between 5 6 p && is_pass v && imp (eqb p 5) m) (phases.into_6 p p≤ v m) (holds (eq-eqb q 6 six))

    early : T (between 5 6 p && is_pass v)
    early = and_l (between 5 6 p && is_pass v) (imp (eqb p 5) m) came

    five_or_six : T (between 5 6 p)
    five_or_six = and_l (between 5 6 p) (is_pass v) early

    lo : 5 ≤ p
    lo = between_lo 5 6 p five_or_six

    hi : p ≤ 6
    hi = between_hi 5 6 p five_or_six

    passed : OrdinaryYes c i s (hear i s).lead.car
    passed = ordinary_yes c i s (and_r (between 5 6 p) (is_pass v) early)

    in_bracket : (first : ℕ) → first ≤ 5 → T (between first 6 p)
    in_bracket first h = between_of first 6 p (omega (arith, lo)) hi

    contactor : (p ≡ 5) ⊎ (6 ≤ p) → T (signals_of (hear i s).lead.car.status.value).closed
    contactor (inl e) = (move_met c i s (mp (eqb p 5) m (and_r (between 5 6 p && is_pass v) (imp (eqb p 5) m) came) (holds (eq-eqb p 5 e)))).out_of_5 e
    contactor (inr h) = passed.contactor_closed (between_of 6 6 p h hi)

    pub ends_permitted : Permitted s (hear i s).lead.car
    ends_permitted =
        record {
          began = five_or_six;
          recent = ltb→lt (hear i s).lead.car.silence 10 (passed.car_heard (in_bracket 2 (omega arith)));
          clear = passed.faults_clear (in_bracket 1 (omega arith));
          parked = passed.in_park (in_bracket 1 (omega arith));
          enabled = passed.enabled (in_bracket 2 (omega arith));
          unstopped = passed.no_stop_request (in_bracket 1 (omega arith));
          closed = contactor (at_or_past 5 p lo);
        }

  -- 2026-01: "zeroed at each start"
  decided_energy : (decide c i s).energy ≡ cond (start c i s) 0 s.energy
  decided_energy = go (start c i s) refl
    where
      go : (b : Bool) → start c i s ≡ b → (decide c i s).energy ≡ cond b 0 s.energy
      go true e =
          let both : T (eqb p 0 && eqb q 1) = holds e in
          ap (λ (x : Lead). x.energy)
          (started c i s (eqb→eq p 0 (and_l (eqb p 0) (eqb q 1) both)) (eqb→eq q 1 (and_r (eqb p 0) (eqb q 1) both)))
      go false e = (not_started c i s e).energy

  -- the command, at any level
  module _ (level : ℕ) where
    pub ticked_phase : (ticked c level i s).stage.phase ≡ q
    ticked_phase = ap (λ (x : Stage). x.phase) (command_stage c level (decide c i s)) ∙ decide_phase c i s

    pub ticked_0 : (T (between 6 7 q) → ⊥) → (ticked c level i s).command ≡ 0
    ticked_0 n = command_0 c level (decide c i s) (λ w. n (rw (decide_phase c i s) at w))

    -- a lead in 6 and 7 keeps its command until the division, and what it knows of the car
    kept : 1 ≤ p → T (between 6 7 q) → (decide c i s).command ≡ s.command
    kept h w = (not_started c i s (past_start c i s h)).command ∙ rw (is_true (between 6 7 q) w)

    pub ticked_car : 1 ≤ p → (ticked c level i s).car ≡ (hear i s).lead.car
    ticked_car h = command_car c level (decide c i s) ∙ (not_started c i s (past_start c i s h)).car

    pub ticked_reason : 1 ≤ p → (ticked c level i s).stage.reason ≡ reason_after p s.stage.reason v
    ticked_reason h =
        ap (λ (x : Stage). x.reason) (command_stage c level (decide c i s)) ∙ (not_started c i s (past_start c i s h)).reason

    -- 2026-01: a start zeroes the count, and every tick adds its command times the threshold
    pub ticked_energy :
        (ticked c level i s).energy
        ≡ min (cond (start c i s) 0 s.energy + (ticked c level i s).command * (ticked c level i s).threshold) most_energy
    ticked_energy =
        command_energy c level (decide c i s)
        ∙ ap (λ n. min (n + (ticked c level i s).command * (decide c i s).threshold) most_energy) decided_energy
        ∙ ap (λ n. min (cond (start c i s) 0 s.energy + (ticked c level i s).command * n) most_energy)
        (sym (command_threshold c level (decide c i s)))

    -- in 6 it is at most what the car asks for, the rating, and 2 A above the one before
    pub ticked_6 : q ≡ 6 → (ticked c level i s).command ≤ min (min (hear i s).lead.car.status.value.request c.amperes) (s.command + 2)
    ticked_6 six =
        let most : (ticked c level i s).command ≤ wanted c (decide c i s) = command_most c level (decide c i s) in
        let before : 1 ≤ p = omega (arith, lo six) in
        let same : (decide c i s).command ≡ s.command = kept before (between_of 6 7 q (omega arith) (omega arith)) in
        let car : (decide c i s).car ≡ (hear i s).lead.car = (not_started c i s (past_start c i s before)).car in
        let is : wanted c (decide c i s) ≡ min (min (hear i s).lead.car.status.value.request c.amperes) (s.command + 2) =
        want_6 c (decide c i s) (decide_phase c i s ∙ six)
        ∙ ap (λ (x : Car). min (min x.status.value.request c.amperes) ((decide c i s).command + 2)) car
        ∙ ap (λ n. min (min (hear i s).lead.car.status.value.request c.amperes) (n + 2)) same in
        omega arith

    -- in 7 it falls by 10 A
    pub ticked_7 : q ≡ 7 → (ticked c level i s).command ≤ s.command - 10
    ticked_7 seven =
        let most : (ticked c level i s).command ≤ wanted c (decide c i s) = command_most c level (decide c i s) in
        let began : T (between 6 7 p) = mp (eqb q 7) (between 6 7 p) (phases.into_7 p p≤ v m) (holds (eq-eqb q 7 seven)) in
        let low : 6 ≤ p = between_lo 6 7 p began in
        let same : (decide c i s).command ≡ s.command = kept (omega arith) (between_of 6 7 q (omega arith) (omega arith)) in
        let is : wanted c (decide c i s) ≡ (decide c i s).command - 10 = want_7 c (decide c i s) (decide_phase c i s ∙ seven) in
        omega arith
