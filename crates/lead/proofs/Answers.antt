-- What a tick's verdict says of the answers: without a stop each question that was asked got a yes, and without an urgent stop
-- each urgent one did. Assumes nothing.
use mathlib.Core.Bool.{Bool, true, false, not, cond, ◌&&◌, ◌||◌}
use mathlib.Core.List.{List, [], ◌∷◌}
use mathlib.Core.Logic.{◌⊎◌, inl, inr}
use mathlib.Core.Path.{◌≡◌, refl}
use Prim.Native.Nat.{ℕ, zero, suc, ◌+◌, ◌-◌, ◌≤◌, ◌<◌}
use native.Mathlib.Omega.{arith}
use lib.Dec.{T, T_not, not_T, leb, ltb, eqb, le→leb, eqb→eq}
use borrow.Author.Tests.{ne_eqb}
use lib.ListN.{get_or}
use lib.Ieee.Fits.{and_i, and_l, and_r}
use Rattle.std.specs.Prelude.{⊤, Ok, Err, Result, is_some}
use Rattle.readings.specs.Readings.{at_most, insulated}
use Rattle.frames.specs.Heard.{signals_of}
use Rattle.frames.specs.Times.{charging_ticks}
use Rattle.common.specs.Tests.{between}
use Rattle.lead.specs.Names.{no_reason, permission_open, not_enabled}
use Rattle.lead.specs.Figures.{most_volts, most_amperes, least_volts, silence_end}
use Rattle.lead.specs.Questions.{meter_of, unless_bad, threshold_now, ticks_allowed, view_of, once, questions, is_no, stop_of, first_no, ask, reason_of, no_question, verdict, got_no, Question}
use Rattle.lead.specs.Hearing.{hear}
use Rattle.lead.specs.declared.state.Lead.{Lead}
use Rattle.lead.specs.declared.state.HeardLead.{HeardLead}
use Rattle.lead.specs.declared.state.Car.{Car}
use Rattle.lead.specs.declared.state.Ratings.{Ratings}
use Rattle.lead.specs.declared.state.Input.{Input}
use Rattle.lead.specs.declared.questions.View.{View}
use Rattle.lead.specs.declared.questions.Stop.{Stop}
use mir.Facts.{or_yes}
use Rattle.common.proofs.Bools.{is_true, is_false, between_lo, up_to_at}
use Rattle.lead.proofs.Phases.{is_pass, is_urgent}

-- the question at a place
abbrev pub row : List Question → ℕ → Question
row rows j = get_or rows j no_question

abbrev pub every_row : (Question → Bool) → List Question → Bool
every_row f [] = true
every_row f (q ∷ rows) = f q && every_row f rows

-- a reason is 0 or that of a question
abbrev pub is_known : ℕ → Bool
is_known reason = eqb reason no_reason || between 11 29 reason

module _ (p : ℕ) where
  never : T (is_no p no_question) → ⊥
  never t = and_r (between 0 0 p) false t

  module _ (f : Result ⊤ Stop → Bool) where
    -- a no at some place: the verdict is the stop of a question up to there
    pub no_gives : (rows : List Question) (j : ℕ) → T (is_no p (row rows j)) → ((i : ℕ) → i ≤ j → T (f (Err (stop_of (row rows i))))) → T (f (first_no p rows))
    no_gives [] j t s = absurd (never t)
    no_gives (q ∷ rows) zero t s = rw (is_true (is_no p q) t) (s 0 (omega arith))
    no_gives (q ∷ rows) (suc j) t s = go (is_no p q) (no_gives rows j t (λ i h. s (suc i) (omega arith)))
      where
        go : (b : Bool) → T (f (first_no p rows)) → T (f (cond b (Err (stop_of q)) (first_no p rows)))
        go true r = s 0 (omega arith)
        go false r = r

    -- a test that a pass meets, and the stop of every question that gets a no
    abbrev pub met : Question → Bool
    met q = f (Err (stop_of q)) || not (is_no p q)

    pub each_gives : (rows : List Question) → T (f (Ok tt)) → T (every_row met rows) → T (f (first_no p rows))
    each_gives [] t s = t
    each_gives (q ∷ rows) t s =
        go (is_no p q) (or_yes (f (Err (stop_of q))) (not (is_no p q)) (and_l (met q) (every_row met rows) s))
        (each_gives rows t (and_r (met q) (every_row met rows) s))
      where
        go : (b : Bool) → T (f (Err (stop_of q))) ⊎ T (not b) → T (f (first_no p rows)) → T (f (cond b (Err (stop_of q)) (first_no p rows)))
        go true (inl y) r = y
        go true (inr n) r = absurd n
        go false y r = r

  -- a no at some place and none before it: its stop
  pub first_at :
      (rows : List Question) (j : ℕ)
      → ((i : ℕ) → i < j → T (is_no p (row rows i)) → ⊥)
      → T (is_no p (row rows j))
      → first_no p rows ≡ Err (stop_of (row rows j))
  first_at [] j none t = absurd (never t)
  first_at (q ∷ rows) zero none t = rw (is_true (is_no p q) t)
  first_at (q ∷ rows) (suc j) none t =
      rw (is_false (is_no p q) (none 0 (omega arith))) (first_at rows j (λ i x. none (suc i) (omega arith)) t)

module _ (v : View) (h : HeardLead) where
  -- without a stop nothing that was asked got a no
  pass_yes : T (is_pass (ask v h)) → (j : ℕ) → T (is_no h.lead.stage.phase (row (questions v h) j)) → ⊥
  unfolding ask
  pass_yes t j n =
      T_not (is_pass (ask v h)) (no_gives h.lead.stage.phase (λ w. not (is_pass w)) (questions v h) j n (λ i x. tt)) t

  -- the first eight are urgent, so without an urgent stop none of them got a no
  urgent_rows : (i : ℕ) → i ≤ 7 → T (is_urgent (Err (stop_of (row (questions v h) i))))
  unfolding questions
  urgent_rows = up_to_at 7 (λ i. is_urgent (Err (stop_of (row (questions v h) i)))) tt

  urgent_no : (j : ℕ) → j ≤ 7 → T (is_no h.lead.stage.phase (row (questions v h) j)) → T (is_urgent (ask v h))
  unfolding ask
  urgent_no j x n = no_gives h.lead.stage.phase is_urgent (questions v h) j n (λ i k. urgent_rows i (omega arith))

  mild_yes : T (not (is_urgent (ask v h))) → (j : ℕ) → j ≤ 7 → T (is_no h.lead.stage.phase (row (questions v h) j)) → ⊥
  mild_yes t j x n = T_not (is_urgent (ask v h)) t (urgent_no j x n)

  -- so is that of every verdict; question 14's is one of two
  pub reason_known : T (is_known (reason_of (ask v h)))
  unfolding ask questions
  reason_known =
      each_gives h.lead.stage.phase (λ w. is_known (reason_of w)) (questions v h) tt
      (go (between 2 6 h.lead.stage.phase && v.revoked) (is_no h.lead.stage.phase (row (questions v h) 3)))
    where
      go : (b n : Bool) → T ((is_known (cond b not_enabled permission_open) || not n) && true)
      go true n = tt
      go false n = tt

-- rows that are not asked in a phase give no stop
abbrev unasked : ℕ → Question → Bool
unasked p q = not (between q.first q.last p)

unasked_pass : (p : ℕ) (rows : List Question) → T (every_row (unasked p) rows) → first_no p rows ≡ Ok tt
unasked_pass p [] t = refl
unasked_pass p (q ∷ rows) t =
    go (between q.first q.last p) (and_l (unasked p q) (every_row (unasked p) rows) t)
    (unasked_pass p rows (and_r (unasked p q) (every_row (unasked p) rows) t))
  where
    go : (b : Bool) → T (not b) → first_no p rows ≡ Ok tt → cond (b && not q.answer) (Err (stop_of q)) (first_no p rows) ≡ Ok tt
    go true n e = absurd n
    go false n e = e

module _ (v : View) (h : HeardLead) (p≤ : h.lead.stage.phase ≤ 10) where
  outside : T (between 1 8 h.lead.stage.phase || every_row (unasked h.lead.stage.phase) (questions v h))
  unfolding questions
  outside = up_to_at 10 (λ p. between 1 8 p || every_row (unasked p) (questions v h)) tt h.lead.stage.phase p≤

  -- outside 1 to 8 nothing is asked
  pub quiet : T (not (between 1 8 h.lead.stage.phase)) → ask v h ≡ Ok tt
  unfolding ask
  quiet t = go (or_yes (between 1 8 h.lead.stage.phase) (every_row (unasked h.lead.stage.phase) (questions v h)) outside)
    where
      go : T (between 1 8 h.lead.stage.phase) ⊎ T (every_row (unasked h.lead.stage.phase) (questions v h)) → ask v h ≡ Ok tt
      go (inl w) = absurd (T_not (between 1 8 h.lead.stage.phase) t w)
      go (inr u) = unasked_pass h.lead.stage.phase (questions v h) u

-- a question that was asked and got no no got a yes
asked_yes : (p : ℕ) (q : Question) → (T (is_no p q) → ⊥) → T (between q.first q.last p) → T q.answer
asked_yes p q n t = go (between q.first q.last p) q.answer n t
  where
    go : (a b : Bool) → (T (a && not b) → ⊥) → T a → T b
    go true true n t = tt
    go true false n t = n tt
    go false b n t = absurd t

-- The answers of questions 11 to 18 in a tick that starts at s.
pub record UrgentYes (c : Ratings) (i : Input) (s : Lead) : Type 0 where
  pub emergency_out : T (between 1 8 s.stage.phase) → T (not i.contacts.emergency)
  pub plug_closed : T (between 1 8 s.stage.phase) → T i.contacts.plug
  pub no_ground_fault : T (between 1 8 s.stage.phase) → T (not i.contacts.leakage)
  pub permission_closed : T (between 2 7 s.stage.phase) → T i.contacts.permission
  pub reading_good : T (between 3 7 s.stage.phase) → T (is_some (meter_of c.errors i.reading))
  pub volts_in_range : T (between 5 7 s.stage.phase) → T (unless_bad (λ meter. at_most meter.volts (most_volts s.threshold)) (meter_of c.errors i.reading))
  pub amperes_in_range : T (between 5 7 s.stage.phase) → T (unless_bad (λ meter. at_most meter.amperes (most_amperes c.amperes)) (meter_of c.errors i.reading))
  pub lock_closed : T (between 3 7 s.stage.phase) → T i.contacts.lock

-- The answers of questions 19 to 29. `car` is what the lead knows of the car once it has heard the tick's frames.
pub record OrdinaryYes (c : Ratings) (i : Input) (s : Lead) (car : Car) : Type 0 where
  pub car_heard : T (between 2 6 s.stage.phase) → T (ltb car.silence silence_end)
  pub faults_clear : T (between 1 6 s.stage.phase) → T (signals_of car.status.value).clear
  pub compatible :
      T (between 1 6 s.stage.phase)
      → T
      (once (car.battery.seen && car.status.seen)
      (leb least_volts car.battery.value
      && leb least_volts car.status.value.target
      && leb car.status.value.target (threshold_now c (hear i s))))
  pub in_park : T (between 1 6 s.stage.phase) → T (signals_of car.status.value).parked
  pub enabled : T (between 2 6 s.stage.phase) → T (signals_of car.status.value).enabled
  pub no_stop_request : T (between 1 6 s.stage.phase) → T (not (signals_of car.status.value).stop)
  pub contactor_closed : T (between 6 6 s.stage.phase) → T (signals_of car.status.value).closed
  pub stop_button_out : T (between 1 6 s.stage.phase) → T (not i.contacts.stop)
  pub insulation_high : T (between 3 3 s.stage.phase) → T (insulated s.threshold i.insulation)
  pub phase_in_time : T (between 1 5 s.stage.phase) → T (ltb s.stage.age (get_or ticks_allowed s.stage.phase 0))
  pub charging_in_time : T (between 6 6 s.stage.phase) → T (ltb s.stage.age (charging_ticks car.time.value))

-- past phase 1 the threshold is the kept one
pub threshold_kept : (c : Ratings) (i : Input) (s : Lead) → 2 ≤ s.stage.phase → threshold_now c (hear i s) ≡ s.threshold
unfolding hear
threshold_kept c i s h = rw (ne_eqb s.stage.phase 1 (omega arith))

module _ (c : Ratings) (i : Input) (s : Lead) where
  -- the question at a place, as the tick asks it
  abbrev pub asked_row : ℕ → Question
  asked_row j = row (questions (view_of c i (hear i s)) (hear i s)) j

  urgent_said : T (not (is_urgent (verdict c i s))) → (j : ℕ) → j ≤ 7 → T (between (asked_row j).first (asked_row j).last (hear i s).lead.stage.phase) → T (asked_row j).answer
  urgent_said t j k = asked_yes (hear i s).lead.stage.phase (asked_row j) (mild_yes (view_of c i (hear i s)) (hear i s) t j k)

  said : T (is_pass (verdict c i s)) → (j : ℕ) → T (between (asked_row j).first (asked_row j).last (hear i s).lead.stage.phase) → T (asked_row j).answer
  said t j = asked_yes (hear i s).lead.stage.phase (asked_row j) (pass_yes (view_of c i (hear i s)) (hear i s) t j)

  -- the rows stand in the order of their numbers, from 11 on
  pub in_order : (j : ℕ) → j ≤ 18 → (asked_row j).number ≡ 11 + j
  unfolding questions
  in_order j h = eqb→eq (asked_row j).number (11 + j) (up_to_at 18 (λ n. eqb (asked_row n).number (11 + n)) tt j h)

  -- what a tick without an urgent stop implies
  pub urgent_yes : T (not (is_urgent (verdict c i s))) → UrgentYes c i s
  unfolding questions view_of hear
  urgent_yes t =
      record {
        emergency_out = urgent_said t 0 (omega arith);
        plug_closed = urgent_said t 1 (omega arith);
        no_ground_fault = urgent_said t 2 (omega arith);
        permission_closed = urgent_said t 3 (omega arith);
        reading_good = urgent_said t 4 (omega arith);
        volts_in_range = λ w. rw (threshold_kept c i s (omega (arith, between_lo 5 7 s.stage.phase w))) at (urgent_said t 5 (omega arith) w);
        amperes_in_range = urgent_said t 6 (omega arith);
        lock_closed = urgent_said t 7 (omega arith);
      }

  -- what a tick without a stop implies
  pub ordinary_yes : T (is_pass (verdict c i s)) → OrdinaryYes c i s (hear i s).lead.car
  unfolding questions view_of hear
  ordinary_yes t =
      record {
        car_heard = said t 8;
        faults_clear = said t 9;
        compatible = said t 10;
        in_park = said t 11;
        enabled = said t 12;
        no_stop_request = said t 13;
        contactor_closed = said t 14;
        stop_button_out = said t 15;
        insulation_high = λ w. rw (threshold_kept c i s (omega (arith, between_lo 3 3 s.stage.phase w))) at (said t 16 w);
        phase_in_time = said t 17;
        charging_in_time = said t 18;
      }

  -- a no at a place is one of the question whose number stands there
  pub row_no : (j : ℕ) → T (is_no s.stage.phase (asked_row j)) → T (got_no c i s (11 + j))
  unfolding got_no
  row_no j t =
      let same : 11 + j - 11 ≡ j = omega arith in
      and_i (leb 11 (11 + j)) (is_no s.stage.phase (asked_row (11 + j - 11))) (le→leb 11 (11 + j) (omega arith)) (rw same t)

  -- a no, of whichever question, is a stop; of 11 to 18 an urgent one; and it is said in 1 to 8 only
  module _ (n : ℕ) (no : T (got_no c i s n)) where
    pub its_row : T (is_no (hear i s).lead.stage.phase (asked_row (n - 11)))
    unfolding got_no hear
    its_row = and_r (leb 11 n) (is_no s.stage.phase (asked_row (n - 11))) no

    pub no_is_stop : T (not (is_pass (verdict c i s)))
    no_is_stop = not_T (is_pass (verdict c i s)) (λ t. pass_yes (view_of c i (hear i s)) (hear i s) t (n - 11) its_row)

    pub no_is_urgent : n ≤ 18 → T (is_urgent (verdict c i s))
    no_is_urgent h = urgent_no (view_of c i (hear i s)) (hear i s) (n - 11) (omega arith) its_row

    pub no_in_1_8 : s.stage.phase ≤ 10 → T (between 1 8 s.stage.phase)
    unfolding hear
    no_in_1_8 p≤ = go (between 1 8 s.stage.phase) refl
      where
        go : (b : Bool) → between 1 8 s.stage.phase ≡ b → T b
        go true e = tt
        go false e = T_not (is_pass (verdict c i s)) no_is_stop (rw (quiet (view_of c i (hear i s)) (hear i s) p≤ (rw e tt)) tt)
