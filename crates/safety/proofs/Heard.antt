-- What a lead in 2 to 7 knows of the car once it has heard a tick's frames: the newest status frame, and its age as the silence.
-- Assumes nothing.
use mathlib.Core.Bool.{◌&&◌, ◌||◌}
use mathlib.Core.List.{List}
use mathlib.Core.Logic.{◌⊎◌, inl, inr}
use mathlib.Core.Path.{◌≡◌, refl, ap, ◌∙◌}
use Prim.Native.Nat.{ℕ, zero, suc, ◌-◌, ◌≤◌, ◌<◌, min}
use native.Mathlib.Omega.{arith}
use lib.Dec.{T, eqb, eqb→eq}
use lib.Ieee.Fits.{and_l, and_r}
use mir.Facts.{or_yes}
use Rattle.std.specs.Prelude.{Option, Some, None}
use Rattle.frames.specs.declared.heard.VehicleStatus.{VehicleStatus}
use Rattle.common.specs.Tests.{between}
use Rattle.lead.specs.Hearing.{hear_known, silence_after}
use Rattle.lead.specs.declared.state.Car.{Car}
use Rattle.common.proofs.Bools.{mp, between_of, between_lo, between_hi}
use Rattle.lead.proofs.Hears.{hear_status_lem, hear_silence, status_heard, status_absent, silence_heard, silence_absent}
use Rattle.lead.proofs.Phases.{into1_8, into_1_8, into2_7, into_2_7}
use Rattle.lead.proofs.Ticks.{move_met}
use Rattle.lead_records.proofs.Shown.{input_status}
use Rattle.post.specs.declared.head.Head.{Head}
use Rattle.safety.specs.Lists.{Tick}
use Rattle.safety.specs.Demand3.{phase_before, status_at, Newest}
use Rattle.safety.proofs.Steps.{one_more, lead, input, heard_car, may_move_at, in_tick, car_kept, car_blank}

module _ (h : Head) (ticks : List Tick) (k : ℕ) where
  abbrev phase : ℕ → ℕ
  phase t = phase_before h ticks t k

  abbrev before : ℕ → Car
  before t = (lead h ticks k t).car

  abbrev heard : ℕ → Car
  heard t = heard_car h ticks k t

  -- the newest status frame up to tick t, and its age, as a lead keeps them
  pub record Knows (t : ℕ) (car : Car) : Type 0 where
    pub newest : Newest h ticks t k
    pub value : car.status.value ≡ newest.frame
    pub silence : car.silence ≡ min (t - newest.tick) 255

  -- a tick in 1 to 8
  module _ (t : ℕ) (w : T (between 1 8 (phase t))) where
    status_now : (s : Option VehicleStatus) → status_at h ticks t k ≡ s → (heard t).status ≡ hear_known s (before t).status
    status_now s e = hear_status_lem (input h ticks k t) (lead h ticks k t) w ∙ rw (input_status, e)

    silence_now : (s : Option VehicleStatus) → status_at h ticks t k ≡ s → (heard t).silence ≡ silence_after s (before t).silence
    silence_now s e = hear_silence (input h ticks k t) (lead h ticks k t) w ∙ rw (input_status, e)

    hears : (frame : VehicleStatus) → status_at h ticks t k ≡ Some frame → Knows t (heard t)
    hears frame e =
        record {
          newest = record { frame = frame; tick = t; sofar = omega arith; there = e; last = λ u x y. absurd (omega arith) };
          value = rw (status_now (Some frame) e, status_heard (before t).status frame);
          silence = silence_now (Some frame) e ∙ silence_heard (before t).silence frame ∙ omega arith;
        }

    stays : status_at h ticks t k ≡ None → (heard t).status ≡ (before t).status
    stays e = status_now None e ∙ status_absent (before t).status

    still_seen : T (before t).status.seen → T (heard t).status.seen
    still_seen s = go (status_at h ticks t k) refl
      where
        go : (o : Option VehicleStatus) → status_at h ticks t k ≡ o → T (heard t).status.seen
        go (Some frame) e = rw (status_now (Some frame) e, status_heard (before t).status frame) tt
        go None e = rw (stays e) s

  listens : (t : ℕ) → T (between 2 7 (phase t)) → T (between 1 8 (phase t))
  listens t w =
      let lo : 2 ≤ phase t = between_lo 2 7 (phase t) w in
      let hi : phase t ≤ 7 = between_hi 2 7 (phase t) w in
      between_of 1 8 (phase t) (omega arith) (omega arith)

  -- from a tick to the next
  module _ (t : ℕ) where
    abbrev p : ℕ
    p = phase t

    abbrev q : ℕ
    q = phase (suc t)

    -- without a status frame in the next, the newest stays the newest
    waits :
        T (between 1 8 q)
        → status_at h ticks (suc t) k ≡ None
        → before (suc t) ≡ heard t
        → Knows t (heard t)
        → Knows (suc t) (heard (suc t))
    waits w e kept old =
        let since : (u : ℕ) → u < suc (suc t) → old.newest.tick < u → status_at h ticks u k ≡ None =
        one_more (suc t) (λ u x y. old.newest.last u y (omega arith)) (λ x. e) in
        record {
          newest =
              record {
                frame = old.newest.frame;
                tick = old.newest.tick;
                sofar = omega (arith, old.newest.sofar);
                there = old.newest.there;
                last = λ u x y. since u (omega arith) x;
              };
          value = rw (stays (suc t) w e, kept) old.value;
          silence =
              omega (
                arith,
                silence_now (suc t) w None e,
                silence_absent (before (suc t)).silence,
                ap (λ (x : Car). x.silence) kept,
                old.silence,
                old.newest.sofar,
              );
        }

    -- the start forgets, so a lead that has seen one listened in the tick before
    listened : T (between 1 8 q) → T (before (suc t)).status.seen → T (between 1 8 p)
    listened w s =
        go
        (or_yes (between 1 8 p) (eqb p 0 && eqb q 1)
        (mp (between 1 8 q) (between 1 8 p || eqb p 0 && eqb q 1) (in_tick h ticks k into1_8 into_1_8 t) w))
      where
        go : T (between 1 8 p) ⊎ T (eqb p 0 && eqb q 1) → T (between 1 8 p)
        go (inl on) = on
        go (inr start) =
            let from_0 : p ≡ 0 = eqb→eq p 0 (and_l (eqb p 0) (eqb q 1) start) in
            let to-1 : q ≡ 1 = eqb→eq q 1 (and_r (eqb p 0) (eqb q 1) start) in
            absurd (rw (car_blank h ticks k t from_0 to-1) at s)

    -- the move from 1 to 2 asks for one, and it stays seen
    seen_next : T (between 2 7 q) → (T (between 2 7 p) → T (before t).status.seen) → T (before (suc t)).status.seen
    seen_next w seen =
        go
        (or_yes (between 2 7 p) (eqb p 1 && may_move_at h ticks k t)
        (mp (between 2 7 q) (between 2 7 p || eqb p 1 && may_move_at h ticks k t) (in_tick h ticks k into2_7 into_2_7 t) w))
      where
        go : T (between 2 7 p) ⊎ T (eqb p 1 && may_move_at h ticks k t) → T (before (suc t)).status.seen
        go (inl on) = rw (car_kept h ticks k t (between_lo 1 8 p (listens t on))) (still_seen t (listens t on) (seen on))
        go (inr moved) =
            let one : p ≡ 1 = eqb→eq p 1 (and_l (eqb p 1) (may_move_at h ticks k t) moved) in
            let met = move_met h.ratings (input h ticks k t) (lead h ticks k t) (and_r (eqb p 1) (may_move_at h ticks k t) moved) in
            let all = met.out_of_1 one in
            rw (car_kept h ticks k t (omega arith)) (search (and_l, and_r))

  seen : (t : ℕ) → T (between 2 7 (phase t)) → T (before t).status.seen
  seen zero w = absurd w
  seen (suc t) w = seen_next t w (seen t)

  knows : (t : ℕ) → T (between 1 8 (phase t)) → T (heard t).status.seen → Knows t (heard t)
  knows zero w s = absurd w
  knows (suc t) w s = go (status_at h ticks (suc t) k) refl (knows t)
    where
      go :
          (o : Option VehicleStatus)
          → status_at h ticks (suc t) k ≡ o
          → (T (between 1 8 (phase t)) → T (heard t).status.seen → Knows t (heard t))
          → Knows (suc t) (heard (suc t))
      go (Some frame) e r = hears (suc t) w frame e
      go None e r =
          let was : T (before (suc t)).status.seen = rw (stays (suc t) w e) at s in
          let on : T (between 1 8 (phase t)) = listened t w was in
          let kept : before (suc t) ≡ heard t = car_kept h ticks k t (between_lo 1 8 (phase t) on) in
          waits t w e kept (r on (rw kept at was))

  pub known : (t : ℕ) → T (between 2 7 (phase t)) → Knows t (heard t)
  known t w = knows t (listens t w) (still_seen t (listens t w) (seen t w))
