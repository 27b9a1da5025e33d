-- After a no the command falls to 0, by the 20th tick at the latest, and stays there until the lead is unplugged and then started anew.
-- Assumes nothing.
use mathlib.Core.Bool.{Bool, not, ◌&&◌, ◌||◌}
use mathlib.Core.List.{List}
use mathlib.Core.Logic.{◌⊎◌, inl, inr}
use mathlib.Core.Path.{◌≡◌, sym, subst}
use Prim.Native.Nat.{ℕ, zero, suc, ◌+◌, ◌-◌, ◌*◌, ◌≤◌, ◌<◌}
use native.Mathlib.Decide.{ℕ_discrete, le_ind}
use native.Mathlib.Omega.{arith}
use lib.Dec.{T, T_not, eqb, eqb→eq}
use lib.Ieee.Fits.{and_i, and_l, and_r}
use borrow.Author.Tests.{eq-eqb}
use mir.Facts.{or_yes}
use Rattle.common.proofs.Bools.{holds, mp, between_lo, between_hi, at_or_past}
use Rattle.common.specs.Tests.{between}
use Rattle.lead.proofs.Phases.{is_pass, is_urgent, from0, from_0, from7_10, from_7_10, stopped, stopped_into, urgently_stopped, urgent_into}
use Rattle.lead.proofs.Answers.{no_is_stop, no_is_urgent, no_in_1_8}
use Rattle.lead.proofs.Ticks.{move_met}
use Rattle.lead_records.proofs.Shown.{input_contacts}
use Rattle.post.specs.declared.head.Head.{Head}
use Rattle.safety.specs.Lists.{Tick}
use Rattle.safety.specs.Demand3.{is_urgent_question, phase_before, NoAt, verdict_at, Moves, contacts_at, StartedAnew}
use Rattle.safety.proofs.Steps as steps
use Rattle.safety.proofs.Steps.{lead, input, may_move_at, phase_most, in_tick, unpowered, asked, falls}

module _ (h : Head) (ticks : List Tick) (k : ℕ) where
  abbrev phase : ℕ → ℕ
  phase t = phase_before h ticks t k

  abbrev command : ℕ → ℕ
  command t = steps.command h ticks k t

  -- after a no in tick t: 0 in a tick that is not past the latest
  pub record FallsSilent (t latest : ℕ) : Type 0 where
    pub tick : ℕ
    pub from : t ≤ tick
    pub by : tick ≤ latest
    pub zeroed : command tick ≡ 0

  -- started anew in tick v or before
  abbrev Anew : ℕ → ℕ → Type 0
  Anew t v = StartedAnew h ticks t (suc v) k

  -- in the tick of the start itself the command is 0
  before_or_silent : (t v : ℕ) → Anew t v → (command v ≡ 0) ⊎ StartedAnew h ticks t v k
  before_or_silent t v s = go (at_or_past s.anew v (omega (arith, s.sooner)))
    where
      go : (v ≡ s.anew) ⊎ (s.anew < v) → (command v ≡ 0) ⊎ StartedAnew h ticks t v k
      go (inl now) =
          let one : phase (suc v) ≡ 1 = subst (λ (u : ℕ). phase (suc u) ≡ 1) (sym now) s.started.1 in
          inl (unpowered h ticks k v (λ w. omega (arith, between_lo 6 7 (phase (suc v)) w)))
      go (inr sooner) =
          inr
          (record {
            unplugged = s.unplugged;
            after = s.after;
            plug_open = s.plug_open;
            reset = s.reset;
            anew = s.anew;
            later = s.later;
            sooner = sooner;
            started = s.started;
          })

  -- stopped in tick t and, up to tick v, not started anew
  data Down (t v : ℕ) : Type 0 where
    ending : T (between 7 10 (phase (suc v))) → Down t v
    unplugged : phase (suc v) ≡ 0 → (u : ℕ) → t < u → u ≤ v → T (not (contacts_at h ticks u k).plug) → Moves h ticks u k 10 0 → Down t v

  down_falls : (t v : ℕ) → Down t v → command v ≤ (lead h ticks k v).command - 10
  down_falls t v (ending w) = falls h ticks k v (λ e. omega (arith, between_lo 7 10 (phase (suc v)) w))
  down_falls t v (unplugged idle u after sooner pulled reset) = falls h ticks k v (λ e. omega arith)

  -- a tick later
  module _ (t v : ℕ) (x : t ≤ v) where
    abbrev p : ℕ
    p = phase (suc v)

    abbrev q : ℕ
    q = phase (suc (suc v))

    abbrev may : Bool
    may = may_move_at h ticks k (suc v)

    down_next : Down t v → Down t (suc v) ⊎ Anew t (suc v)
    down_next (ending w) =
        go
        (or_yes (between 7 10 q) (eqb p 10 && eqb q 0 && may)
        (mp (between 7 10 p) (between 7 10 q || eqb p 10 && eqb q 0 && may) (in_tick h ticks k from7_10 from_7_10 (suc v)) w))
      where
        go : T (between 7 10 q) ⊎ T (eqb p 10 && eqb q 0 && may) → Down t (suc v) ⊎ Anew t (suc v)
        go (inl on) = inl (ending on)
        go (inr moved) =
            let both : T (eqb p 10 && eqb q 0) = and_l (eqb p 10 && eqb q 0) may moved in
            let ten : p ≡ 10 = eqb→eq p 10 (and_l (eqb p 10) (eqb q 0) both) in
            let idle : q ≡ 0 = eqb→eq q 0 (and_r (eqb p 10) (eqb q 0) both) in
            let met = move_met h.ratings (input h ticks k (suc v)) (lead h ticks k (suc v)) (and_r (eqb p 10 && eqb q 0) may moved) in
            inl (unplugged idle (suc v) (omega arith) (omega arith) (rw input_contacts at (met.out_of_10 ten)) (ten, idle))
    down_next (unplugged idle u after sooner pulled reset) =
        go
        (or_yes (eqb q 0) (eqb q 1)
        (mp (eqb p 0) (eqb q 0 || eqb q 1) (in_tick h ticks k from0 from_0 (suc v)) (holds (eq-eqb p 0 idle))))
      where
        go : T (eqb q 0) ⊎ T (eqb q 1) → Down t (suc v) ⊎ Anew t (suc v)
        go (inl still) = inl (unplugged (eqb→eq q 0 still) u after (omega arith) pulled reset)
        go (inr start) =
            inr
            (record {
              unplugged = u;
              after = after;
              plug_open = pulled;
              reset = reset;
              anew = suc v;
              later = omega arith;
              sooner = omega arith;
              started = (idle, eqb→eq q 1 start);
            })

    anew_next : Anew t v → Anew t (suc v)
    anew_next s =
        record {
          unplugged = s.unplugged;
          after = s.after;
          plug_open = s.plug_open;
          reset = s.reset;
          anew = s.anew;
          later = s.later;
          sooner = omega (arith, s.sooner);
          started = s.started;
        }

  -- from tick u on the command falls by 10 A a tick
  abbrev Falling : ℕ → ℕ → ℕ → Type 0
  Falling t u v = (Down t v × (command v ≤ command u - 10 * (v - u))) ⊎ Anew t v

  falling : (t u : ℕ) → t ≤ u → Down t u → (v : ℕ) → u ≤ v → Falling t u v
  falling t u x down = le_ind (Falling t u) (inl (down, omega arith)) step
    where
      step : (v : ℕ) → u ≤ v → Falling t u v → Falling t u (suc v)
      step v y (inr anew) = inr (anew_next t v (omega arith) anew)
      step v y (inl r) = go (down_next t v (omega arith) r.0)
        where
          go : Down t (suc v) ⊎ Anew t (suc v) → Falling t u (suc v)
          go (inl still) = inl (still, omega (arith, r.1, down_falls t (suc v) still))
          go (inr anew) = inr anew

  most : (t : ℕ) → (lead h ticks k t).command ≤ h.ratings.amperes
  most zero = omega arith
  most (suc t) = go (ℕ_discrete (phase (suc t)) 6) (most t)
    where
      go : Dec (phase (suc t) ≡ 6) → (lead h ticks k t).command ≤ h.ratings.amperes → command t ≤ h.ratings.amperes
      go (yes six) r = omega (arith, asked h ticks k t six)
      go (no not-6) r = omega (arith, falls h ticks k t not-6)

  -- an urgent stop in tick t, whatever its reason
  pub cut_off : (t : ℕ) → T (is_urgent (verdict_at h ticks t k)) → FallsSilent t t
  cut_off t urgent =
      record {
        tick = t;
        from = omega arith;
        by = omega arith;
        zeroed =
            unpowered h ticks k t
            (T_not (between 6 7 (phase (suc t)))
            (mp (is_urgent (verdict_at h ticks t k)) (not (between 6 7 (phase (suc t)))) (in_tick h ticks k urgently_stopped urgent_into t) urgent));
      }

  -- a no in tick t
  module _ (t n : ℕ) (said : NoAt h ticks t k n) where
    began : T (between 1 8 (phase t))
    began = no_in_1_8 h.ratings (input h ticks k t) (lead h ticks k t) n said (phase_most h ticks k t)

    stops : Down t t
    stops =
        ending
        (mp (between 1 8 (phase t) && not (is_pass (verdict_at h ticks t k))) (between 7 10 (phase (suc t)))
        (in_tick h ticks k stopped stopped_into t)
        (and_i (between 1 8 (phase t)) (not (is_pass (verdict_at h ticks t k))) began
        (no_is_stop h.ratings (input h ticks k t) (lead h ticks k t) n said)))

    -- from each tick with 0 on until the lead is started anew
    pub stays_silent : (u v : ℕ) → t ≤ u → command u ≡ 0 → u ≤ v → (command v ≡ 0) ⊎ StartedAnew h ticks t v k
    stays_silent u v x zeroed y = go (falling t t (omega arith) stops u x)
      where
        from-u : Falling t u v → (command v ≡ 0) ⊎ StartedAnew h ticks t v k
        from-u (inl r) = inl (omega (arith, r.1))
        from-u (inr anew) = before_or_silent t v anew

        go : Falling t t u → (command v ≡ 0) ⊎ StartedAnew h ticks t v k
        go (inl r) = from-u (falling t u x r.0 v y)
        go (inr anew) = before_or_silent t v (le_ind (Anew t) anew (λ w z. anew_next t w (omega arith)) v y)

    pub silent_at_once : T (is_urgent_question n) → FallsSilent t t
    silent_at_once u =
        cut_off t (no_is_urgent h.ratings (input h ticks k t) (lead h ticks k t) n said (between_hi 11 18 n u))

    -- 10 A a tick, from the rating down; or unplugged sooner, and then 0 in the tick that unplugs
    pub silent_later : (ticks-later : ℕ) → h.ratings.amperes ≤ 10 * (ticks-later + 1) → FallsSilent t (t + ticks-later)
    silent_later m rated = go (falling t t (omega arith) stops (t + m) (omega arith))
      where
        go : Falling t t (t + m) → FallsSilent t (t + m)
        go (inl r) =
            record { tick = t + m; from = omega arith; by = omega arith; zeroed = omega (arith, r.1, down_falls t t stops, most t) }
        go (inr s) =
            record {
              tick = s.unplugged;
              from = omega (arith, s.after);
              by = omega (arith, s.later, s.sooner);
              zeroed =
                  unpowered h ticks k s.unplugged (λ w. omega (arith, s.reset.1, between_lo 6 7 (phase (suc s.unplugged)) w));
            }
