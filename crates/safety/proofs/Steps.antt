-- What one tick does to one lead of the trace, from the laws of `lead`. Assumes nothing.
use mathlib.Core.Bool.{Bool, true, false, ◌&&◌, ◌||◌}
use mathlib.Core.List.{List}
use mathlib.Core.Logic.{◌⊎◌, inl, inr}
use mathlib.Core.Path.{◌≡◌, refl, sym, subst, ap, ◌∙◌}
use Prim.Native.Nat.{ℕ, zero, suc, ◌-◌, ◌≤◌, ◌<◌, min}
use native.Mathlib.Omega.{arith}
use lib.Dec.{T, eqb, eqb→eq}
use lib.Ieee.Fits.{and_l, and_r}
use mir.Facts.{or_yes}
use Rattle.common.specs.Tests.{between}
use Rattle.lead.specs.Hearing.{hear}
use Rattle.lead.specs.Leads.{blank}
use Rattle.lead.specs.Names.{no_reason}
use Rattle.lead.specs.Questions.{reason_of}
use Rattle.lead.specs.Moves.{reason_after}
use Rattle.lead.specs.Power.{commanded}
use Rattle.lead.specs.declared.state.Lead.{Lead}
use Rattle.lead.specs.declared.state.Car.{Car}
use Rattle.lead.specs.declared.state.Input.{Input}
use Rattle.lead.specs.declared.state.Stage.{Stage}
use Rattle.common.proofs.Bools.{mp, between_of, between_lo, between_hi, at_or_past}
use Rattle.lead.proofs.Phases.{is_pass, Test, Everywhere, into1_6, into_1_6, pass_reason}
use Rattle.lead.proofs.Ticks.{may, phase_after, started, reason_shown}
use Rattle.lead.proofs.Commands.{command_stage, command_car}
use Rattle.lead.proofs.WholeTicks as whole
use Rattle.post.specs.Rules.{input_at, decided_at, level_after, lead_after}
use Rattle.post.specs.declared.head.Head.{Head}
use Rattle.safety.specs.Lists.{Tick}
use Rattle.safety.specs.Demand3.{inputs_at, leads_before, verdict_at}

-- a fact of every tick before t, and of t
pub one_more : {P : ℕ → Type 0} (t : ℕ) → ((u : ℕ) → u < t → P u) → P t → (u : ℕ) → u < suc t → P u
one_more {P} t before now u x = go (at_or_past u t (omega arith))
  where
    go : (t ≡ u) ⊎ (u < t) → P u
    go (inl e) = subst P e now
    go (inr y) = before u y

-- the level of tick t
abbrev pub level_at : Head → List Tick → ℕ → ℕ
level_at h ticks t = level_after h (inputs_at h ticks t) (leads_before h ticks t)

module _ (h : Head) (ticks : List Tick) (k : ℕ) where
  -- before tick t
  abbrev pub lead : ℕ → Lead
  lead t = leads_before h ticks t k

  abbrev phase : ℕ → ℕ
  phase t = (lead t).stage.phase

  -- in it
  abbrev pub input : ℕ → Input
  input t = input_at h (inputs_at h ticks t) k

  abbrev pub heard_car : ℕ → Car
  heard_car t = (hear (input t) (lead t)).lead.car

  abbrev pub may_move_at : ℕ → Bool
  may_move_at t = may h.ratings (input t) (lead t)

  -- after it
  abbrev pub command : ℕ → ℕ
  command t = (lead (suc t)).command

  pub phase_most : (t : ℕ) → phase t ≤ 10
  unfolding lead_after decided_at
  phase_most zero = omega arith
  phase_most (suc t) =
      rw (whole.ticked_phase h.ratings (input t) (lead t) (phase_most t) (level_at h ticks t))
      (whole.phase_most h.ratings (input t) (lead t) (phase_most t))

  pub phase_is : (t : ℕ) → phase (suc t) ≡ phase_after h.ratings (input t) (lead t)
  unfolding lead_after decided_at
  phase_is t = whole.ticked_phase h.ratings (input t) (lead t) (phase_most t) (level_at h ticks t)

  -- what holds of every phase, verdict and move holds in every tick
  pub in_tick : (f : Test) → Everywhere f → (t : ℕ) → T (f (phase t) (verdict_at h ticks t k) (may_move_at t) (phase (suc t)))
  in_tick f law t = rw (phase_is t) (law (phase t) (phase_most t) (verdict_at h ticks t k) (may_move_at t))

  -- a lead that the tick does not start keeps what it has heard
  pub car_kept : (t : ℕ) → 1 ≤ phase t → (lead (suc t)).car ≡ heard_car t
  unfolding lead_after decided_at
  car_kept t = whole.ticked_car h.ratings (input t) (lead t) (phase_most t) (level_at h ticks t)

  -- one that it starts remembers nothing
  begins : (t : ℕ) → phase t ≡ 0 → phase (suc t) ≡ 1 → lead (suc t) ≡ commanded h.ratings (level_at h ticks t) (blank 1)
  unfolding lead_after decided_at
  begins t e f = ap (commanded h.ratings (level_at h ticks t)) (started h.ratings (input t) (lead t) e (sym (phase_is t) ∙ f))

  pub car_blank : (t : ℕ) → phase t ≡ 0 → phase (suc t) ≡ 1 → (lead (suc t)).car ≡ (blank 1).car
  car_blank t e f = ap (λ (x : Lead). x.car) (begins t e f) ∙ command_car h.ratings (level_at h ticks t) (blank 1)

  -- in phases 1 to 6 a lead shows no reason before a tick, and after it that of the verdict
  reason_of_lem : (t : ℕ) → T (between 1 6 (phase t)) → (lead t).stage.reason ≡ no_reason → (lead (suc t)).stage.reason ≡ reason_of (verdict_at h ticks t k)
  unfolding lead_after decided_at
  reason_of_lem t w none =
      whole.ticked_reason h.ratings (input t) (lead t) (phase_most t) (level_at h ticks t) (between_lo 1 6 (phase t) w)
      ∙ ap (λ (r : ℕ). reason_after (phase t) r (verdict_at h ticks t k)) none
      ∙ reason_shown (phase t) (verdict_at h ticks t k) (between_hi 1 6 (phase t) w)

  no_reason_lem : (t : ℕ) → T (between 1 6 (phase t)) → (lead t).stage.reason ≡ no_reason
  no_reason_lem zero w = absurd w
  no_reason_lem (suc t) w =
      go
      (or_yes (between 1 6 (phase t) && is_pass (verdict_at h ticks t k)) (eqb (phase t) 0 && eqb (phase (suc t)) 1)
      (mp (between 1 6 (phase (suc t))) (between 1 6 (phase t) && is_pass (verdict_at h ticks t k) || eqb (phase t) 0 && eqb (phase (suc t)) 1)
      (in_tick into1_6 into_1_6 t) w))
      (no_reason_lem t)
    where
      go :
          T (between 1 6 (phase t) && is_pass (verdict_at h ticks t k)) ⊎ T (eqb (phase t) 0 && eqb (phase (suc t)) 1)
          → (T (between 1 6 (phase t)) → (lead t).stage.reason ≡ no_reason)
          → (lead (suc t)).stage.reason ≡ no_reason
      go (inl passed) before =
          let on : T (between 1 6 (phase t)) = and_l (between 1 6 (phase t)) (is_pass (verdict_at h ticks t k)) passed in
          reason_of_lem t on (before on) ∙ pass_reason (verdict_at h ticks t k) (and_r (between 1 6 (phase t)) (is_pass (verdict_at h ticks t k)) passed)
      go (inr began) before =
          ap (λ (x : Lead). x.stage.reason)
          (begins t (eqb→eq (phase t) 0 (and_l (eqb (phase t) 0) (eqb (phase (suc t)) 1) began))
          (eqb→eq (phase (suc t)) 1 (and_r (eqb (phase t) 0) (eqb (phase (suc t)) 1) began)))
          ∙ ap (λ (x : Stage). x.reason) (command_stage h.ratings (level_at h ticks t) (blank 1))

  pub reason_is : (t : ℕ) → T (between 1 6 (phase t)) → (lead (suc t)).stage.reason ≡ reason_of (verdict_at h ticks t k)
  reason_is t w = reason_of_lem t w (no_reason_lem t w)

  -- outside 6 and 7 the command is 0
  pub unpowered : (t : ℕ) → (T (between 6 7 (phase (suc t))) → ⊥) → command t ≡ 0
  unfolding lead_after decided_at
  unpowered t n = whole.ticked_0 h.ratings (input t) (lead t) (phase_most t) (level_at h ticks t) (λ w. n (rw (phase_is t) w))

  -- nor is there one where no frames are sent
  pub unsent : (t : ℕ) → between 1 9 (phase (suc t)) ≡ false → command t ≡ 0
  unsent t e =
      unpowered t
      (λ w.
      subst T e
      (between_of 1 9 (phase (suc t)) (omega (arith, between_lo 6 7 (phase (suc t)) w))
      (omega (arith, between_hi 6 7 (phase (suc t)) w))))

  pub powered : (t : ℕ) → 0 < command t → T (between 6 7 (phase (suc t)))
  powered t c = go (between 6 7 (phase (suc t))) refl
    where
      go : (b : Bool) → between 6 7 (phase (suc t)) ≡ b → T b
      go true e = tt
      go false e = absurd (omega (arith, unpowered t (λ w. subst T e w)))

  -- in 6 it is at most what the car asks for and the rating
  pub asked : (t : ℕ) → phase (suc t) ≡ 6 → command t ≤ min (heard_car t).status.value.request h.ratings.amperes
  unfolding lead_after decided_at
  asked t e = omega (arith, whole.ticked_6 h.ratings (input t) (lead t) (phase_most t) (level_at h ticks t) (sym (phase_is t) ∙ e))

  -- elsewhere it falls by 10 A, down to 0
  pub falls : (t : ℕ) → (phase (suc t) ≡ 6 → ⊥) → command t ≤ (lead t).command - 10
  unfolding lead_after decided_at
  falls t not-6 = go (command t) refl
    where
      go : (n : ℕ) → command t ≡ n → command t ≤ (lead t).command - 10
      go zero e = omega arith
      go (suc n) e =
          let w : T (between 6 7 (phase (suc t))) = powered t (omega arith) in
          let seven : phase (suc t) ≡ 7 = omega (arith, between_lo 6 7 (phase (suc t)) w, between_hi 6 7 (phase (suc t)) w) in
          whole.ticked_7 h.ratings (input t) (lead t) (phase_most t) (level_at h ticks t) (sym (phase_is t) ∙ seven)
