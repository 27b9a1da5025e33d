-- What a command leaves alone, how large it is, and what is offered beside it. Assumes nothing.
use mathlib.Core.Bool.{Bool, true, false, cond}
use mathlib.Core.Path.{◌≡◌, refl, ◌∙◌}
use Prim.Native.Nat.{ℕ, ◌+◌, ◌-◌, ◌*◌, ◌/◌, ◌≤◌, min}
use native.Mathlib.Decide.{ℕ_discrete}
use native.Mathlib.Nat.{div-mul-le_self}
use native.Mathlib.Omega.{arith}
use lib.Dec.{T, eqb}
use borrow.Author.Tests.{ne_eqb}
use Rattle.common.specs.Tests.{between}
use Rattle.lead.specs.Figures.{most_energy}
use Rattle.lead.specs.Power.{wanted, wanted_watts, offered, energy_after, commanded}
use Rattle.lead.specs.declared.state.Lead.{Lead}
use Rattle.lead.specs.declared.state.Ratings.{Ratings}
use Rattle.common.proofs.Bools.{between_of}
use Rattle.lead.proofs.Watts.{carried_is}

module _ (c : Ratings) (level : ℕ) (s : Lead) where
  pub command_stage : (commanded c level s).stage ≡ s.stage
  unfolding commanded
  command_stage = refl

  pub command_threshold : (commanded c level s).threshold ≡ s.threshold
  unfolding commanded
  command_threshold = refl

  pub command_car : (commanded c level s).car ≡ s.car
  unfolding commanded
  command_car = refl

  pub command_is : (commanded c level s).command ≡ min (wanted_watts c s) level / s.threshold
  unfolding commanded
  command_is = refl

  -- 2026-01: what the new command adds
  pub command_energy : (commanded c level s).energy ≡ min (s.energy + (commanded c level s).command * s.threshold) most_energy
  unfolding commanded energy_after
  command_energy = refl

  -- what is commanded is no more than the smaller of want and level
  pub command_watts : (commanded c level s).command * s.threshold ≤ min (wanted_watts c s) level
  unfolding commanded
  command_watts = div-mul-le_self (min (wanted_watts c s) level) s.threshold

  pub command_most : (commanded c level s).command ≤ wanted c s
  unfolding commanded wanted_watts
  command_most = omega (arith, carried_is (wanted c s) s.threshold level)

module _ (c : Ratings) (s : Lead) where
  pub watts_are : wanted_watts c s ≡ wanted c s * s.threshold
  unfolding wanted_watts
  watts_are = refl

  pub want_6 : s.stage.phase ≡ 6 → wanted c s ≡ min (min s.car.status.value.request c.amperes) (s.command + 2)
  unfolding wanted
  want_6 e = rw e

  pub want_7 : s.stage.phase ≡ 7 → wanted c s ≡ s.command - 10
  unfolding wanted
  want_7 e = rw e

  pub want_0 : (T (between 6 7 s.stage.phase) → ⊥) → wanted c s ≡ 0
  unfolding wanted
  want_0 n =
      rw (
        ne_eqb s.stage.phase 6 (λ e. n (between_of 6 7 s.stage.phase (omega arith) (omega arith))),
        ne_eqb s.stage.phase 7 (λ e. n (between_of 6 7 s.stage.phase (omega arith) (omega arith))),
      )

  -- a lead whose command is within its rating wants no more than that
  pub want_rated : s.command ≤ c.amperes → wanted c s ≤ c.amperes
  unfolding wanted
  want_rated h = go (eqb s.stage.phase 6) (eqb s.stage.phase 7)
    where
      go :
          (a b : Bool)
          → cond a (min (min s.car.status.value.request c.amperes) (s.command + 2)) (cond b (s.command - 10) 0) ≤ c.amperes
      go true b = omega arith
      go false true = omega arith
      go false false = omega arith

-- outside 6 and 7 the command is 0
pub command_0 : (c : Ratings) (level : ℕ) (s : Lead) → (T (between 6 7 s.stage.phase) → ⊥) → (commanded c level s).command ≡ 0
command_0 c level s n = let h : (commanded c level s).command ≤ wanted c s = command_most c level s in omega (arith, want_0 c s n)

-- 2026-05: what is offered beside a command
module _ (c : Ratings) (level : ℕ) (s : Lead) where
  -- a command changes nothing that an offer looks at
  pub offered_commanded : offered c level (commanded c level s) ≡ offered c level s
  unfolding offered commanded
  offered_commanded = refl

  -- while charging, as much of the rating as the level carries
  offered_6 : s.stage.phase ≡ 6 → offered c level s ≡ min c.amperes (level / s.threshold)
  unfolding offered
  offered_6 e = rw e

  -- elsewhere the rating
  offered_rated : (s.stage.phase ≡ 6 → ⊥) → offered c level s ≡ c.amperes
  unfolding offered
  offered_rated n = rw (ne_eqb s.stage.phase 6 n)

  -- in 6 the command is the smaller of what is wanted and what is offered
  pub command_6 : s.stage.phase ≡ 6 → (commanded c level s).command ≡ min (wanted c s) (offered c level s)
  command_6 e =
      command_is c level s
      ∙ rw (watts_are c s, offered_6 e) (carried_is (wanted c s) s.threshold level ∙ omega (arith, want_6 c s e))

  -- a command that is within the rating is within the offer beside it
  pub command_offered : (commanded c level s).command ≤ c.amperes → (commanded c level s).command ≤ offered c level s
  command_offered rated = go (ℕ_discrete s.stage.phase 6)
    where
      go : Dec (s.stage.phase ≡ 6) → (commanded c level s).command ≤ offered c level s
      go (yes six) = omega (arith, command_6 six)
      go (no not-6) = omega (arith, offered_rated not-6)
