-- A lead raises its command only if the newest status frame is at most 9 ticks old, permits, and asks that much. Assumes nothing.
use mathlib.Core.Bool.{not, ◌&&◌}
use mathlib.Core.List.{List}
use mathlib.Core.Path.{◌≡◌, sym, ap, ◌∙◌}
use Prim.Native.Nat.{ℕ, ◌≤◌, ◌<◌}
use native.Mathlib.Decide.{ℕ_discrete}
use native.Mathlib.Omega.{arith}
use lib.Ieee.Fits.{and_i}
use Rattle.frames.specs.Heard.{signals_of}
use Rattle.frames.specs.declared.heard.VehicleStatus.{VehicleStatus}
use Rattle.frames.specs.declared.heard.VehicleSignals.{VehicleSignals}
use Rattle.common.proofs.Bools.{between_of, between_lo, between_hi}
use Rattle.lead.proofs.WholeTicks.{Permitted, ends_permitted}
use Rattle.post.specs.declared.head.Head.{Head}
use Rattle.safety.specs.Lists.{Tick}
use Rattle.safety.specs.Demand3.{phase_before, phase_at, MayRaise}
use Rattle.safety.proofs.Steps.{lead, input, heard_car, command, phase_most, phase_is, asked, falls}
use Rattle.safety.proofs.Heard.{Knows, known}

module _ (h : Head) (ticks : List Tick) (k t : ℕ) (raised : (lead h ticks k t).command < command h ticks k t) where
  charges : phase_at h ticks t k ≡ 6
  charges = go (ℕ_discrete (phase_at h ticks t k) 6)
    where
      go : Dec (phase_at h ticks t k ≡ 6) → phase_at h ticks t k ≡ 6
      go (yes six) = six
      go (no not-6) = absurd (omega (arith, falls h ticks k t not-6))

  abbrev signals : VehicleSignals
  signals = signals_of (heard_car h ticks k t).status.value

  allowed : Permitted (lead h ticks k t) (heard_car h ticks k t)
  allowed =
      ends_permitted h.ratings (input h ticks k t) (lead h ticks k t) (phase_most h ticks k t) (sym (phase_is h ticks k t) ∙ charges)

  by_the_newest : Knows h ticks k t (heard_car h ticks k t) → MayRaise h ticks t k (command h ticks k t)
  by_the_newest knows =
      record {
        newest = knows.newest;
        young = omega (arith, allowed.recent);
        permitted =
            rw (← knows.value)
            (and_i (signals.clear && signals.enabled && signals.parked && signals.closed) (not signals.stop)
            (and_i (signals.clear && signals.enabled && signals.parked) signals.closed
            (and_i (signals.clear && signals.enabled) signals.parked
            (and_i signals.clear signals.enabled allowed.clear allowed.enabled)
            allowed.parked)
            allowed.closed)
            allowed.unstopped);
        asked = omega (arith, asked h ticks k t charges, ap (λ (x : VehicleStatus). x.request) knows.value);
      }

  pub raises_only : MayRaise h ticks t k (command h ticks k t)
  raises_only =
      let lo : 5 ≤ phase_before h ticks t k = between_lo 5 6 (phase_before h ticks t k) allowed.began in
      let hi : phase_before h ticks t k ≤ 6 = between_hi 5 6 (phase_before h ticks t k) allowed.began in
      by_the_newest (known h ticks k t (between_of 2 7 (phase_before h ticks t k) (omega arith) (omega arith)))
