-- What hearing does to a lead's memory of the car's H'102, in phases 1 to 8. Assumes nothing.
use mathlib.Core.Bool.{true}
use mathlib.Core.Path.{◌≡◌, refl}
use Prim.Native.Nat.{ℕ, ◌+◌, min}
use lib.Dec.{T}
use Rattle.std.specs.Prelude.{Some, None}
use Rattle.frames.specs.declared.heard.VehicleStatus.{VehicleStatus}
use Rattle.common.specs.Tests.{between}
use Rattle.lead.specs.Hearing.{hear_known, silence_after, hear_car, hear}
use Rattle.lead.specs.declared.state.Lead.{Lead}
use Rattle.lead.specs.declared.state.Known.{Known}
use Rattle.lead.specs.declared.state.Input.{Input}
use Rattle.common.proofs.Bools.{is_true}

module _ (i : Input) (s : Lead) where
  -- in phases 1 to 8
  module _ (listening : T (between 1 8 s.stage.phase)) where
    pub hear_status_lem : (hear i s).lead.car.status ≡ hear_known i.frames.status s.car.status
    unfolding hear hear_car
    hear_status_lem = rw (is_true (between 1 8 s.stage.phase) listening)

    pub hear_silence : (hear i s).lead.car.silence ≡ silence_after i.frames.status s.car.silence
    unfolding hear hear_car
    hear_silence = rw (is_true (between 1 8 s.stage.phase) listening)

module _ (known : Known VehicleStatus) where
  pub status_heard : (f : VehicleStatus) → hear_known (Some f) known ≡ record { seen = true; value = f }
  unfolding hear_known
  status_heard f = refl

  pub status_absent : hear_known None known ≡ known
  unfolding hear_known
  status_absent = refl

module _ (silence : ℕ) where
  pub silence_heard : (f : VehicleStatus) → silence_after (Some f) silence ≡ 0
  unfolding silence_after
  silence_heard f = refl

  pub silence_absent : silence_after None silence ≡ min (silence + 1) 255
  unfolding silence_after
  silence_absent = refl
