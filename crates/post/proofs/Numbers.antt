-- No refusal's number is 0. Assumes nothing.
use mathlib.Core.Path.{◌≡◌}
use native.Mathlib.Omega.{arith}
use Rattle.post.specs.Refusals.{number}
use Rattle.post.specs.declared.names.Refusal.{Refusal}
use Rattle.post.specs.declared.names.Refusal.TheVariants.{Leads, RatedVolts, RatedAmperes, CableResistance, MeterError, StateLength, State, InputLength, OutputLength, Input}

pub never_0 : (refusal : Refusal) → number refusal ≡ 0 → ⊥
never_0 Leads e = omega arith
never_0 RatedVolts e = omega arith
never_0 RatedAmperes e = omega arith
never_0 CableResistance e = omega arith
never_0 MeterError e = omega arith
never_0 StateLength e = omega arith
never_0 State e = omega arith
never_0 InputLength e = omega arith
never_0 OutputLength e = omega arith
never_0 Input e = omega arith
