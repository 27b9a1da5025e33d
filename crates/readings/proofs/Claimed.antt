-- The claims of requests 2026-04 and 2026-08 hold, and what is worked out is what it is said to be. Assumes nothing.
use mathlib.Core.Path.{◌≡◌, refl, ap, ◌∙◌, subst}
use mathlib.Core.Bool.{Bool, true, false, cond}
use mathlib.Core.List.{map}
use Prim.Native.Nat.{ℕ}
use native.Mathlib.Omega.{arith}
use native.Mathlib.Nat.{le_antisymm}
use lib.Dec.{T, leb, lit<, leb→le, le→leb}
use lib.Ieee.{Float, binary32, of_bits, of_int, le, lt, eq, mul, sub}
use Rattle.readings.specs.Value.{within, least, tenths_per_unit}
use Rattle.readings.specs.Readings.{reading_of, in_range, connector_volts, in_tenths, judged_of, allowed_resistance, tenths, of_units, ValueRange, upper_end, exactly, at_most, whole_units}
use Rattle.readings.specs.Claims.{IsLeast, OfEachGood, LeastTenth, LeastWhole, WholeLimits, ExactEnds, EachAtMost, worked_floats, worked_readings}
use Rattle.readings.specs.declared.Measurement.{Measurement}
use Rattle.readings.specs.declared.Tenths.{Tenths}
use Rattle.readings.specs.declared.Measured.{Measured}
use Rattle.std.specs.Prelude.{Some, None}
use Rattle.std.proofs.lemmas.Option.{none-some, same_Some}
use Rattle.readings.proofs.Ceiling as ceilings
use Rattle.readings.proofs.Least.{is_least_tenth, is_least_whole}
use Rattle.readings.proofs.Connector.{values_within}

-- there is one least number of parts
pub only_one : {parts : ℕ} {x : Float} {m n : ℕ} → IsLeast parts x m → IsLeast parts x n → m ≡ n
only_one a b = le_antisymm (a.nothing_smaller _ b.not_below) (b.nothing_smaller _ a.not_below)

-- what is said of every float in range and its tenths is said of both values of every good reading
of_each_good : (Said : Float → Tenths → Type 0) → ((x : Float) → T (within 1000 x) → Said x (tenths (least x))) → OfEachGood Said
unfolding allowed_resistance in_tenths
of_each_good Said each volts amperes resistance v a allowed = go (in_range m) refl
  where
    m : Measurement
    m = record { volts = volts; amperes = amperes; resistance = of_bits binary32 resistance }

    go :
        (b : Bool)
        → in_range m ≡ b
        → cond b (Some (in_tenths m)) None ≡ Some (record { volts = v; amperes = a })
        → Said (connector_volts m) v × Said amperes a
    go true r e =
        let within = values_within m r allowed in
        let is = same_Some _ _ e in (
          subst (Said (connector_volts m)) (ap (λ (t : Measured). t.volts) is) (each (connector_volts m) within.0),
          subst (Said amperes) (ap (λ (t : Measured). t.amperes) is) (each amperes within.1),
        )
    go false r e = absurd (none-some _ e)

pub least_tenth : LeastTenth
least_tenth = of_each_good _ is_least_tenth

pub least_whole : LeastWhole
least_whole = of_each_good _ is_least_whole

pub exact_ends : ExactEnds
exact_ends judged = (omega arith, omega arith)

-- an exact meter is judged by its reading
exact_limit : (judged most : Tenths) → at_most (upper_end (exactly judged)) most ≡ leb judged.0 most.0
exact_limit judged most = ap (λ (n : ℕ). leb n most.0) (exact_ends judged).1

pub whole_limits : WholeLimits
whole_limits =
    of_each_good _
    (λ x t n units whole.
    exact_limit (tenths (least x)) (of_units units)
    ∙ ceilings.whole_limit (least x) tenths_per_unit units (lit< tt)
    ∙ ap (λ (m : ℕ). leb m units) (only_one (is_least_whole x t) whole))

pub each_at_most : (range : ValueRange) (most : Tenths) → EachAtMost range most
each_at_most range most =
    record {
      each =
          λ passes x stands.
          le→leb (upper_end (exactly x)).0 most.0 (omega (arith, stands.to, leb→le (upper_end range).0 most.0 passes));
      only =
          λ all.
          let top : Tenths = tenths (upper_end range).0 in
          subst T (exact_limit top most) (all top (record { from = omega arith; to = omega arith }));
    }

pub worked_tenths : map (λ case. least (of_bits binary32 case.bits)) worked_floats ≡ map (λ case. case.tenths) worked_floats
unfolding least of_bits
worked_tenths = refl

pub worked_whole : map (λ case. whole_units (tenths case.tenths)) worked_floats ≡ map (λ case. case.whole) worked_floats
worked_whole = refl

-- the readings worked out are good, with cable resistances that are allowed
pub worked_readings_lem :
    map (λ case. judged_of (reading_of true case.volts) (reading_of true case.amperes) case.resistance) worked_readings
    ≡ map (λ case. Some (record { volts = tenths case.connector_tenths; amperes = tenths case.ampere_tenths })) worked_readings
unfolding in_range connector_volts in_tenths least of_bits of_int le lt eq mul sub
worked_readings_lem = refl

pub worked_resistances : map (λ case. allowed_resistance case.resistance) worked_readings ≡ map (λ case. true) worked_readings
unfolding allowed_resistance of_bits of_int le lt eq
worked_resistances = refl
