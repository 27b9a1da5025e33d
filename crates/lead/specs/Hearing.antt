-- Document 01, 'Phases': how a tick's frames change what a lead remembers. Definitions only.
use Rattle.std.specs.Prelude.{true, cond, ℕ, ◌+◌, min, eqb, Option, Some, None}
use Rattle.frames.specs.declared.heard.VehicleStatus.{VehicleStatus}
use Rattle.common.specs.Tests.{between}
use Rattle.lead.specs.Names.{handshake}
use Rattle.lead.specs.Leads.{with_car}
use Rattle.lead.specs.declared.state.Lead.{Lead}
use Rattle.lead.specs.declared.state.HeardLead.{HeardLead}
use Rattle.lead.specs.declared.state.Car.{Car}
use Rattle.lead.specs.declared.state.Known.{Known}
use Rattle.lead.specs.declared.state.Input.{Input}

-- What a frame said remains until the next of its kind.
unfoldable pub hear_known : {A : Type 0} → Option A → Known A → Known A
hear_known (Some sent) known = record { seen = true; value = sent }
hear_known None known = known

-- "silence becomes 0 if an H'102 counted, else grows by 1 to 255 at most"
unfoldable pub silence_after : Option VehicleStatus → ℕ → ℕ
silence_after (Some sent) silence = 0
silence_after None silence = min (silence + 1) 255

-- "take frames (phases 1–8)", "H'100 and H'101 are ignored from then on": they are heard in phase 1 alone.
-- "Silence is counted in phases 1–8 only."
unfoldable pub hear_car : ℕ → Input → Car → Car
hear_car p i car =
    cond (between 1 8 p)
    (record {
      battery = cond (eqb p handshake) (hear_known i.frames.battery car.battery) car.battery;
      time = cond (eqb p handshake) (hear_known i.frames.time car.time) car.time;
      status = hear_known i.frames.status car.status;
      silence = silence_after i.frames.status car.silence;
    })
    car

unfoldable pub hear : Input → Lead → HeardLead
hear i s = record { lead = with_car (hear_car s.stage.phase i s.car) s }
