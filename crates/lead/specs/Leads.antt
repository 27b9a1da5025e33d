-- A lead's groups of fields: all of them as a start and setup leave them, and each replaced alone. Definitions only.
use Rattle.std.specs.Prelude.{false, ℕ}
use Rattle.frames.specs.Times.{time_of}
use Rattle.lead.specs.Names.{idle, no_reason}
use Rattle.lead.specs.declared.state.Lead.{Lead}
use Rattle.lead.specs.declared.state.Stage.{Stage}
use Rattle.lead.specs.declared.state.Car.{Car}

-- a lead that remembers nothing, in phase p
abbrev pub blank : ℕ → Lead
blank p =
    record {
      stage = record { phase = p; reason = no_reason; age = 0 };
      energy = 0;
      command = 0;
      threshold = 0;
      car =
          record {
            battery = record { seen = false; value = 0 };
            time = record { seen = false; value = time_of 0 0 };
            status = record { seen = false; value = record { target = 0; request = 0; faults = 0; flags = 0 } };
            silence = 0;
          };
    }

-- Setup: "phase 0, other lead bytes 0"
abbrev pub fresh : Lead
fresh = blank idle

-- Each replaces one of them and keeps the others, so that a rule names only what it changes.
abbrev pub with_stage : Stage → Lead → Lead
with_stage stage s = record { stage = stage; energy = s.energy; command = s.command; threshold = s.threshold; car = s.car }

abbrev pub with_energy : ℕ → Lead → Lead
with_energy watt_ticks s = record { stage = s.stage; energy = watt_ticks; command = s.command; threshold = s.threshold; car = s.car }

abbrev pub with_command : ℕ → Lead → Lead
with_command amperes s = record { stage = s.stage; energy = s.energy; command = amperes; threshold = s.threshold; car = s.car }

abbrev pub with_threshold : ℕ → Lead → Lead
with_threshold volts s = record { stage = s.stage; energy = s.energy; command = s.command; threshold = volts; car = s.car }

abbrev pub with_car : Car → Lead → Lead
with_car car s = record { stage = s.stage; energy = s.energy; command = s.command; threshold = s.threshold; car = car }
