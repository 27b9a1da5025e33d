-- Document 01, 'Dividing the allowance': what a lead wants, its command at a level that is handed in, the energy counted by request 2026-01
-- and what request 2026-05 offers the car. Definitions only.
use Rattle.std.specs.Prelude.{cond, ℕ, ◌+◌, ◌-◌, ◌*◌, ◌/◌, min, eqb}
use Rattle.lead.specs.Names.{charging, ramp_down}
use Rattle.lead.specs.Figures.{raise, fall, most_energy}
use Rattle.lead.specs.Leads.{with_command, with_energy}
use Rattle.lead.specs.declared.state.Lead.{Lead}
use Rattle.lead.specs.declared.state.Ratings.{Ratings}

-- "in 6 it wants the least of request, rated amperes and command + 2; in 7, command − 10, at least 0; elsewhere 0."
unfoldable pub wanted : Ratings → Lead → ℕ
wanted c s =
    cond (eqb s.stage.phase charging) (min (min s.car.status.value.request c.amperes) (s.command + raise))
    (cond (eqb s.stage.phase ramp_down) (s.command - fall) 0)

-- "Want in watts is that times the threshold."
unfoldable pub wanted_watts : Ratings → Lead → ℕ
wanted_watts c s = wanted c s * s.threshold

-- "Each new command is that smaller number", of want and level, "divided by the threshold, rounded down; outside 6 and 7 it is 0":
-- there the want is 0. A lead without a threshold gets 0, as x / 0 is 0.
abbrev pub new_command : Ratings → ℕ → Lead → ℕ
new_command c level s = min (wanted_watts c s) level / s.threshold

-- 2026-05: what is offered to the car, in amperes: "in phase 6", after the tick, "the smaller of rated amperes and level ÷ threshold rounded
-- down, with this tick's level; elsewhere the rated amperes." A lead in 6 without a threshold offers 0, as x / 0 is 0.
unfoldable pub offered : Ratings → ℕ → Lead → ℕ
offered c level s = cond (eqb s.stage.phase charging) (min c.amperes (level / s.threshold)) c.amperes

-- 2026-01: the "count of watt-ticks" once the watts of a tick are added. "It stops at its largest value."
unfoldable pub energy_after : ℕ → ℕ → ℕ
energy_after energy watts = min (energy + watts) most_energy

-- 2026-01: "Every tick adds command × threshold", the command being the new one
unfoldable pub commanded : Ratings → ℕ → Lead → Lead
commanded c level s =
    let command : ℕ = new_command c level s in
    with_command command (with_energy (energy_after s.energy (command * s.threshold)) s)
