-- Document 01, 'The post's two calls', refusal 6: what a tick asks of a lead's state. Definitions only.
use Rattle.std.specs.Prelude.{Bool, not, ◌&&◌, ◌||◌, ℕ, leb, eqb}
use Rattle.common.specs.Tests.{between}
use Rattle.lead.specs.Names.{handshake, no_reason}
use Rattle.lead.specs.Figures.{least_volts}
use Rattle.lead.specs.declared.state.Lead.{Lead}
use Rattle.lead.specs.declared.state.Ratings.{Ratings}

-- "threshold 0 or 50 to rated volts, 0 in phase 1 and not 0 in phases 2–7"
unfoldable pub good_threshold : ℕ → ℕ → ℕ → Bool
good_threshold rated p threshold =
    (eqb threshold 0 || between least_volts rated threshold)
    && (not (eqb p handshake) || eqb threshold 0)
    && (not (between 2 7 p) || not (eqb threshold 0))

-- "phase 0–10, reason 0 or 11–29, command at most rated and 0 outside 6 and 7", and the threshold
unfoldable pub good_lead : Ratings → Lead → Bool
good_lead c s =
    leb s.stage.phase 10
    && (eqb s.stage.reason no_reason || between 11 29 s.stage.reason)
    && (leb s.command c.amperes && (between 6 7 s.stage.phase || eqb s.command 0))
    && good_threshold c.volts s.stage.phase s.threshold
