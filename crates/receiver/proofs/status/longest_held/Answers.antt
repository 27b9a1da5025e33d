-- `receiver::status::longest_held` meets its contract. By the first full mailbox at every status and turn. Assumes nothing.
use mathlib.Core.Path.{sym, ◌∙◌}
use Rattle.receiver.proofs.Order.{met_at_once, met_below, met_above, none_met}
use Rattle.receiver.proofs.status.longest_held.Goals as goal

pub returns-then-is_full : goal.returns-then-is_full
returns-then-is_full c = met_at_once c.args.status c.args.turn c.ranges.status.fits c.requires (sym c.is_full.ensures ∙ c.if-is_full.true)

pub returns-then-status-eq0 : goal.returns-then-status-eq0
returns-then-status-eq0 c = (none_met c.args.status c.args.turn c.requires c.if-status-eq0.true, tt)

pub returns-then-from_turn-eq0 : goal.returns-then-from_turn-eq0
returns-then-from_turn-eq0 c =
    met_below c.args.status c.args.turn c.ranges.status.fits c.requires c.if-from_turn-eq0.true c.if-status-eq0.false

pub returns : goal.returns
returns c = met_above c.args.status c.args.turn c.ranges.status.fits c.requires c.if-from_turn-eq0.false
