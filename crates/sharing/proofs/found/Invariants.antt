-- `sharing::found` meets its contract. The loop's invariant: the way from this place on, with the watts carried, comes to the level that the
-- whole way comes to; and these watts are the limit less the wants of the places before, which is the request's sentence, and more than the
-- contract asks for. Assumes nothing.
use mathlib.Core.Path.{◌≡◌}
use lib.ListN.{drop}
use Rattle.sharing.specs.Way.{carried_after, way, level_found}
use Rattle.sharing.proofs.found.Given as goal

abbrev pub invariant-loop-place : goal.invariant-loop-place
invariant-loop-place l =
    (level_found (way l.fn.order l.limit) l.limit ≡ level_found (way (drop l.place l.fn.order) l.carried) l.limit)
    × (l.carried ≡ carried_after l.place l.fn.order l.limit)
