-- Document 02, 2026-09: the allowance of a tick. Definitions only.
use Rattle.std.specs.Prelude.{Bool, cond, ◌&&◌, List, [], ◌∷◌, ℕ, ◌+◌, leb}
use Rattle.common.specs.Tests.{between}
use Rattle.orders.specs.Places.{places_of}
use Rattle.orders.specs.declared.places.Order.{Order}
use Rattle.orders.specs.declared.allowances.Choice.{Choice}

-- from the first tick to the last, both of them in; so "a place with first after last covers nothing"
unfoldable pub covers : ℕ → Order → Bool
covers tick o = between o.first o.last tick

-- "the covering order with the highest number", "and of equal numbers the earlier place counts": of what counts so far and the next place, which
-- has to cover the tick and to have a higher number
unfoldable pub chosen : ℕ → Choice → Order → Choice
chosen tick c o = cond (covers tick o && leb c.least o.number) (record { least = o.number + 1; watts = o.watts }) c

abbrev pub choose : ℕ → Choice → List Order → Choice
choose tick c [] = c
choose tick c (o ∷ os) = choose tick (chosen tick c o) os

-- "gives the allowance that the tick uses; without one the tick's input does"
abbrev pub watts_of : ℕ → ℕ → List Order → ℕ
watts_of tick watts os = (choose tick (record { least = 0; watts = watts }) os).watts

-- the watts that a tick uses, by the orders lent, the tick's number and the input's watts
unfoldable pub allowance_of : List ℕ → ℕ → ℕ → ℕ
allowance_of orders tick watts = watts_of tick watts (places_of orders)
