-- Document 02, 2026-09: the numbers of what is turned away. Definitions only.
use Rattle.std.specs.Prelude.{ℕ}
use Rattle.orders.specs.declared.refusals.Refusal.{Refusal}
use Rattle.orders.specs.declared.refusals.Refusal.TheVariants.{OrdersLength, Line65, LineForm, NumberUsed}

-- "33, a line not of that form or with first after last; 34, an order number used twice; 35, a 65th line", "43, those bytes not 1,024"
abbrev pub number : Refusal → ℕ
number OrdersLength = 43
number Line65 = 35
number LineForm = 33
number NumberUsed = 34
