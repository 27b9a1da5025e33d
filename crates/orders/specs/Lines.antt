-- Document 02, 2026-09: the lines of a text, and the order that a line is. Definitions only.
use Rattle.std.specs.Prelude.{cond, List, [], ◌∷◌, ℕ, leb, eqb, Option, Some, None}
use Rattle.common.specs.Texts.{push, fields_of}
use Rattle.orders.specs.Numbers.{number_of}
use Rattle.orders.specs.declared.places.Order.{Order}

-- "A line feed ends each line but perhaps the last": what follows the last line feed is a line only where there is something.
abbrev pub lines_of : List ℕ → List (List ℕ)
lines_of [] = []
lines_of (c ∷ s) = cond (eqb c 10) ([] ∷ lines_of s) (push c (lines_of s))

-- what a number makes of a line, which is no order where there is none
abbrev pub with_number : Option ℕ → (ℕ → Option Order) → Option Order
with_number (Some n) next = next n
with_number None next = None

-- a number, and the fields behind it
abbrev pub number_then : (ℕ → List (List ℕ) → Option Order) → List (List ℕ) → Option Order
number_then next [] = None
number_then next (f ∷ fs) = with_number (number_of f) (λ n. next n fs)

-- a number, and no field behind it
abbrev pub number_last : (ℕ → Option Order) → List (List ℕ) → Option Order
number_last next [] = None
number_last next (f ∷ []) = with_number (number_of f) next
number_last next (f ∷ g ∷ fs) = None

-- "order number, first tick, last tick, watts", and not "with first after last": what a line comes to by the fields behind its last tick, behind
-- its first and behind its number
abbrev pub after_last : ℕ → ℕ → ℕ → List (List ℕ) → Option Order
after_last number first last =
    number_last (λ watts. cond (leb first last) (Some (record { number = number; first = first; last = last; watts = watts })) None)

abbrev pub after_first : ℕ → ℕ → List (List ℕ) → Option Order
after_first number first = number_then (after_last number first)

abbrev pub after_number : ℕ → List (List ℕ) → Option Order
after_number number = number_then (after_first number)

-- "orders as text, one a line, tab-parted": the order that a line is
unfoldable pub order_of : List ℕ → Option Order
order_of line = number_then after_number (fields_of line)
