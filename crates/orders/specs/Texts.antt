-- Document 02, 2026-09: a whole text, and the two calls that read one. Definitions only.
use Rattle.std.specs.Prelude.{cond, List, [], ◌∷◌, ◌++◌, ℕ, ◌+◌, leb, eqb, length, Option, Some, None}
use Rattle.orders.specs.Lines.{lines_of, order_of}
use Rattle.orders.specs.Places.{place_count, orders_length, orders_bytes, is_used}
use Rattle.orders.specs.declared.places.Order.{Order}

-- the orders of an accepted text, or the number of what is turned away and the line, counted from 1, at which it is
pub data Answer : Type 0 where
  Accepted : List Order → Answer
  Refused : ℕ → ℕ → Answer

abbrev pub with_order : Option Order → Answer → (Order → Answer) → Answer
with_order (Some o) refused next = next o
with_order None refused next = refused

-- "Turned away: 33, a line not of that form or with first after last; 34, an order number used twice; 35, a 65th line; asked line by line as 35,
-- 33, 34": the lines behind those whose orders are kept
abbrev pub read_from : List Order → List (List ℕ) → Answer
read_from kept [] = Accepted kept
read_from kept (line ∷ lines) =
    cond (leb place_count (length kept)) (Refused 35 (length kept + 1))
    (with_order (order_of line) (Refused 33 (length kept + 1))
    (λ o. cond (is_used o.number kept) (Refused 34 (length kept + 1)) (read_from (kept ++ (o ∷ [])) lines)))

-- "no lines, no orders"
unfoldable pub answer_to : List ℕ → Answer
answer_to text = read_from [] (lines_of text)

-- the number returned, and the line
pub record Outcome : Type 0 where
  pub number : ℕ
  pub line : ℕ

abbrev pub outcome_of : Answer → Outcome
outcome_of (Accepted os) = record { number = 0; line = 0 }
outcome_of (Refused number line) = record { number = number; line = line }

-- the orders in force afterwards: those of the text, or "the whole text is then dropped and the orders in force before it remain"
abbrev pub bytes_after : Answer → List ℕ → List ℕ
bytes_after (Accepted os) orders = orders_bytes place_count os
bytes_after (Refused number line) orders = orders

-- what taking a text returns and leaves
pub record Taken : Type 0 where
  pub number : ℕ
  pub orders : List ℕ

-- "And 43, those bytes not 1,024, asked before the text's lines"
unfoldable pub taken_of : List ℕ → List ℕ → Taken
taken_of text orders =
    cond (eqb (length orders) orders_length)
    (record { number = (outcome_of (answer_to text)).number; orders = bytes_after (answer_to text) orders })
    (record { number = 43; orders = orders })

-- the line at which a text is refused, 0 for an accepted one
unfoldable pub refused_line_of : List ℕ → ℕ
refused_line_of text = (outcome_of (answer_to text)).line
