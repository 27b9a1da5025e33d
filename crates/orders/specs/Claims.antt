-- Document 02, 2026-09: its claims about texts and allowances. Statements only; proofs/Claimed.antt proves them.
use Rattle.std.specs.Prelude.{true, false, ◌⊎◌, ◌≡◌, ℕ, ◌-◌, ◌*◌, ◌≤◌, ◌<◌, length, get_or, drop, replicate, Some}
use mathlib.Core.List.{List, [], ◌∷◌, ◌++◌, map, Permᴰ}
use Rattle.orders.specs.Lines.{lines_of, order_of}
use Rattle.orders.specs.Places.{place_count, place_size, orders_length, unused, orders_in, places_of, no_orders}
use Rattle.orders.specs.Allowances.{covers, allowance_of}
use Rattle.orders.specs.Texts.{taken_of}
use Rattle.orders.specs.declared.places.Order.{Order}

-- "A line feed ends each line but perhaps the last": lines put together, the last with its line feed or without
abbrev pub closed : List (List ℕ) → List ℕ
closed [] = []
closed (line ∷ lines) = line ++ (10 ∷ closed lines)

abbrev pub opened : List (List ℕ) → List ℕ
opened [] = []
opened (line ∷ []) = line
opened (line ∷ next ∷ lines) = line ++ (10 ∷ opened (next ∷ lines))

abbrev pub Spells : List (List ℕ) → List ℕ → Type 0
Spells lines text = (text ≡ closed lines) ⊎ (text ≡ opened lines)

-- every text is its lines put together
abbrev pub SpelledByItsLines : Type 0
SpelledByItsLines = (text : List ℕ) → Spells (lines_of text) text

-- the text is accepted
abbrev pub IsAccepted : List ℕ → List ℕ → Type 0
IsAccepted text orders = (taken_of text orders).number ≡ 0

-- the other text is accepted too, and every tick uses the same allowance
pub record SameAllowance (text other orders : List ℕ) : Type 0 where
  pub accepted : IsAccepted other orders
  pub allowance : (tick watts : ℕ) → allowance_of (taken_of other orders).orders tick watts ≡ allowance_of (taken_of text orders).orders tick watts

-- "For every accepted text, the allowance is the same in whichever order its lines stand." A permutation is the library's.
abbrev pub AnyOrder : Type 0
AnyOrder =
    (text orders : List ℕ) (lines : List (List ℕ)) (other : List ℕ)
    → IsAccepted text orders
    → Permᴰ (lines_of text) lines
    → Spells lines other
    → SameAllowance text other orders

-- "64 times the four numbers …, in the text's order, unused places 0 with first tick 1": the places, read again
pub record AsInText (text after : List ℕ) : Type 0 where
  pub whole : length after ≡ orders_length
  pub few : length (lines_of text) ≤ place_count
  pub used : map Some (orders_in (length (lines_of text)) after) ≡ map order_of (lines_of text)
  pub rest :
      orders_in (place_count - length (lines_of text)) (drop (place_size * length (lines_of text)) after)
      ≡ replicate (place_count - length (lines_of text)) unused

abbrev pub RoundTrip : Type 0
RoundTrip = (text orders : List ℕ) → IsAccepted text orders → AsInText text (taken_of text orders).orders

-- "no lines, no orders", and without orders the tick's input gives the allowance
abbrev pub NoLines : Type 0
NoLines = (orders : List ℕ) → length orders ≡ orders_length → taken_of [] orders ≡ record { number = 0; orders = no_orders }

abbrev pub NoOrders : Type 0
NoOrders = (tick watts : ℕ) → allowance_of no_orders tick watts ≡ watts

-- place k of some places
abbrev pub place_at : List Order → ℕ → Order
place_at os k = get_or os k unused

-- "the covering order with the highest number …, and of equal numbers the earlier place counts": it is the one in place k
pub record Counts (tick : ℕ) (os : List Order) (k : ℕ) : Type 0 where
  pub inside : k < length os
  pub covered : covers tick (place_at os k) ≡ true
  pub highest : (j : ℕ) → j < length os → covers tick (place_at os j) ≡ true → (place_at os j).number ≤ (place_at os k).number
  pub earliest : (j : ℕ) → j < k → covers tick (place_at os j) ≡ true → (place_at os j).number < (place_at os k).number

-- of any bytes
abbrev pub HighestCounts : Type 0
HighestCounts =
    (orders : List ℕ) (tick watts k : ℕ) → Counts tick (places_of orders) k → allowance_of orders tick watts ≡ (place_at (places_of orders) k).watts

abbrev pub ElseInput : Type 0
ElseInput =
    (orders : List ℕ) (tick watts : ℕ)
    → ((k : ℕ) → k < length (places_of orders) → covers tick (place_at (places_of orders) k) ≡ false)
    → allowance_of orders tick watts ≡ watts
