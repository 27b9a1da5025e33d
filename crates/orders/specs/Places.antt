-- Document 02, 2026-09: the orders in force, as bytes. Definitions only.
use Rattle.std.specs.Prelude.{Bool, false, ◌||◌, List, [], ◌∷◌, ◌++◌, ℕ, zero, suc, ◌*◌, ◌/◌, eqb, length, take, drop}
use Rattle.little_endian.specs.Numbers.{u32_at, u32_bytes}
use Rattle.orders.specs.declared.places.Order.{Order}

-- "the orders in force as 1,024 bytes: 64 times the four numbers, 4 bytes each"
abbrev pub place_count : ℕ
place_count = 64

abbrev pub place_size : ℕ
place_size = 16

abbrev pub orders_length : ℕ
orders_length = place_size * place_count

-- "unused places 0 with first tick 1"
abbrev pub unused : Order
unused = record { number = 0; first = 1; last = 0; watts = 0 }

-- the order in a place, and an order's bytes: "order number, first tick, last tick, watts"
unfoldable pub order_in : List ℕ → Order
order_in place = record { number = u32_at place 0; first = u32_at place 4; last = u32_at place 8; watts = u32_at place 12 }

unfoldable pub order_bytes : Order → List ℕ
order_bytes o = u32_bytes o.number ++ u32_bytes o.first ++ u32_bytes o.last ++ u32_bytes o.watts

-- the orders in the first n places
abbrev pub orders_in : ℕ → List ℕ → List Order
orders_in zero bytes = []
orders_in (suc n) bytes = order_in (take place_size bytes) ∷ orders_in n (drop place_size bytes)

-- those of any bytes: as many as there are whole places
abbrev pub places_of : List ℕ → List Order
places_of bytes = orders_in (length bytes / place_size) bytes

-- n places with orders "in the text's order", the others unused
abbrev pub orders_bytes : ℕ → List Order → List ℕ
orders_bytes zero os = []
orders_bytes (suc n) [] = order_bytes unused ++ orders_bytes n []
orders_bytes (suc n) (o ∷ os) = order_bytes o ++ orders_bytes n os

-- every place unused
abbrev pub no_orders : List ℕ
no_orders = orders_bytes place_count []

-- "an order number used"
abbrev pub is_used : ℕ → List Order → Bool
is_used number [] = false
is_used number (o ∷ os) = eqb o.number number || is_used number os
