-- Texts and their answers, orders and their allowances: document 02's words at their edges. Definitions only.
use Rattle.std.specs.Prelude.{Bool, ◌&&◌, List, [], ◌∷◌, ◌++◌, map, ℕ, zero, suc, ◌+◌, ◌/◌, ◌%◌, eqb}
use Rattle.orders.specs.Places.{orders_bytes, no_orders}
use Rattle.orders.specs.Texts.{taken_of, refused_line_of}
use Rattle.orders.specs.Allowances.{allowance_of}
use Rattle.orders.specs.declared.places.Order.{Order}

-- a number's digits as characters
abbrev pub digits : List ℕ → List ℕ
digits = map (λ d. 48 + d)

-- a line of four fields, without its line feed
abbrev pub fields : List ℕ → List ℕ → List ℕ → List ℕ → List ℕ
fields number first last watts = number ++ (9 ∷ first) ++ (9 ∷ last) ++ (9 ∷ watts)

abbrev pub line : List ℕ → List ℕ → List ℕ → List ℕ → List ℕ
line number first last watts = fields (digits number) (digits first) (digits last) (digits watts)

abbrev pub ended : List ℕ → List ℕ
ended line = line ++ (10 ∷ [])

-- order 1 from tick 0 to tick 35
abbrev plain : List ℕ
plain = line (1 ∷ []) (0 ∷ []) (3 ∷ 5 ∷ []) (2 ∷ 0 ∷ 0 ∷ 0 ∷ 0 ∷ [])

-- orders 7 and 8
abbrev seven : List ℕ
seven = ended (line (7 ∷ []) (0 ∷ []) (1 ∷ []) (5 ∷ []))

abbrev eight : List ℕ
eight = ended (line (8 ∷ []) (0 ∷ []) (1 ∷ []) (5 ∷ []))

-- the greatest number that is taken
abbrev greatest : List ℕ
greatest = 4 ∷ 2 ∷ 9 ∷ 4 ∷ 9 ∷ 6 ∷ 7 ∷ 2 ∷ 9 ∷ 5 ∷ []

-- so many lines, with the numbers from 100 on
abbrev numbered : ℕ → List ℕ
numbered zero = []
numbered (suc k) = numbered k ++ ended (line (1 ∷ k / 10 ∷ k % 10 ∷ []) (0 ∷ []) (0 ∷ []) (0 ∷ []))

-- whether a text is answered with this number, and at this line
abbrev answers : List ℕ → ℕ → ℕ → Bool
answers text number line = eqb (taken_of text no_orders).number number && eqb (refused_line_of text) line

unfoldable pub texts : List Bool
texts =
    -- no lines
    answers [] 0 0
    -- an empty line, alone and at the end
    ∷ answers (10 ∷ []) 33 1
    ∷ answers (ended plain ++ (10 ∷ [])) 33 2
    -- the last line with its line feed and without
    ∷ answers (ended plain) 0 0
    ∷ answers plain 0 0
    -- zeros, and needless ones
    ∷ answers (line (0 ∷ []) (0 ∷ []) (0 ∷ []) (0 ∷ [])) 0 0
    ∷ answers (line (0 ∷ 1 ∷ []) (0 ∷ []) (0 ∷ []) (0 ∷ [])) 33 1
    ∷ answers (line (1 ∷ []) (0 ∷ 0 ∷ []) (0 ∷ []) (0 ∷ [])) 33 1
    -- the greatest number in each field, and one above it in each
    ∷ answers (line greatest greatest greatest greatest) 0 0
    ∷ answers (line (4 ∷ 2 ∷ 9 ∷ 4 ∷ 9 ∷ 6 ∷ 7 ∷ 2 ∷ 9 ∷ 6 ∷ []) (0 ∷ []) (0 ∷ []) (0 ∷ [])) 33 1
    ∷ answers (line (1 ∷ []) (0 ∷ []) (0 ∷ []) (4 ∷ 2 ∷ 9 ∷ 4 ∷ 9 ∷ 6 ∷ 7 ∷ 2 ∷ 9 ∷ 6 ∷ [])) 33 1
    -- a carriage return, a sign, a space, a hex digit
    ∷ answers (ended (plain ++ (13 ∷ []))) 33 1
    ∷ answers (43 ∷ plain) 33 1
    ∷ answers (32 ∷ plain) 33 1
    ∷ answers (plain ++ (65 ∷ [])) 33 1
    -- an empty field, a fifth one, three
    ∷ answers (fields [] (48 ∷ []) (48 ∷ []) (48 ∷ [])) 33 1
    ∷ answers (plain ++ (9 ∷ [])) 33 1
    ∷ answers (49 ∷ 9 ∷ 48 ∷ 9 ∷ 49 ∷ []) 33 1
    -- first the last, and first after last
    ∷ answers (line (1 ∷ []) (6 ∷ []) (6 ∷ []) (0 ∷ [])) 0 0
    ∷ answers (line (1 ∷ []) (6 ∷ []) (5 ∷ []) (0 ∷ [])) 33 1
    -- a number used twice; 33 before 34 in a line, but not that of a later line
    ∷ answers (seven ++ eight ++ seven) 34 3
    ∷ answers (seven ++ line (7 ∷ []) (6 ∷ []) (5 ∷ []) (0 ∷ [])) 33 2
    ∷ answers (seven ++ seven ++ (10 ∷ [])) 34 2
    -- 64 lines; a 65th, empty, and with a number used
    ∷ answers (numbered 64) 0 0
    ∷ answers (numbered 65) 35 65
    ∷ answers (numbered 64 ++ (10 ∷ [])) 35 65
    ∷ answers (numbered 64 ++ line (1 ∷ 0 ∷ 0 ∷ []) (0 ∷ []) (0 ∷ []) (0 ∷ [])) 35 65
    -- 34 and 33 in line 64 come before it
    ∷ answers (numbered 63 ++ ended (line (1 ∷ 0 ∷ 0 ∷ []) (0 ∷ []) (0 ∷ []) (0 ∷ [])) ++ plain) 34 64
    ∷ answers (numbered 63 ++ (10 ∷ []) ++ plain) 33 64
    ∷ []

-- whether a tick with this number uses these watts, where its input has 100
abbrev uses : List ℕ → ℕ → ℕ → Bool
uses orders tick watts = eqb (allowance_of orders tick 100) watts

abbrev pub order : ℕ → ℕ → ℕ → ℕ → Order
order number first last watts = record { number = number; first = first; last = last; watts = watts }

-- places that a text makes, and handed in
abbrev two : List ℕ
two = (taken_of (ended (line (9 ∷ []) (3 ∷ []) (5 ∷ []) (5 ∷ 0 ∷ 0 ∷ [])) ++ line (2 ∷ []) (4 ∷ []) (6 ∷ []) (0 ∷ [])) no_orders).orders

abbrev pub handed_in : List Order → List ℕ
handed_in = orders_bytes 4

unfoldable pub allowances : List Bool
allowances =
    -- no order covers, the first tick, both cover and the earlier line has the higher number, its last tick, the other's last tick, none
    uses two 2 100
    ∷ uses two 3 500
    ∷ uses two 5 500
    ∷ uses two 6 0
    ∷ uses two 7 100
    -- unused places cover no tick
    ∷ uses no_orders 0 100
    ∷ uses no_orders 1 100
    -- order 0 is one like any other
    ∷ uses (handed_in (order 0 1 1 7 ∷ [])) 1 7
    -- the tick's number is not cut to 32 bits
    ∷ uses (handed_in (order 1 0 4294967295 7 ∷ [])) 4294967295 7
    ∷ uses (handed_in (order 1 0 4294967295 7 ∷ [])) 4294967296 100
    -- of equal numbers the earlier place that covers, and none by first after last
    ∷ uses (handed_in (order 1 0 9 7 ∷ order 1 0 9 8 ∷ [])) 4 7
    ∷ uses (handed_in (order 1 0 3 7 ∷ order 1 0 9 8 ∷ [])) 4 8
    ∷ uses (handed_in (order 2 5 3 7 ∷ order 1 0 9 8 ∷ [])) 4 8
    -- bytes behind the last whole place count for nothing
    ∷ uses (handed_in (order 1 0 9 7 ∷ []) ++ (9 ∷ [])) 4 7
    ∷ uses [] 4 100
    ∷ []

-- two texts of the same lines
abbrev pub nine_three : List ℕ
nine_three = ended (line (9 ∷ []) (0 ∷ []) (9 ∷ []) (5 ∷ [])) ++ ended (line (3 ∷ []) (0 ∷ []) (9 ∷ []) (7 ∷ []))

abbrev pub three_nine : List ℕ
three_nine = ended (line (3 ∷ []) (0 ∷ []) (9 ∷ []) (7 ∷ [])) ++ line (9 ∷ []) (0 ∷ []) (9 ∷ []) (5 ∷ [])
