-- Document 02, 2026-07: the host's call, the number that it returns, and every byte that it leaves. Definitions only.
use Rattle.std.specs.Prelude.{Bool, false, ◌&&◌, List, [], ◌∷◌, ℕ, eqb, leb, length}
use Rattle.common.specs.Refusals.{Asked, asks, refusal_of, done_unless}
use Rattle.little_endian.specs.Numbers.{byte_at}
use Rattle.little_endian.specs.Flags.{bit_value}
use Rattle.plug_sensing.specs.Sensing.{sensed}
use Rattle.plug_sensing.specs.declared.Refusal.{Refusal}
use Rattle.plug_sensing.specs.declared.Refusal.TheVariants.{State, Room, Millivolts}
use Rattle.plug_sensing.specs.declared.Sensed.{Sensed}

-- "The new part keeps one bool, false at first, as its own state": one byte, 0 for false and 1 for true.
abbrev pub keeping : Bool → List ℕ
keeping was_lowest = bit_value was_lowest ∷ []

abbrev pub fresh_state : List ℕ
fresh_state = keeping false

-- the bool that a state keeps
abbrev pub was_lowest_in : List ℕ → Bool
was_lowest_in state = eqb (byte_at state 0) 1

-- "Turned away: 31, for a value above 20,000, asked before the state is looked at"
abbrev pub is_taken : ℕ → Asked
is_taken millivolts = asks (leb millivolts 20000) 31

-- The request has no numbers for what is lent: 6 for what is kept between the calls, 8 for what is only written.
abbrev pub has_state : List ℕ → Asked
has_state state = asks (eqb (length state) 1 && leb (byte_at state 0) 1) 6

abbrev pub has_room : List ℕ → Asked
has_room plug = asks (eqb (length plug) 1) 8

-- the numbers of the refusals
abbrev pub number : Refusal → ℕ
number State = 6
number Room = 8
number Millivolts = 31

-- what the call asks before it does anything, in the order of asking
unfoldable pub rows : List ℕ → ℕ → List ℕ → List Asked
rows state millivolts plug = is_taken millivolts ∷ has_state state ∷ has_room plug ∷ []

-- what the call returns and leaves
pub record Answer : Type 0 where
  pub number : ℕ
  pub state : List ℕ
  pub plug : List ℕ

-- carried out, it leaves the bool for the next value, and the plug bit: 1 for closed
abbrev pub telling : Sensed → Answer
telling said = record { number = 0; state = keeping said.lowest; plug = bit_value said.closed ∷ [] }

-- A refusal changes no byte: "the state is unchanged".
unfoldable pub answer : List ℕ → ℕ → List ℕ → Answer
answer state millivolts plug =
    done_unless (refusal_of (rows state millivolts plug)) (λ n. record { number = n; state = state; plug = plug })
    (telling (sensed (was_lowest_in state) millivolts))
