-- Lists of the host's calls, carried out by `setup_of` and `tick_of`, which the contracts of the two exported functions name. Definitions only.
use Rattle.std.specs.Prelude.{cond, List, [], ◌∷◌, ◌++◌, ℕ, eqb}
use Rattle.post.specs.Rules.{TickInput, tick_input}
use Rattle.post.specs.Calls.{SetUp, setup_of, Ticked, tick_of}
use Rattle.post.specs.declared.head.Head.{Head}

-- a call, with the bytes that it lends: any numbers (a setup's stand as the head that `head_from` makes of them), any bytes, any lengths
pub data Call : Type 0 where
  setup : (h : Head) (buffer : List ℕ) → Call
  tick : (input output : List ℕ) → Call

-- what a call returns and leaves: the post's state, and the call's own buffer (a setup's, or a tick's output)
pub record Outcome : Type 0 where
  pub number : ℕ
  pub state : List ℕ
  pub lent : List ℕ

-- Accepted, a setup's buffer becomes the state; refused, the post keeps its state.
unfoldable pub outcome : List ℕ → Call → Outcome
outcome state (setup h buffer) =
    let done : SetUp = setup_of h buffer in
    record { number = done.number; state = cond (eqb done.number 0) done.state state; lent = done.state }
outcome state (tick input output) =
    let done : Ticked = tick_of state input output in
    record { number = done.number; state = done.state; lent = done.output }

-- "Each tick gets the state as the one before left it; nobody else writes it."
unfoldable pub outcomes : List ℕ → List Call → List Outcome
outcomes state [] = []
outcomes state (call ∷ calls) = outcome state call ∷ outcomes (outcome state call).state calls

-- a tick that returned 0: what it was given, and the output and the state as it left them
pub record Tick : Type 0 where
  pub input : TickInput
  pub output : List ℕ
  pub state : List ℕ

-- The ticks of a list that demand 3 counts: "refused ones may stand anywhere in it and aren't counted"; "an accepted setup begins a
-- new list", so this one ends there.
unfoldable pub ticks_of : List ℕ → List Call → List Tick
ticks_of state [] = []
ticks_of state (setup h buffer ∷ calls) = cond (eqb (setup_of h buffer).number 0) [] (ticks_of state calls)
ticks_of state (tick input output ∷ calls) =
    let done : Ticked = tick_of state input output in
    cond (eqb done.number 0)
    (record { input = tick_input input; output = done.output; state = done.state } ∷ ticks_of done.state calls)
    (ticks_of done.state calls)

-- A stretch of a list: what an accepted setup fixed, and the ticks from there up to the next accepted one.
pub record Stretch : Type 0 where
  pub head : Head
  pub ticks : List Tick

-- the stretch that a call begins; `state` is as the call leaves it
abbrev pub begun : Call → List ℕ → List Call → List Stretch
begun (setup h buffer) state calls = cond (eqb (setup_of h buffer).number 0) (record { head = h; ticks = ticks_of state calls } ∷ []) []
begun (tick input output) state calls = []

-- every stretch of a list that begins with these bytes as the state
unfoldable pub stretches_of : List ℕ → List Call → List Stretch
stretches_of state [] = []
stretches_of state (call ∷ calls) =
    let after : List ℕ = (outcome state call).state in
    begun call after calls ++ stretches_of after calls

-- a claim about what setup fixed and the ticks of a list, of every stretch
abbrev pub EachStretch : (Head → List Tick → Type 0) → List Stretch → Type 0
EachStretch claim [] = Unit
EachStretch claim (stretch ∷ rest) = claim stretch.head stretch.ticks × EachStretch claim rest
