-- Lists of the host's calls on one state, carried out by `answer`, which the contract of the exported function names, and the request's rule
-- over a list of values alone. Definitions only.
use Rattle.std.specs.Prelude.{Bool, false, cond, ◌&&◌, ◌||◌, List, [], ◌∷◌, map, ℕ, zero, suc, eqb, get_or}
use Rattle.plug_sensing.specs.Sensing.{is_middle, is_lowest}
use Rattle.plug_sensing.specs.Calls.{Answer, answer}

-- a call, with what it is given beside the state: any value, any bytes, any length
pub record Call : Type 0 where
  pub millivolts : ℕ
  pub plug : List ℕ

abbrev pub answer_to : List ℕ → Call → Answer
answer_to state call = answer state call.millivolts call.plug

-- Each call gets the state as the one before left it, and nobody else writes it: one that is lent other bytes as a state is in no list.
abbrev pub answers : List ℕ → List Call → List Answer
answers state [] = []
answers state (call ∷ calls) = answer_to state call ∷ answers (answer_to state call).state calls

abbrev pub numbers : List ℕ → List Call → List ℕ
numbers state calls = map (λ a. a.number) (answers state calls)

-- what is seen of each call that returned 0, "refused ones left out"
abbrev pub accepted : {A : Type 0} → (Call → Answer → A) → List ℕ → List Call → List A
accepted seen state [] = []
accepted seen state (call ∷ calls) =
    let a : Answer = answer_to state call in
    cond (eqb a.number 0) (seen call a ∷ accepted seen a.state calls) (accepted seen a.state calls)

-- the accepted values, and what each left in the plug that it was lent
abbrev pub accepted_values : List ℕ → List Call → List ℕ
accepted_values = accepted (λ call a. call.millivolts)

abbrev pub accepted_plugs : List ℕ → List Call → List (List ℕ)
accepted_plugs = accepted (λ call a. a.plug)

-- Over a list of values alone, counted from 0.
abbrev pub value_at : List ℕ → ℕ → ℕ
value_at values i = get_or values i 0

-- the value just before value i lies in the lowest range; before the first there is none
abbrev pub lowest_before : List ℕ → ℕ → Bool
lowest_before values zero = false
lowest_before values (suc i) = is_lowest (value_at values i)

-- "this rule": value i lies in the lowest range, or in the middle one just after one in the lowest
unfoldable pub closed_at : List ℕ → ℕ → Bool
closed_at values i = is_lowest (value_at values i) || (is_middle (value_at values i) && lowest_before values i)
