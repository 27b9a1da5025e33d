-- Document 01, 'The post's two calls': what setup and tick ask before they do anything, in the order of asking, each with its number. Definitions only.
use Rattle.std.specs.Prelude.{Bool, ◌&&◌, List, [], ◌∷◌, ◌++◌, ℕ, leb, eqb, length, ◌≡◌, Result, MatchResult}
use Rattle.common.specs.Tests.{between}
use Rattle.common.specs.Parts.{every}
use Rattle.common.specs.Refusals.{Asked, asks, refusal_of}
use Rattle.readings.specs.Readings.{allowed_resistance}
use Rattle.lead_records.specs.States.{good_state}
use Rattle.lead_records.specs.Inputs.{good_input}
use Rattle.post.specs.Heads.{most_leads, state_length, input_length, output_length, head_from, head_of, state_part, input_part}
use Rattle.post.specs.declared.head.Head.{Head}
use Rattle.post.specs.declared.names.Refusal.{Refusal}
use Rattle.setup_numbers.specs.declared.SetupNumbers.{SetupNumbers}
use Rattle.post.specs.declared.names.Refusal.TheVariants.{Leads, RatedVolts, RatedAmperes, CableResistance, MeterError, StateLength, State, InputLength, OutputLength, Input}

-- the number that the host gets of a refusal
abbrev pub number : Refusal → ℕ
number Leads = 1
number RatedVolts = 2
number RatedAmperes = 3
number CableResistance = 4
number MeterError = 32
number StateLength = 5
number State = 6
number InputLength = 7
number OutputLength = 8
number Input = 9

-- 2026-08: "Turned away: 32, when either e is above 50"
abbrev pub most_error : ℕ
most_error = 50

-- "1 to 4 leads? (1) Rated volts 50–500? (2) Rated amperes 1–200? (3) Resistance 0 to 1, so no NaN? (4)" 32 is "asked after 4 and before 5".
unfoldable pub head_rows : Head → List Asked
head_rows h =
    asks (between 1 most_leads h.leads) 1
    ∷ asks (between 50 500 h.ratings.volts) 2
    ∷ asks (between 1 200 h.ratings.amperes) 3
    ∷ asks (allowed_resistance h.ratings.resistance) 4
    ∷ asks (leb h.ratings.errors.volts most_error && leb h.ratings.errors.amperes most_error) 32
    ∷ []

-- what comes of the numbers that setup is given: the head, where these rows refuse nothing, or the refusal
abbrev pub HeadTaken : SetupNumbers → Result Head Refusal → Type 0
HeadTaken n taken =
    MatchResult taken (λ h. (h ≡ head_from n) × (refusal_of (head_rows (head_from n)) ≡ 0))
    (λ refusal. number refusal ≡ refusal_of (head_rows (head_from n)))

-- "State exactly" 10 (2026-08) "+ 32 × leads bytes? (5)" `room` is the state's length.
unfoldable pub setup_rows : Head → ℕ → List Asked
setup_rows h room = head_rows h ++ (asks (eqb room (state_length h.leads)) 5 ∷ [])

-- "head as setup takes it"; 2026-08: "a stored head with such an e is refused as 6"
abbrev pub good_head : Head → Bool
good_head h = eqb (refusal_of (head_rows h)) 0

-- "state a good one: head as setup takes it, length right", and each lead's record
unfoldable pub good_post : List ℕ → Bool
good_post state =
    good_head (head_of state)
    && eqb (length state) (state_length (head_of state).leads)
    && every (head_of state).leads (λ k. good_state (head_of state).ratings (state_part state k))

-- "Input exactly 4 + 104 × leads? (7) Output exactly 24 × leads? (8) Every spare bit and byte 3 zero, counts at most 8? (9)" `room` is the
-- output's length.
unfoldable pub input_rows : ℕ → List ℕ → ℕ → List Asked
input_rows leads input room =
    asks (eqb (length input) (input_length leads)) 7
    ∷ asks (eqb room (output_length leads)) 8
    ∷ asks (every leads (λ k. good_input (input_part input k))) 9
    ∷ []

-- "state a good one …? (6)", then the others
unfoldable pub tick_rows : List ℕ → List ℕ → ℕ → List Asked
tick_rows state input room = asks (good_post state) 6 ∷ input_rows (head_of state).leads input room
