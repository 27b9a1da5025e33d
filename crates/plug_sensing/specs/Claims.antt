-- Document 02, 2026-07: its claims. Statements only; proofs/Claimed.antt proves them.
use Rattle.std.specs.Prelude.{true, false, List, [], ◌∷◌, map, ◌≡◌, ℕ, zero, suc, ◌<◌, length, get_or}
use Rattle.common.specs.Refusals.{refusal_of}
use Rattle.little_endian.specs.Flags.{bit_value}
use Rattle.plug_sensing.specs.Sensing.{is_twelve_volts, is_middle, is_lowest}
use Rattle.plug_sensing.specs.Calls.{fresh_state, is_taken, has_room}
use Rattle.plug_sensing.specs.Lists.{Call, numbers, accepted_values, accepted_plugs, value_at, closed_at}

-- a bit for each value, 1 for closed exactly where the rule says it
pub record ByRule (bits : List (List ℕ)) (values : List ℕ) : Type 0 where
  pub as_many : length bits ≡ length values
  pub each : (i : ℕ) → i < length values → get_or bits i [] ≡ bit_value (closed_at values i) ∷ []

-- "Over every list of values, refused ones left out, the bit is closed exactly when this rule says it is."
abbrev pub ClosedExactly : Type 0
ClosedExactly = (calls : List Call) → ByRule (accepted_plugs fresh_state calls) (accepted_values fresh_state calls)

-- Which calls are refused, and with which number, is told by their own value and plug, wherever they stand.
abbrev pub own_refusal : Call → ℕ
own_refusal call = refusal_of (is_taken call.millivolts ∷ has_room call.plug ∷ [])

abbrev pub RefusedByItself : Type 0
RefusedByItself = (calls : List Call) → numbers fresh_state calls ≡ map own_refusal calls

-- so that no list finds its state unusable
abbrev pub NeverUnusable : Type 0
NeverUnusable = (calls : List Call) (i : ℕ) → get_or (numbers fresh_state calls) i 0 ≡ 6 → ⊥

-- The rule, sentence by sentence, at value i of any list, at the value after it and at the first.
pub record Sentences (values : List ℕ) (i : ℕ) : Type 0 where
  -- "The lowest range is closed."
  pub lowest : is_lowest (value_at values i) ≡ true → closed_at values i ≡ true
  -- "The middle range is closed only in the tick just after the lowest"
  pub just_after : is_lowest (value_at values i) ≡ true → is_middle (value_at values (suc i)) ≡ true → closed_at values (suc i) ≡ true
  pub only_then : is_lowest (value_at values i) ≡ false → is_middle (value_at values (suc i)) ≡ true → closed_at values (suc i) ≡ false
  pub at_first : is_middle (value_at values zero) ≡ true → closed_at values zero ≡ false
  -- "a second in a row is open"
  pub second_in_a_row : is_middle (value_at values i) ≡ true → is_middle (value_at values (suc i)) ≡ true → closed_at values (suc i) ≡ false
  -- "All else is open.", the table's first range among it
  pub all_else : is_lowest (value_at values i) ≡ false → is_middle (value_at values i) ≡ false → closed_at values i ≡ false
  pub twelve_volts : is_twelve_volts (value_at values i) ≡ true → closed_at values i ≡ false

abbrev pub RuleSays : Type 0
RuleSays = (values : List ℕ) (i : ℕ) → Sentences values i
