-- What the functions that go through a text answer: what they have read, and the text behind it. The rules (`taken_of`, `refused_line_of`,
-- `allowance_of`) do not rest on it. Definitions only.
use Rattle.std.specs.Prelude.{◌≡◌, Bool, cond, ◌||◌, List, [], ◌∷◌, ◌++◌, ℕ, suc, ◌+◌, ◌*◌, ◌<◌, leb, eqb, length, drop, Option, Some, None, option_map, Result, Ok, Err, ⊤}
use Rattle.std.specs.Borrow.{Bor}
use Rattle.std.specs.Result.{result_map_both}
use Rattle.common.specs.Texts.{digit_value, is_digit}
use Rattle.orders.specs.Lines.{lines_of, order_of}
use Rattle.orders.specs.Numbers.{most, number_of}
use Rattle.orders.specs.Places.{place_count}
use Rattle.orders.specs.Refusals.{number}
use Rattle.orders.specs.Texts.{Answer, Accepted, Refused, read_from}
use Rattle.orders.specs.declared.places.Order.{Order}
use Rattle.orders.specs.declared.texts.RefusedLine.{RefusedLine}

-- a tab or a line feed
unfoldable pub is_mark : ℕ → Bool
is_mark c = eqb c 9 || eqb c 10

-- the characters before the first of these, and how many they are
abbrev pub first_field : List ℕ → List ℕ
first_field [] = []
first_field (c ∷ s) = cond (is_mark c) [] (c ∷ first_field s)

abbrev pub field_length : List ℕ → ℕ
field_length [] = 0
field_length (c ∷ s) = cond (is_mark c) 0 (suc (field_length s))

-- the characters before the first line feed, and those behind it
abbrev pub first_line : List ℕ → List ℕ
first_line [] = []
first_line (c ∷ s) = cond (eqb c 10) [] (c ∷ first_line s)

abbrev pub behind_line : List ℕ → List ℕ
behind_line [] = []
behind_line (c ∷ s) = cond (eqb c 10) s (behind_line s)

-- digits up to the end of their field, behind a number of so many digits
abbrev pub digits_from : ℕ → ℕ → List ℕ → Option (ℕ × ℕ)
digits_from n i [] = Some (n, i)
digits_from n i (c ∷ s) =
    cond (is_digit 10 c)
    (cond (leb (10 * n + digit_value c) most) (digits_from (10 * n + digit_value c) (suc i) s) None)
    (cond (is_mark c) (Some (n, i)) None)

-- the number that the first field is, and its length
unfoldable pub number_at : List ℕ → Option (ℕ × ℕ)
number_at s = option_map (λ v. (v, field_length s)) (number_of (first_field s))

-- what a function has read, with the characters behind the reference
abbrev pub seen : {A : Type 0} → Option (A × Bor (List ℕ)) → Option (A × List ℕ)
seen (Some p) = Some (p.0, p.1.now)
seen None = None

-- a number, by what stands behind it: a tab, or the end of the line
abbrev pub if_tab : ℕ → List ℕ → Option (ℕ × List ℕ)
if_tab n [] = None
if_tab n (c ∷ s) = cond (eqb c 9) (Some (n, s)) None

abbrev pub if_ended : ℕ → List ℕ → Option (ℕ × List ℕ)
if_ended n [] = Some (n, [])
if_ended n (c ∷ s) = cond (eqb c 10) (Some (n, s)) None

abbrev pub by_rest : (ℕ → List ℕ → Option (ℕ × List ℕ)) → List ℕ → Option (ℕ × ℕ) → Option (ℕ × List ℕ)
by_rest next s (Some p) = next p.0 (drop p.1 s)
by_rest next s None = None

unfoldable pub tabbed_read : List ℕ → Option (ℕ × List ℕ)
tabbed_read s = by_rest if_tab s (number_at s)

unfoldable pub ended_read : List ℕ → Option (ℕ × List ℕ)
ended_read s = by_rest if_ended s (number_at s)

-- the order that the first line is, and the text behind the line
unfoldable pub order_read : List ℕ → Option (Order × List ℕ)
order_read s = option_map (λ o. (o, behind_line s)) (order_of (first_line s))

-- what becomes of a line behind the orders kept, whatever lines follow: one order more, or a refusal
abbrev pub Adds : {E : Type 0} → (E → Answer) → List Order → List ℕ → Result Order E → Type 0
Adds answer kept line (Ok o) =
    (length kept < place_count) × ((lines : List (List ℕ)) → read_from kept (line ∷ lines) ≡ read_from (kept ++ (o ∷ [])) lines)
Adds answer kept line (Err e) = (lines : List (List ℕ)) → read_from kept (line ∷ lines) ≡ answer e

-- the order that a function has read, without the characters behind it
abbrev pub order_alone : {E : Type 0} → Result (Order × Bor (List ℕ)) E → Result Order E
order_alone r = result_map_both (λ p. p.0) (λ e. e) r

-- what becomes of a text by its first line: one order more and the text behind it, or a refusal
abbrev pub AddsFirst : {E : Type 0} → (E → Answer) → List Order → List ℕ → Result (Order × Bor (List ℕ)) E → Type 0
AddsFirst answer kept text (Ok p) =
    (length kept < place_count)
    × (length p.1.now < length text)
    × (read_from kept (lines_of text) ≡ read_from (kept ++ (p.0 ∷ [])) (lines_of p.1.now))
AddsFirst answer kept text (Err e) = read_from kept (lines_of text) ≡ answer e

-- the answer to a text that is refused, and to one whose lines have left these orders
abbrev pub refused_at : RefusedLine → Answer
refused_at refused = Refused (number refused.refusal) refused.line

abbrev pub answer_in : List Order → Result ⊤ RefusedLine → Answer
answer_in kept (Ok done) = Accepted kept
answer_in kept (Err refused) = refused_at refused
