-- Document 01, 'Bench program': what is printed. Definitions only.
use Rattle.std.specs.Prelude.{cond, List, [], ◌∷◌, ◌++◌, ℕ, ◌/◌, ◌%◌, leb, ltb, length, drop}
use Rattle.bench_line.specs.Digits.{digit, hex_text}
use Rattle.bench_line.specs.declared.answers.Answer.{Answer}
use Rattle.bench_line.specs.declared.answers.Answer.TheVariants.{Unknown, Returned, Done}

-- a number of one byte in decimal
abbrev pub number_text : ℕ → List ℕ
number_text n =
    cond (ltb n 10) (digit n ∷ [])
    (cond (ltb n 100) (digit (n / 10) ∷ digit (n % 10) ∷ []) (digit (n / 100) ∷ digit (n / 10 % 10) ∷ digit (n % 10) ∷ []))

-- "It prints the number, and for a tick done a tab and the output in capital hex. Any other line … prints `?`." Each ends with a line feed.
abbrev pub returned_text : ℕ → List ℕ
returned_text n = number_text n ++ (10 ∷ [])

abbrev pub done_text : List ℕ → List ℕ
done_text output = 48 ∷ 9 ∷ (hex_text output ++ (10 ∷ []))

abbrev pub unknown_text : List ℕ
unknown_text = 63 ∷ 10 ∷ []

abbrev pub answer_text : Answer → List ℕ
answer_text Unknown = unknown_text
answer_text (Returned n) = returned_text n
answer_text (Done output) = done_text output.now

-- how many characters were written, and what the lent buffer holds then
pub record Written : Type 0 where
  pub count : ℕ
  pub text : List ℕ

-- a text over the beginning of a buffer; one that does not fit is not written
unfoldable pub written_of : List ℕ → List ℕ → Written
written_of t d =
    cond (leb (length t) (length d)) (record { count = length t; text = t ++ drop (length t) d }) (record { count = 0; text = d })
