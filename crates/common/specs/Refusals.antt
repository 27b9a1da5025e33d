-- What a call asks before it does anything, and what it leaves then. Definitions only.
use Rattle.std.specs.Prelude.{Bool, cond, List, [], ◌∷◌, ℕ, zero, suc, Result, Ok, Err, ⊤}

-- a row: whether the question gets a yes, and the number with which the call is refused otherwise
pub record Asked : Type 0 where
  pub met : Bool
  pub number : ℕ

abbrev pub asks : Bool → ℕ → Asked
asks met number = record { met = met; number = number }

-- rows stand in the order of asking: the number of the first no, 0 where there is none
abbrev pub refusal_of : List Asked → ℕ
refusal_of [] = 0
refusal_of (row ∷ rows) = cond row.met (refusal_of rows) row.number

-- with 0 the call is done, with any other number it is refused
unfoldable pub done_unless : {A : Type 0} → ℕ → (ℕ → A) → A → A
done_unless zero refused done = done
done_unless (suc n) refused done = refused (suc n)

-- the number that a call returns: its refusal's, 0 where it is done
abbrev pub number_of : {R : Type 0} → (R → ℕ) → Result ⊤ R → ℕ
number_of number (Ok done) = 0
number_of number (Err refusal) = number refusal

-- what a question comes to where a call asks it: the call goes on, or it is refused
abbrev pub unless : {R : Type 0} → Bool → R → Result ⊤ R
unless met refusal = cond met (Ok tt) (Err refusal)
