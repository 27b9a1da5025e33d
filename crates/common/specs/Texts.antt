-- Texts in ASCII: digits, the numbers that they say, and fields between tabs. Definitions only.
use Rattle.std.specs.Prelude.{Bool, true, cond, ◌&&◌, List, [], ◌∷◌, ℕ, ◌+◌, ◌-◌, ◌*◌, leb, ltb, eqb, Option, Some, None}
use Rattle.common.specs.Tests.{between}

-- the value of the character 0 to 9, A to F or a to f, and 16 for any other
unfoldable pub digit_value : ℕ → ℕ
digit_value c = cond (between 48 57 c) (c - 48) (cond (between 65 70 c) (c - 55) (cond (between 97 102 c) (c - 87) 16))

-- decimal digits are those of base 10, hex digits those of base 16
abbrev pub is_digit : ℕ → ℕ → Bool
is_digit base c = ltb (digit_value c) base

abbrev pub all_digits : ℕ → List ℕ → Bool
all_digits base [] = true
all_digits base (c ∷ s) = is_digit base c && all_digits base s

-- the number that digits say behind a number already there, the highest first
abbrev pub value_from : ℕ → ℕ → List ℕ → ℕ
value_from base n [] = n
value_from base n (c ∷ s) = value_from base (base * n + digit_value c) s

-- digits of a base only, in either case, and the number at most that much; leading zeros count for nothing
unfoldable pub number_in : ℕ → ℕ → List ℕ → Option ℕ
number_in base most s = cond (all_digits base s && leb (value_from base 0 s) most) (Some (value_from base 0 s)) None

-- a character before the first of some texts
abbrev pub push : ℕ → List (List ℕ) → List (List ℕ)
push c [] = (c ∷ []) ∷ []
push c (f ∷ fs) = (c ∷ f) ∷ fs

-- the fields between the tabs
abbrev pub fields_of : List ℕ → List (List ℕ)
fields_of [] = [] ∷ []
fields_of (c ∷ s) = cond (eqb c 9) ([] ∷ fields_of s) (push c (fields_of s))
