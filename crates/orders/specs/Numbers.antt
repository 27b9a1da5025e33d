-- Document 02, 2026-09: the numbers of a text, in ASCII. Definitions only.
use Rattle.std.specs.Prelude.{Bool, true, false, cond, not, List, [], ◌∷◌, ℕ, eqb, Option, None}
use Rattle.common.specs.Texts.{number_in}

-- "without a needless leading zero": one character, or the first is not 0
abbrev pub is_plain : List ℕ → Bool
is_plain [] = false
is_plain (c ∷ []) = true
is_plain (c ∷ d ∷ s) = not (eqb c 48)

-- "each from 0 to 4,294,967,295"
abbrev pub most : ℕ
most = 4294967295

-- "Numbers are decimal digits without a needless leading zero."
unfoldable pub number_of : List ℕ → Option ℕ
number_of s = cond (is_plain s) (number_in 10 most s) None
