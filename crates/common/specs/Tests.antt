-- Tests on numbers and lists of them. Definitions only.
use Rattle.std.specs.Prelude.{Bool, true, false, ◌&&◌, List, [], ◌∷◌, ℕ, leb, eqb}

-- a number in a range, ends included
abbrev pub between : ℕ → ℕ → ℕ → Bool
between first last n = leb first n && leb n last

abbrev pub same : List ℕ → List ℕ → Bool
same [] [] = true
same [] (y ∷ t) = false
same (x ∷ s) [] = false
same (x ∷ s) (y ∷ t) = eqb x y && same s t
