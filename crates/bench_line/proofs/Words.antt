-- A line by its length, its first word and the fields behind it. Assumes nothing.
use mathlib.Core.Bool.{Bool, true, false, cond, ◌&&◌}
use mathlib.Core.List.{List, [], ◌∷◌}
use mathlib.Core.Path.{◌≡◌, refl, sym, ap, ◌∙◌}
use Prim.Native.Nat.{ℕ, ◌≤◌, ◌<◌}
use lib.Dec.{eqb}
use lib.ListN.{length}
use borrow.Author.Tests.{le-leb, lt-leb}
use Rattle.std.specs.Prelude.{None}
use Rattle.std.specs.Cmp.Lexicographic.{pointwise}
use Rattle.common.specs.Tests.{same}
use Rattle.common.specs.Texts.{fields_of}
use Rattle.bench_line.specs.Lines.{tick_word, setup_word, tick_line, setup_line, says, parsed_of}

-- what `==` says of two texts
same_by : (a b : List ℕ) → pointwise eqb a b ≡ same a b
same_by [] [] = refl
same_by [] (y ∷ b) = refl
same_by (x ∷ a) [] = refl
same_by (x ∷ a) (y ∷ b) = ap (λ t. eqb x y && t) (same_by a b)

-- what the code's `==` has told of a text and a word
pub told : (a word : List ℕ) {b : List ℕ} {r t : Bool} → r ≡ pointwise eqb a b → b ≡ word → r ≡ t → same a word ≡ t
told a word e w q = sym (same_by a word) ∙ sym (rw w at e) ∙ q

module _ (s d : List ℕ) where
  pub parsed_long : 1000 < length s → says None d ≡ parsed_of s d
  unfolding parsed_of
  parsed_long h = rw (lt-leb (length s) 1000 h)

  pub parsed_one : length s ≤ 1000 → fields_of s ≡ s ∷ [] → says None d ≡ parsed_of s d
  unfolding parsed_of
  parsed_one h e = rw (le-leb (length s) 1000 h, e) (go (same s tick_word) (same s setup_word))
    where
      go : (t u : Bool) → says None d ≡ cond t (says None d) (says (cond u None None) d)
      go true u = refl
      go false true = refl
      go false false = refl

  -- what the line is by its word, which is the one or not, and the other or not
  pub parsed_word :
      (w : List ℕ) (fs : List (List ℕ)) (t u : Bool)
      → length s ≤ 1000
      → fields_of s ≡ w ∷ fs
      → same w tick_word ≡ t
      → same w setup_word ≡ u
      → cond t (tick_line fs d) (says (cond u (setup_line fs) None) d) ≡ parsed_of s d
  unfolding parsed_of
  parsed_word w fs t u h e et eu = rw (le-leb (length s) 1000 h, e, et, eu)
