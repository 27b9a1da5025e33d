-- Texts: a number grows with its digits, what the digits from a place on say, and every line has a field. Assumes nothing.
use mathlib.Core.Bool.{Bool, true, false, cond, ◌&&◌}
use mathlib.Core.List.{List, [], ◌∷◌}
use mathlib.Core.Path.{◌≡◌, refl}
use Prim.Native.Nat.{ℕ, ◌+◌, ◌*◌, ◌≤◌, ◌<◌}
use native.Mathlib.Nat.{mul-le-mul_right}
use native.Mathlib.Numerals.{add-one}
use native.Mathlib.Omega.{arith}
use lib.Dec.{eqb, leb}
use lib.ListN.{length, get_or, drop, drop_of_length-le}
use lib.Seq.{drop-cons}
use borrow.Author.Tests.{lt-ltb, le-ltb, le-leb, lt-leb}
use Rattle.std.specs.Prelude.{Option, Some, None}
use Rattle.common.specs.Texts.{digit_value, all_digits, value_from, number_in, push, fields_of}
use Rattle.common.proofs.Bools.{and_false}

pub value_grows : (base n : ℕ) (s : List ℕ) → 0 < base → n ≤ value_from base n s
value_grows base n [] h = omega arith
value_grows base n (c ∷ s) h = omega (arith, mul-le-mul_right n h, value_grows base (base * n + digit_value c) s h)

-- a number by digits behind a number already there
unfoldable pub number_from : ℕ → ℕ → ℕ → List ℕ → Option ℕ
number_from base most n s = cond (all_digits base s && leb (value_from base n s) most) (Some (value_from base n s)) None

module _ (base most : ℕ) (s : List ℕ) where
  pub number_begins : number_in base most s ≡ number_from base most 0 s
  unfolding number_in number_from
  number_begins = refl

  module _ (n : ℕ) where
    pub number_too_great : 0 < base → most < n → number_from base most n s ≡ None
    unfolding number_from
    number_too_great h g = rw (lt-leb (value_from base n s) most (omega (arith, value_grows base n s h)), and_false (all_digits base s))

    module _ (i : ℕ) where
      pub number_more :
          (m : ℕ)
          → i < length s
          → digit_value (get_or s i 0) < base
          → m ≡ base * n + digit_value (get_or s i 0)
          → number_from base most n (drop i s) ≡ number_from base most m (drop (i + 1) s)
      unfolding number_from
      number_more m h d e = rw (drop-cons s i 0 h, lt-ltb _ _ d, e, add-one i)

      pub number_not : i < length s → base ≤ digit_value (get_or s i 0) → number_from base most n (drop i s) ≡ None
      unfolding number_from
      number_not h d = rw (drop-cons s i 0 h, le-ltb _ _ d)

      pub number_ends : length s ≤ i → n ≤ most → number_from base most n (drop i s) ≡ Some n
      unfolding number_from
      number_ends h g = rw (drop_of_length-le s h, le-leb n most g)

pub some_field : (s : List ℕ) (Q : List (List ℕ) → Type 0) → ((f : List ℕ) (fs : List (List ℕ)) → Q (f ∷ fs)) → Q (fields_of s)
some_field [] Q q = q [] []
some_field (c ∷ s) Q q = go (eqb c 9) (fields_of s)
  where
    go : (b : Bool) (fs : List (List ℕ)) → Q (cond b ([] ∷ fields_of s) (push c fs))
    go true fs = q [] (fields_of s)
    go false [] = q (c ∷ []) []
    go false (f ∷ fs) = q (c ∷ f) fs
