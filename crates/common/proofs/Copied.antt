-- A list copied over a buffer, the whole of it or its beginning, and a byte stored in a buffer of one. Assumes nothing.
use mathlib.Core.List.{List, [], ◌∷◌, ◌++◌, append-nil}
use mathlib.Core.Path.{◌≡◌, refl, ap, ◌∙◌}
use Prim.Native.Nat.{ℕ, ◌-◌, ◌≤◌}
use native.Mathlib.Omega.{arith}
use lib.ListN.{length, take, drop, set, length-append, drop_of_length-le}
use lib.Seq.{take_at, drop_at, take-length}

-- w copied over l
module _ (w l p : List ℕ) (copied : p ≡ take (length w) w ++ drop (length w) l) where
  begun : p ≡ w ++ drop (length w) l
  begun = copied ∙ ap (λ x. x ++ drop (length w) l) (take-length w)

  pub copied_all : length l ≤ length w → p ≡ w
  copied_all h = begun ∙ ap (λ x. w ++ x) (drop_of_length-le l h) ∙ append-nil w

  -- then q over what is behind w
  pub copied_both : (n : ℕ) (q : List ℕ) → length w ≡ n → take n p ++ (q ++ drop (length p - n) (drop n p)) ≡ w ++ q
  copied_both n q e =
      let rest = drop (length w) l in
      let room : length rest ≤ length (w ++ rest) - n = rw length-append (omega arith) in
      rw (begun, take_at w rest n e, drop_at w rest n e, drop_of_length-le rest room, append-nil q)

-- w written over the first n of l, then q over what is behind w
pub written_both :
    (w l q : List ℕ) (n : ℕ)
    → length w ≡ n
    → take n (w ++ drop n l) ++ (q ++ drop (length (w ++ drop n l) - n) (drop n (w ++ drop n l))) ≡ w ++ q
written_both w l q n e =
    let copied : w ++ drop n l ≡ take (length w) w ++ drop (length w) l = rw (take-length, e) refl in
    copied_both w l (w ++ drop n l) copied n q e

pub one_byte : (l : List ℕ) (v : ℕ) → length l ≡ 1 → set l 0 v ≡ v ∷ []
one_byte [] v e = absurd (omega arith)
one_byte (x ∷ []) v e = refl
one_byte (x ∷ y ∷ l) v e = absurd (omega arith)
