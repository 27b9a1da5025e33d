-- What a store leaves of the receiver's other bytes: one byte, or a frame put into a mailbox. Assumes nothing.
use mathlib.Core.List.{List, [], ◌∷◌, ◌++◌, append_assoc}
use mathlib.Core.Logic.{◌⊎◌, inl, inr}
use mathlib.Core.Path.{◌≡◌, refl, ap, ◌∙◌}
use Prim.Native.Nat.{ℕ, suc, ◌+◌, ◌-◌, ◌≤◌, ◌<◌}
use native.Mathlib.Omega.{arith}
use lib.ListN.{length, take, drop, set, get_or}
use lib.Seq.{sets, sets-eq, take_at, drop_at, length-take-le, drop-set-lt, drop-set-add, take-set-le, get_or-set_other}

-- n bytes from place a on, and bytes from place i on that are apart from them
module _ (a n : ℕ) where
  abbrev Apart : ℕ → ℕ → Type 0
  Apart i size = (i + size ≤ a) ⊎ (a + n ≤ i)

  pub part_set : (s : List ℕ) (i v : ℕ) → Apart i 1 → take n (drop a (set s i v)) ≡ take n (drop a s)
  part_set s i v (inl h) = ap (take n) (drop-set-lt a s i v (omega arith))
  part_set s i v (inr h) =
      let e : i ≡ a + (i - a) = omega arith in
      let far : n ≤ i - a = omega arith in
      ap (λ (j : ℕ). take n (drop a (set s j v))) e
      ∙ ap (take n) (drop-set-add a s (i - a) v)
      ∙ take-set-le n (drop a s) (i - a) v far

  pub part_sets : (bytes s : List ℕ) (i : ℕ) → Apart i (length bytes) → take n (drop a (sets s i bytes)) ≡ take n (drop a s)
  part_sets [] s i h = refl
  part_sets (v ∷ bytes) s i h = part_sets bytes (set s i v) (suc i) (rest h) ∙ part_set s i v (first h)
    where
      first : Apart i (suc (length bytes)) → Apart i 1
      first (inl g) = inl (omega arith)
      first (inr g) = inr g

      rest : Apart i (suc (length bytes)) → Apart (suc i) (length bytes)
      rest (inl g) = inl (omega arith)
      rest (inr g) = inr (omega arith)

-- what is put is there
pub part_put : (s bytes : List ℕ) (i n : ℕ) → length bytes ≡ n → i + n ≤ length s → take n (drop i (sets s i bytes)) ≡ bytes
part_put s bytes i n e h =
    let fits : i + length bytes ≤ length s = omega arith in
    let begun : length (take i s) ≡ i = length-take-le i s (omega arith) in
    ap (λ (l : List ℕ). take n (drop i l)) (sets-eq bytes s i fits ∙ append_assoc (take i s) bytes (drop (i + length bytes) s))
    ∙ ap (take n) (drop_at (take i s) (bytes ++ drop (i + length bytes) s) i begun)
    ∙ take_at bytes (drop (i + length bytes) s) n e

-- a byte in front of what is put
pub byte_before : (bytes s : List ℕ) (i j : ℕ) → j < i → get_or (sets s i bytes) j 0 ≡ get_or s j 0
byte_before [] s i j h = refl
byte_before (v ∷ bytes) s i j h = byte_before bytes (set s i v) (suc i) j (omega arith) ∙ get_or-set_other s i j v 0 (λ e. omega arith)
