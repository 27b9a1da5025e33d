-- A list by its elements. Assumes nothing.
use mathlib.Core.List.{List, ◌∷◌}
use mathlib.Core.Path.{◌≡◌, refl, sym, ap, ◌∙◌}
use Prim.Native.Nat.{ℕ, zero, suc, ◌+◌, ◌≤◌}
use native.Mathlib.Omega.{arith}
use lib.ListN.{length, get_or, drop}
use lib.Seq.{drop-cons}

module _ {A : Type 0} (d : A) (l : List A) where
  -- k elements from place i on, and then the rest
  abbrev pub spelled : ℕ → ℕ → List A
  spelled zero i = drop i l
  spelled (suc k) i = get_or l i d ∷ spelled k (suc i)

  pub spelled_is : (k i : ℕ) → i + k ≤ length l → spelled k i ≡ drop i l
  spelled_is zero i h = refl
  spelled_is (suc k) i h = ap (λ r. get_or l i d ∷ r) (spelled_is k (suc i) (omega arith)) ∙ sym (drop-cons l i d (omega arith))
