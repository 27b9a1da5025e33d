-- Sums over places, and the largest number that passes a test. Assumes nothing.
use mathlib.Core.Bool.{Bool, true, false, cond}
use mathlib.Core.Path.{◌≡◌, refl, sym, ap, ◌∙◌}
use mathlib.Core.Logic.{◌⊎◌, inl, inr}
use mathlib.Core.List.{List, [], ◌∷◌}
use Prim.Native.Nat.{ℕ, zero, suc, ◌+◌, ◌*◌, ◌≤◌, ◌<◌}
use native.Mathlib.Nat.{le-suc_iff}
use native.Mathlib.Omega.{arith}
use lib.ListN.{length}
use Rattle.sharing.specs.Level.{want_of, sum, largest}

pub sum_le : (n : ℕ) (f g : ℕ → ℕ) → ((k : ℕ) → k < n → f k ≤ g k) → sum n f ≤ sum n g
sum_le zero f g h = omega arith
sum_le (suc n) f g h = omega (arith, sum_le n f g (λ k x. h k (omega arith)), h n (omega arith))

pub sum_times : (n : ℕ) (f : ℕ → ℕ) (e : ℕ) → sum n (λ k. f k * e) ≡ sum n f * e
sum_times zero f e = omega arith
sum_times (suc n) f e = omega (arith, sum_times n f e)

module _ (test : ℕ → Bool) where
  pub largest_within : (top : ℕ) → largest test top ≤ top
  largest_within zero = omega arith
  largest_within (suc top) = go (test (suc top)) (largest_within top)
    where
      go : (b : Bool) → largest test top ≤ top → cond b (suc top) (largest test top) ≤ suc top
      go true r = omega arith
      go false r = omega arith

  pub largest_passes : (top : ℕ) → test 0 ≡ true → test (largest test top) ≡ true
  largest_passes zero z = z
  largest_passes (suc top) z = go (test (suc top)) refl (largest_passes top z)
    where
      go : (b : Bool) → test (suc top) ≡ b → test (largest test top) ≡ true → test (cond b (suc top) (largest test top)) ≡ true
      go true e r = e
      go false e r = r

  pub largest_most : (top j : ℕ) → j ≤ top → test j ≡ true → j ≤ largest test top
  largest_most zero j h t = h
  largest_most (suc top) j h t = go (test (suc top)) refl (le-suc_iff.0 h) (λ x. largest_most top j x t)
    where
      go : (b : Bool) → test (suc top) ≡ b → (j ≤ top) ⊎ (j ≡ suc top) → (j ≤ top → j ≤ largest test top) → j ≤ cond b (suc top) (largest test top)
      go true e d r = h
      go false e (inr q) r = (let z : ◌≡◌ {A = Bool} true false = sym t ∙ ap test q ∙ e in let y : ◌≡◌ {A = ℕ} 0 1 = cc in omega arith)
      go false e (inl x) r = r x

pub largest_same : (f g : ℕ → Bool) → ((j : ℕ) → f j ≡ g j) → (top : ℕ) → largest f top ≡ largest g top
largest_same f g e zero = refl
largest_same f g e (suc top) =
    ap (λ (b : Bool). cond b (suc top) (largest f top)) (e (suc top))
    ∙ ap (λ (m : ℕ). cond (g (suc top)) (suc top) m) (largest_same f g e top)

-- a sum over the members of a list
abbrev pub sum_of_each : (ℕ → ℕ) → List ℕ → ℕ
sum_of_each f [] = 0
sum_of_each f (want ∷ more) = f want + sum_of_each f more

-- a sum taken from the front
pub sum_front : (n : ℕ) (f : ℕ → ℕ) → sum (suc n) f ≡ f 0 + sum n (λ k. f (suc k))
sum_front zero f = omega arith
sum_front (suc n) f = omega (arith, sum_front n f)

pub sum_of_each_lem : (f : ℕ → ℕ) (members : List ℕ) → sum (length members) (λ k. f (want_of members k)) ≡ sum_of_each f members
sum_of_each_lem f [] = refl
sum_of_each_lem f (want ∷ more) = sum_front (length more) (λ k. f (want_of (want ∷ more) k)) ∙ ap (λ (x : ℕ). f want + x) (sum_of_each_lem f more)
