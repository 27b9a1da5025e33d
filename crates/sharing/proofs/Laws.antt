-- The laws of the level. They hold however it is found. Assumes nothing.
use mathlib.Core.Path.{◌≡◌, refl, ap, ◌∙◌}
use mathlib.Core.Logic.{◌⊎◌, inl, inr}
use Prim.Native.Nat.{ℕ, zero, suc, ◌+◌, ◌-◌, ◌*◌, ◌/◌, ◌≤◌, ◌<◌, min}
use native.Mathlib.Nat.{le_antisymm, le_trans, lt_of_not-le, not-le_of_lt, div-mul-le_self, div-le_self}
use native.Mathlib.Numerals.{unary_clauses}
use native.Mathlib.Omega.{arith}
use lib.Dec.{leb}
use borrow.Author.Tests.{leb-true, le-leb}
use Rattle.sharing.specs.Level.{sum, total_at, fits, level_of, one_if_any, equal_part}
use Rattle.sharing.proofs.Sums.{sum_le, sum_times, largest_within, largest_passes, largest_most, largest_same}

pub total_is : (n : ℕ) (wants : ℕ → ℕ) (level : ℕ) → total_at n wants level ≡ sum n (λ k. min (wants k) level)
unfolding total_at
total_is n wants level = refl

module _ (n : ℕ) (wants : ℕ → ℕ) where
  -- nobody gets less at a higher level
  total_grows : (i j : ℕ) → i ≤ j → total_at n wants i ≤ total_at n wants j
  unfolding total_at
  total_grows i j h = sum_le n (λ k. min (wants k) i) (λ k. min (wants k) j) (λ k x. omega arith)

-- what is given out at a level is at most the level for each want above 0
total_at_most : (n : ℕ) (wants : ℕ → ℕ) (level : ℕ) → total_at n wants level ≤ sum n (λ k. one_if_any (wants k)) * level
unfolding total_at
total_at_most n wants level =
    omega (arith, sum_le n (λ k. min (wants k) level) (λ k. one_if_any (wants k) * level) (λ k x. one (wants k)), sum_times n (λ k. one_if_any (wants k)) level)
  where
    one : (want : ℕ) → min want level ≤ one_if_any want * level
    one zero = omega arith
    one (suc want) = omega arith

total_at_zero : (n : ℕ) (wants : ℕ → ℕ) → total_at n wants 0 ≡ 0
unfolding total_at
total_at_zero zero wants = refl
total_at_zero (suc n) wants = omega (arith, total_at_zero n wants)

module _ (n : ℕ) (wants : ℕ → ℕ) (limit : ℕ) where
  pub level_within : level_of n wants limit ≤ limit
  unfolding level_of
  level_within = largest_within (fits n wants limit) limit

  -- at the level the sum fits
  pub level_fits : total_at n wants (level_of n wants limit) ≤ limit
  unfolding level_of
  level_fits =
      leb-true (total_at n wants (level_of n wants limit)) limit
      (largest_passes (fits n wants limit) limit (le-leb (total_at n wants 0) limit (omega (arith, total_at_zero n wants))))

  -- nothing larger up to the limit fits
  pub level_largest : (j : ℕ) → j ≤ limit → total_at n wants j ≤ limit → j ≤ level_of n wants limit
  unfolding level_of
  level_largest j h t = largest_most (fits n wants limit) limit j h (le-leb (total_at n wants j) limit t)

  -- so it is known by two facts: it fits, and one more is above the limit or does not fit
  pub level_is : (l : ℕ) → l ≤ limit → total_at n wants l ≤ limit → (l ≡ limit) ⊎ (limit < total_at n wants (l + 1)) → l ≡ level_of n wants limit
  level_is l h t more = le_antisymm (level_largest l h t) (below more)
    where
      below : (l ≡ limit) ⊎ (limit < total_at n wants (l + 1)) → level_of n wants limit ≤ l
      below (inl e) = omega (arith, level_within)
      below (inr x) =
          (let y : level_of n wants limit < l + 1
          = lt_of_not-le (λ z. not-le_of_lt x (le_trans (total_grows n wants (l + 1) (level_of n wants limit) z) level_fits)) in
          omega arith)

  -- nobody is held below an equal part
  pub level_shares : equal_part n wants limit ≤ level_of n wants limit
  unfolding equal_part
  level_shares =
      level_largest (limit / count) (div-le_self limit count)
      (omega (arith, total_at_most n wants (limit / count), div-mul-le_self limit count))
    where
      count : ℕ
      count = sum n (λ k. one_if_any (wants k))

-- places that want nothing do not count
total_fewer : (n more : ℕ) (wants : ℕ → ℕ) (l : ℕ) → ((k : ℕ) → n ≤ k → wants k ≡ 0) → total_at (n + more) wants l ≡ total_at n wants l
unfolding total_at
total_fewer n zero wants l h = simp unary_clauses
total_fewer n (suc more) wants l h = simp unary_clauses (omega (arith, total_fewer n more wants l h, h (n + more) (omega arith)))

pub level_fewer : (n m : ℕ) (wants : ℕ → ℕ) (limit : ℕ) → n ≤ m → ((k : ℕ) → n ≤ k → wants k ≡ 0) → level_of m wants limit ≡ level_of n wants limit
unfolding level_of
level_fewer n m wants limit g h = largest_same (fits m wants limit) (fits n wants limit) (λ l. ap (λ (x : ℕ). leb x limit) (same l)) limit
  where
    whole : m ≡ n + (m - n)
    whole = omega arith

    same : (l : ℕ) → total_at m wants l ≡ total_at n wants l
    same l = ap (λ (x : ℕ). total_at x wants l) whole ∙ total_fewer n (m - n) wants l h

-- the level looks at the places' wants alone
total_same : (n : ℕ) (v w : ℕ → ℕ) (l : ℕ) → ((k : ℕ) → k < n → v k ≡ w k) → total_at n v l ≡ total_at n w l
unfolding total_at
total_same zero v w l h = refl
total_same (suc n) v w l h = rw (total_same n v w l (λ k x. h k (omega arith)), h n (omega arith))

pub level_same : (n : ℕ) (v w : ℕ → ℕ) (limit : ℕ) → ((k : ℕ) → k < n → v k ≡ w k) → level_of n v limit ≡ level_of n w limit
unfolding level_of
level_same n v w limit h =
    largest_same (fits n v limit) (fits n w limit) (λ l. ap (λ (x : ℕ). leb x limit) (total_same n v w l h)) limit
