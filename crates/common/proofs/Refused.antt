-- What the number of a refusal says of the questions, and what a call leaves by it. Assumes nothing.
use mathlib.Core.Bool.{Bool, true, false, not, cond, ◌&&◌}
use mathlib.Core.List.{List, [], ◌∷◌, ◌++◌}
use mathlib.Core.Path.{◌≡◌, refl}
use Prim.Native.Nat.{ℕ, zero, suc}
use native.Mathlib.Omega.{arith}
use lib.Dec.{T, T_not, eqb}
use lib.Ieee.Fits.{and_l, and_r}
use borrow.Author.Tests.{eq-eqb}
use Rattle.std.specs.Prelude.{Ok, Err}
use Rattle.common.specs.Refusals.{Asked, asks, refusal_of, done_unless, number_of}
use Rattle.common.proofs.Bools.{holds}

-- a test of every number, which the checker computes
abbrev pub every_number : (ℕ → Bool) → List Asked → Bool
every_number f [] = true
every_number f (row ∷ rows) = f row.number && every_number f rows

-- of the number that comes out, and 0
pub number_passes : (f : ℕ → Bool) (rows : List Asked) → T (f 0) → T (every_number f rows) → T (f (refusal_of rows))
number_passes f [] z t = z
number_passes f (row ∷ rows) z t = go row.met (number_passes f rows z (and_r (f row.number) (every_number f rows) t))
  where
    go : (b : Bool) → T (f (refusal_of rows)) → T (f (cond b (refusal_of rows) row.number))
    go true r = r
    go false r = and_l (f row.number) (every_number f rows) t

-- 0 is no row's number
abbrev pub without_0 : List Asked → Bool
without_0 = every_number (λ n. not (eqb n 0))

-- where nothing is refused every question got a yes
abbrev pub AllMet : List Asked → Type 0
AllMet [] = Unit
AllMet (row ∷ rows) = T row.met × AllMet rows

module _ (row : Asked) (rows : List Asked) (t : T (without_0 (row ∷ rows))) where
  this : Bool
  this = not (eqb row.number 0)

  not_this : row.number ≡ 0 → ⊥
  unfolding this
  not_this e = T_not (eqb row.number 0) (and_l this (without_0 rows) t) (holds (eq-eqb row.number 0 e))

  others : T (without_0 rows)
  unfolding this
  others = and_r this (without_0 rows) t

  met_first : refusal_of (row ∷ rows) ≡ 0 → T row.met × (refusal_of rows ≡ 0)
  met_first = go row.met
    where
      go : (b : Bool) → cond b (refusal_of rows) row.number ≡ 0 → T b × (refusal_of rows ≡ 0)
      go true e = (tt, e)
      go false e = absurd (not_this e)

pub all_met : (rows : List Asked) → T (without_0 rows) → refusal_of rows ≡ 0 → AllMet rows
all_met [] t e = tt
all_met (row ∷ rows) t e =
    let first = met_first row rows t e in
    (first.0, all_met rows (others row rows t) first.1)

-- a question that is asked as a call asks it is a row by itself
pub row_asked :
    {R : Type 0} (number : R → ℕ) (met : Bool) (refusal : R)
    → number_of number (cond met (Ok tt) (Err refusal)) ≡ refusal_of (asks met (number refusal) ∷ [])
row_asked number true refusal = refl
row_asked number false refusal = refl

-- rows behind rows
pub first_refused : (a b : List Asked) → (refusal_of a ≡ 0 → ⊥) → refusal_of a ≡ refusal_of (a ++ b)
first_refused [] b n = absurd (n refl)
first_refused (row ∷ a) b n = go row.met (first_refused a b) n
  where
    go :
        (m : Bool)
        → ((refusal_of a ≡ 0 → ⊥) → refusal_of a ≡ refusal_of (a ++ b))
        → (cond m (refusal_of a) row.number ≡ 0 → ⊥)
        → cond m (refusal_of a) row.number ≡ cond m (refusal_of (a ++ b)) row.number
    go true r n = r n
    go false r n = refl

pub then_asked : (a b : List Asked) → AllMet a → refusal_of b ≡ refusal_of (a ++ b)
then_asked [] b m = refl
then_asked (row ∷ a) b m = go row.met m.0 (then_asked a b m.1)
  where
    go : (c : Bool) → T c → refusal_of b ≡ refusal_of (a ++ b) → refusal_of b ≡ cond c (refusal_of (a ++ b)) row.number
    go true t e = e
    go false t e = absurd t

-- where nothing is refused the rows in front refuse nothing
pub none_refused : (a b : List Asked) → refusal_of (a ++ b) ≡ 0 → refusal_of a ≡ 0
none_refused [] b e = refl
none_refused (row ∷ a) b e = go row.met (none_refused a b) e
  where
    go :
        (m : Bool)
        → (refusal_of (a ++ b) ≡ 0 → refusal_of a ≡ 0)
        → cond m (refusal_of (a ++ b)) row.number ≡ 0
        → cond m (refusal_of a) row.number ≡ 0
    go true r e = r e
    go false r e = e

-- what is left by the number n, which the code has as r
module _ {A : Type 0} (refused : ℕ → A) (done : A) where
  pub carried_out : {r n : ℕ} → r ≡ n → r ≡ 0 → done ≡ done_unless n refused done
  unfolding done_unless
  carried_out e z = rw (← e, z)

  pub turned_away : {r n : ℕ} → r ≡ n → (r ≡ 0 → ⊥) → refused r ≡ done_unless n refused done
  unfolding done_unless
  turned_away {r = r} e n = rw (← e) (go r n)
    where
      go : (m : ℕ) → (m ≡ 0 → ⊥) → refused m ≡ done_unless m refused done
      go zero x = absurd (x refl)
      go (suc m) x = refl

  -- what holds of a refusal and of what is done holds of what is left
  pub either_way : (P : A → Type 0) (n : ℕ) → ((n ≡ 0 → ⊥) → P (refused n)) → (n ≡ 0 → P done) → P (done_unless n refused done)
  unfolding done_unless
  either_way P zero away out = out refl
  either_way P (suc n) away out = away (λ e. omega arith)

  -- the number of what is left passes a test that 0 and every row's number pass
  pub left_passes :
      (number : A → ℕ) (f : ℕ → Bool) (rows : List Asked)
      → ((n : ℕ) → number (refused n) ≡ n)
      → T (f (number done))
      → T (f 0)
      → T (every_number f rows)
      → T (f (number (done_unless (refusal_of rows) refused done)))
  left_passes number f rows same d z t =
      either_way (λ (a : A). T (f (number a))) (refusal_of rows) (λ n. rw (same (refusal_of rows)) (number_passes f rows z t)) (λ e. d)
