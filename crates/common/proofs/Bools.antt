-- Tests as facts, beside those of the library. Assumes nothing.
use mathlib.Core.Bool.{Bool, true, false, not, ◌&&◌, ◌||◌, false≢true}
use mathlib.Core.Logic.{◌⊎◌, inl, inr}
use mathlib.Core.Path.{◌≡◌, refl, sym, subst, ◌∙◌}
use Prim.Native.Nat.{ℕ, zero, suc, ◌≤◌, ◌<◌}
use native.Mathlib.Omega.{arith}
use lib.Dec.{T, leb, leb→le, le→leb}
use lib.Ieee.Fits.{and_i, and_l, and_r}
use borrow.Author.Tests.{not-true, not-false, leb-true, leb-false, lt-leb}
use Rattle.common.specs.Tests.{between}

pub holds : {a : Bool} → a ≡ true → T a
holds e = subst T (sym e) tt

pub is_true : (a : Bool) → T a → a ≡ true
is_true true t = refl
is_true false t = absurd t

pub is_false : (a : Bool) → (T a → ⊥) → a ≡ false
is_false true n = absurd (n tt)
is_false false n = refl

-- the answer that a test of the code got
pub said_no : {r t : Bool} → r ≡ t → not r ≡ true → t ≡ false
said_no {r = r} e n = sym e ∙ not-true r n

pub said_yes : {r t : Bool} → r ≡ t → not r ≡ false → t ≡ true
said_yes {r = r} e n = sym e ∙ not-false r n

module _ (a b : Bool) where
  pub or_l : T a → T (a || b)
  or_l t = rw (is_true a t) tt

  pub or_r : T b → T (a || b)
  or_r t = go a
    where
      go : (c : Bool) → T (c || b)
      go true = tt
      go false = t

pub and_first : (a b : Bool) → (a && b) ≡ true → a ≡ true
and_first true b e = refl
and_first false b e = e

pub and_second : (a b : Bool) → (a && b) ≡ true → b ≡ true
and_second true b e = e
and_second false b e = absurd (false≢true e)

pub and_false : (a : Bool) → (a && false) ≡ false
and_false true = refl
and_false false = refl

-- implication of tests
abbrev pub imp : Bool → Bool → Bool
imp a b = not a || b

pub mp : (a b : Bool) → T (imp a b) → T a → T b
mp true b i t = i
mp false b i t = absurd t

pub imp_of : (a b : Bool) → (T a → T b) → T (imp a b)
imp_of true b f = f tt
imp_of false b f = tt

module _ (first last n : ℕ) where
  pub between_of : first ≤ n → n ≤ last → T (between first last n)
  between_of a b = and_i (leb first n) (leb n last) (le→leb first n a) (le→leb n last b)

  pub between_lo : T (between first last n) → first ≤ n
  between_lo t = leb→le first n (and_l (leb first n) (leb n last) t)

  pub between_hi : T (between first last n) → n ≤ last
  between_hi t = leb→le n last (and_r (leb first n) (leb n last) t)

  pub inside : first ≤ n → n ≤ last → between first last n ≡ true
  inside a b = is_true (between first last n) (between_of a b)

  pub below : n < first → between first last n ≡ false
  below h = rw (lt-leb first n h)

  pub above : last < n → between first last n ≡ false
  above h = rw (lt-leb n last h) (and_false (leb first n))

-- from a on: a itself or later
pub at_or_past : (a n : ℕ) → a ≤ n → (n ≡ a) ⊎ (suc a ≤ n)
at_or_past a n h = go (leb n a) refl
  where
    go : (b : Bool) → leb n a ≡ b → (n ≡ a) ⊎ (suc a ≤ n)
    go true e = let g : n ≤ a = leb-true n a e in inl (omega arith)
    go false e = inr (leb-false n a e)

-- a test that is computed at each number up to n
abbrev pub up_to : ℕ → (ℕ → Bool) → Bool
up_to zero f = f zero
up_to (suc n) f = f (suc n) && up_to n f

pub up_to_at : (n : ℕ) (f : ℕ → Bool) → T (up_to n f) → (k : ℕ) → k ≤ n → T (f k)
up_to_at zero f t k h = let e : zero ≡ k = omega arith in subst (λ (m : ℕ). T (f m)) e t
up_to_at (suc n) f t k h = go (at_or_past k (suc n) h) (up_to_at n f (and_r (f (suc n)) (up_to n f) t) k)
  where
    go : (suc n ≡ k) ⊎ (suc k ≤ suc n) → (k ≤ n → T (f k)) → T (f k)
    go (inl e) r = subst (λ (m : ℕ). T (f m)) e (and_l (f (suc n)) (up_to n f) t)
    go (inr g) r = r (omega arith)

-- what the last arm of a `match` knows that has one for each number below n
abbrev pub NoneBelow : ℕ → ℕ → Type 0
NoneBelow zero x = Unit
NoneBelow (suc n) x = NoneBelow n x × (x ≡ n → ⊥)

pub none_below : (n x : ℕ) → NoneBelow n x → n ≤ x
none_below zero x r = omega arith
none_below (suc n) x r = let b : n ≤ x = none_below n x r.0 in let d : x ≡ n → ⊥ = r.1 in omega arith
