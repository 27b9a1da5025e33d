-- A test at each place below n, and a loop that tests each record of a list of bytes. Assumes nothing.
use mathlib.Core.Bool.{Bool, true, false, not, ◌&&◌}
use mathlib.Core.List.{List}
use mathlib.Core.Logic.{⊎_elim}
use mathlib.Core.Path.{◌≡◌, refl, sym, ap, ◌∙◌}
use Prim.Native.Nat.{ℕ, zero, suc, ◌+◌, ◌-◌, ◌*◌, ◌<◌}
use native.Mathlib.Nat.{le_of_suc-le-suc, eq-or-lt_of_le}
use native.Mathlib.Numerals.{add-one}
use native.Mathlib.Omega.{arith}
use lib.Dec.{T}
use lib.Ieee.Fits.{and_i, and_l, and_r}
use lib.ListN.{take, drop}
use Rattle.common.specs.Parts.{part, every}
use Rattle.common.proofs.Joined.{cut}
use Rattle.common.proofs.Bools.{said_no, and_false}

every_not : (n i : ℕ) (f : ℕ → Bool) → i < n → f i ≡ false → every n f ≡ false
unfolding every
every_not zero i f h e = absurd (omega arith)
every_not (suc n) i f h e =
    ⊎_elim
    (λ q. ap (λ (b : Bool). every n f && b) (ap f (sym q) ∙ e) ∙ and_false (every n f))
    (λ lt. rw (every_not n i f lt e))
    (eq-or-lt_of_le (le_of_suc-le-suc h))

every_more : (i : ℕ) (f : ℕ → Bool) → every i f ≡ true → f i ≡ true → every (i + 1) f ≡ true
unfolding every
every_more i f e g = rw (add-one, e, g)

pub every_of : (n : ℕ) (f : ℕ → Bool) → ((k : ℕ) → k < n → T (f k)) → T (every n f)
unfolding every
every_of zero f t = tt
every_of (suc n) f t = and_i (every n f) (f n) (every_of n f (λ k h. t k (omega arith))) (t n (omega arith))

pub every_at : (n : ℕ) (f : ℕ → Bool) → T (every n f) → (k : ℕ) → k < n → T (f k)
unfolding every
every_at zero f t k h = absurd (omega arith)
every_at (suc n) f t k h =
    ⊎_elim
    (λ q. rw q (and_r (every n f) (f n) t))
    (λ lt. every_at n f (and_l (every n f) (f n) t) k lt)
    (eq-or-lt_of_le (le_of_suc-le-suc h))

-- The records as the code cuts them out; r is what the code's test of record i said.
module _ (test : List ℕ → Bool) (head size : ℕ) (bytes : List ℕ) where
  abbrev pub each : ℕ → Bool
  each n = every n (λ k. test (part head size k bytes))

  abbrev tested : ℕ → Bool
  tested i = test (take (head + size * i + size - (head + size * i)) (drop (head + size * i) bytes))

  module _ (i : ℕ) {r : Bool} (e : r ≡ tested i) where
    pub each_not : (n : ℕ) → i < n → not r ≡ true → false ≡ each n
    each_not n h no-said = sym (every_not n i (λ k. test (part head size k bytes)) h
        (said_no (e ∙ ap test (cut head size i _ bytes refl)) no-said))
