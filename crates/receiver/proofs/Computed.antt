-- What the checker computes at every status and every mailbox, 256 times 8, and tests of equality as facts. Assumes nothing.
use mathlib.Core.Bool.{Bool, true, false, beq}
use mathlib.Core.List.{List, [], ◌∷◌}
use mathlib.Core.Path.{◌≡◌, refl}
use Prim.Native.Nat.{ℕ, ◌<◌}
use native.Mathlib.Omega.{arith}
use lib.Dec.{T, eqb, eqb→eq}
use lib.Ieee.Fits.{and_l, and_r}
use Rattle.common.specs.Tests.{same}
use Rattle.common.proofs.Bools.{up_to, up_to_at}
use Rattle.receiver.specs.Registers.{mailbox_count}

abbrev pub everywhere : (ℕ → ℕ → Bool) → Bool
everywhere test = up_to 255 (λ x. up_to 7 (test x))

pub computed : (test : ℕ → ℕ → Bool) → T (everywhere test) → (x m : ℕ) → x < 256 → m < mailbox_count → T (test x m)
computed test t x m byte low = up_to_at 7 (test x) (up_to_at 255 (λ x. up_to 7 (test x)) t x (omega arith)) m (omega arith)

pub same_answers : (a b : Bool) → T (beq a b) → a ≡ b
same_answers true true t = refl
same_answers true false t = absurd t
same_answers false true t = absurd t
same_answers false false t = refl

pub same_lists : (a b : List ℕ) → T (same a b) → a ≡ b
same_lists [] [] t = refl
same_lists [] (y ∷ b) t = absurd t
same_lists (x ∷ a) [] t = absurd t
same_lists (x ∷ a) (y ∷ b) t = rw (eqb→eq x y (and_l (eqb x y) (same a b) t), same_lists a b (and_r (eqb x y) (same a b) t))
