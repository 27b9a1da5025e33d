-- Texts and their lines: put together and taken apart again. Assumes nothing.
use mathlib.Core.Bool.{Bool, true, false, cond}
use mathlib.Core.List.{List, [], ◌∷◌, ◌++◌}
use mathlib.Core.Logic.{inl, inr}
use mathlib.Core.Path.{◌≡◌, refl, ap, ◌∙◌}
use Prim.Native.Nat.{ℕ}
use lib.Dec.{eqb}
use borrow.Author.Tests.{eqb-true}
use Rattle.common.specs.Texts.{push}
use Rattle.orders.specs.Lines.{lines_of}
use Rattle.orders.specs.Claims.{closed, opened, Spells, SpelledByItsLines}

abbrev pub Every : (List ℕ → Type 0) → List (List ℕ) → Type 0
Every Q [] = Unit {0}
Every Q (l ∷ ls) = Q l × Every Q ls

-- a line has no line feed in it, and one that is an order is not empty
abbrev pub Whole : List ℕ → Type 0
Whole [] = Unit {0}
Whole (c ∷ l) = (eqb c 10 ≡ false) × Whole l

abbrev pub Filled : List ℕ → Type 0
Filled [] = ⊥
Filled (c ∷ l) = Unit {0}

pub lines_whole : (t : List ℕ) → Every Whole (lines_of t)
lines_whole [] = tt
lines_whole (c ∷ t) = go (eqb c 10) refl (lines_of t) (lines_whole t)
  where
    go : (b : Bool) → eqb c 10 ≡ b → (ls : List (List ℕ)) → Every Whole ls → Every Whole (cond b ([] ∷ ls) (push c ls))
    go true e ls w = (tt, w)
    go false e [] w = ((e, tt), tt)
    go false e (l ∷ ls) (q, w) = ((e, q), w)

-- a line in front of a text
pub ended_line : (l : List ℕ) (t : List ℕ) → Whole l → lines_of (l ++ (10 ∷ t)) ≡ l ∷ lines_of t
ended_line [] t w = refl
ended_line (c ∷ l) t (e, w) = rw (e, ended_line l t w)

pub last_line : (l : List ℕ) → Whole l → Filled l → lines_of l ≡ l ∷ []
last_line [] w f = absurd f
last_line (c ∷ []) (e, w) f = rw e
last_line (c ∷ d ∷ l) (e, w) f = rw (e) (ap (push c) (last_line (d ∷ l) w tt))

pub lines_closed : (ls : List (List ℕ)) → Every Whole ls → lines_of (closed ls) ≡ ls
lines_closed [] w = refl
lines_closed (l ∷ ls) (q, w) = ended_line l (closed ls) q ∙ ap (λ (r : List (List ℕ)). l ∷ r) (lines_closed ls w)

pub lines_opened : (ls : List (List ℕ)) → Every Whole ls → Every Filled ls → lines_of (opened ls) ≡ ls
lines_opened [] w f = refl
lines_opened (l ∷ []) (q, w) (g, f) = last_line l q g
lines_opened (l ∷ m ∷ ls) (q, w) (g, f) = ended_line l (opened (m ∷ ls)) q ∙ ap (λ (r : List (List ℕ)). l ∷ r) (lines_opened (m ∷ ls) w f)

-- every text is its lines put together, the last with a line feed or without
pub text_spelled : SpelledByItsLines
text_spelled [] = inl refl
text_spelled (c ∷ t) = go (eqb c 10) refl (lines_of t) (text_spelled t)
  where
    pushed : (l : List ℕ) (ls : List (List ℕ)) → c ∷ opened (l ∷ ls) ≡ opened ((c ∷ l) ∷ ls)
    pushed l [] = refl
    pushed l (m ∷ ls) = refl

    go : (b : Bool) → eqb c 10 ≡ b → (ls : List (List ℕ)) → Spells ls t → Spells (cond b ([] ∷ ls) (push c ls)) (c ∷ t)
    go true e ls (inl q) = inl (rw (eqb-true c 10 e, q))
    go true e [] (inr q) = inl (rw (eqb-true c 10 e, q))
    go true e (m ∷ ls) (inr q) = inr (rw (eqb-true c 10 e, q))
    go false e [] (inl q) = inr (rw q)
    go false e [] (inr q) = inr (rw q)
    go false e (l ∷ ls) (inl q) = inl (ap (λ (s : List ℕ). c ∷ s) q)
    go false e (l ∷ ls) (inr q) = inr (ap (λ (s : List ℕ). c ∷ s) q ∙ pushed l ls)
