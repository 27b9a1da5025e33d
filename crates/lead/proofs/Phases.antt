-- Where each phase leads: each fact is one test, computed for every phase, verdict and move. Assumes nothing.
use mathlib.Core.Bool.{Bool, true, false, not, ◌&&◌, ◌||◌}
use mathlib.Core.Path.{◌≡◌, refl}
use Prim.Native.Nat.{ℕ, ◌+◌, ◌≤◌}
use lib.Dec.{T, leb, eqb}
use lib.Ieee.Fits.{and_l, and_r}
use Rattle.std.specs.Prelude.{⊤, Result, Ok, Err}
use Rattle.common.specs.Tests.{between}
use Rattle.lead.specs.Names.{no_reason}
use Rattle.lead.specs.Questions.{reason_of}
use Rattle.lead.specs.Moves.{next_phase}
use Rattle.lead.specs.declared.questions.Stop.{Stop}
use Rattle.lead.specs.declared.questions.Stop.TheVariants.{Urgent, Ordinary}
use Rattle.common.proofs.Bools.{imp, up_to, up_to_at}

abbrev pub is_pass : Result ⊤ Stop → Bool
is_pass (Ok done) = true
is_pass (Err stop) = false

abbrev pub is_urgent : Result ⊤ Stop → Bool
is_urgent (Ok done) = false
is_urgent (Err (Urgent number)) = true
is_urgent (Err (Ordinary number)) = false

pub pass_reason : (v : Result ⊤ Stop) → T (is_pass v) → reason_of v ≡ no_reason
pass_reason (Ok done) t = refl
pass_reason (Err stop) t = absurd t

pub urgent_with : (v : Result ⊤ Stop) → T (is_urgent v) → v ≡ Err (Urgent (reason_of v))
urgent_with (Ok done) t = absurd t
urgent_with (Err (Urgent number)) t = refl
urgent_with (Err (Ordinary number)) t = absurd t

-- a verdict of each kind, with the number n
abbrev verdicts : ℕ → (Result ⊤ Stop → Bool) → Bool
verdicts n f = f (Ok tt) && f (Err (Urgent n)) && f (Err (Ordinary n))

verdicts_at : (f : Result ⊤ Stop → Bool) → ((n : ℕ) → T (verdicts n f)) → (v : Result ⊤ Stop) → T (f v)
verdicts_at f t (Ok done) =
    and_l (f (Ok tt)) (f (Err (Urgent 0))) (and_l (f (Ok tt) && f (Err (Urgent 0))) (f (Err (Ordinary 0))) (t 0))
verdicts_at f t (Err (Urgent n)) =
    and_r (f (Ok tt)) (f (Err (Urgent n))) (and_l (f (Ok tt) && f (Err (Urgent n))) (f (Err (Ordinary n))) (t n))
verdicts_at f t (Err (Ordinary n)) = and_r (f (Ok tt) && f (Err (Urgent n))) (f (Err (Ordinary n))) (t n)

bools_at : (f : Bool → Bool) → T (f true && f false) → (b : Bool) → T (f b)
bools_at f t true = and_l (f true) (f false) t
bools_at f t false = and_r (f true) (f false) t

-- a test of a phase, a verdict, whether the move may be made, and the next phase
abbrev pub Test : Type 0
Test = ℕ → Result ⊤ Stop → Bool → ℕ → Bool

abbrev pub Everywhere : Test → Type 0
Everywhere f = (p : ℕ) → p ≤ 10 → (v : Result ⊤ Stop) (may : Bool) → T (f p v may (next_phase p v may))

everywhere :
    (f : Test)
    → ((n : ℕ) → T (up_to 10 (λ p. verdicts n (λ v. f p v true (next_phase p v true) && f p v false (next_phase p v false)))))
    → Everywhere f
everywhere f t p h v may =
    bools_at (λ b. f p v b (next_phase p v b))
    (verdicts_at (λ w. f p w true (next_phase p w true) && f p w false (next_phase p w false))
    (λ n. up_to_at 10 (λ q. verdicts n (λ w. f q w true (next_phase q w true) && f q w false (next_phase q w false))) (t n) p h)
    v)
    may

abbrev pub range : Test
range p v may q = leb q 10

pub next_range : Everywhere range
unfolding next_phase
next_range = everywhere range (λ n. tt)

-- into 1 from 0 and 1
abbrev pub into1 : Test
into1 p v may q = imp (eqb q 1) (eqb p 0 || eqb p 1)

pub into_1 : Everywhere into1
unfolding next_phase
into_1 = everywhere into1 (λ n. tt)

-- into 1 to 8 from 1 to 8, but for the start
abbrev pub into1_8 : Test
into1_8 p v may q = imp (between 1 8 q) (between 1 8 p || eqb p 0 && eqb q 1)

pub into_1_8 : Everywhere into1_8
unfolding next_phase
into_1_8 = everywhere into1_8 (λ n. tt)

-- into 2 to 7 from 2 to 7, or from 1 by the move
abbrev pub into2_7 : Test
into2_7 p v may q = imp (between 2 7 q) (between 2 7 p || eqb p 1 && may)

pub into_2_7 : Everywhere into2_7
unfolding next_phase
into_2_7 = everywhere into2_7 (λ n. tt)

-- into 3 to 7 from 2 to 7, with no urgent stop
abbrev pub into3_7 : Test
into3_7 p v may q = imp (between 3 7 q) (between 2 7 p && not (is_urgent v))

pub into_3_7 : Everywhere into3_7
unfolding next_phase
into_3_7 = everywhere into3_7 (λ n. tt)

-- into 4 to 7 from 3 to 7, and out of 3 into 4
abbrev pub into4_7 : Test
into4_7 p v may q = imp (between 4 7 q) (between 3 7 p && imp (eqb p 3) (eqb q 4))

pub into_4_7 : Everywhere into4_7
unfolding next_phase
into_4_7 = everywhere into4_7 (λ n. tt)

-- into 6 without a stop, from 6, or from 5 by the move
abbrev pub into6 : Test
into6 p v may q = imp (eqb q 6) (between 5 6 p && is_pass v && imp (eqb p 5) may)

pub into_6 : Everywhere into6
unfolding next_phase
into_6 = everywhere into6 (λ n. tt)

-- into 7 from 6 and 7
abbrev pub into7 : Test
into7 p v may q = imp (eqb q 7) (between 6 7 p)

pub into_7 : Everywhere into7
unfolding next_phase
into_7 = everywhere into7 (λ n. tt)

-- out of 0 into 0 or 1
abbrev pub from0 : Test
from0 p v may q = imp (eqb p 0) (eqb q 0 || eqb q 1)

pub from_0 : Everywhere from0
unfolding next_phase
from_0 = everywhere from0 (λ n. tt)

-- out of 1 into 2 to 7: into 2, without a stop, by the move
abbrev pub from1 : Test
from1 p v may q = imp (eqb p 1 && between 2 7 q) (eqb q 2 && is_pass v && may)

pub from_1 : Everywhere from1
unfolding next_phase
from_1 = everywhere from1 (λ n. tt)

-- out of 2 into 3 to 7: into 3, by the move
abbrev pub from2 : Test
from2 p v may q = imp (eqb p 2 && between 3 7 q) (eqb q 3 && may)

pub from_2 : Everywhere from2
unfolding next_phase
from_2 = everywhere from2 (λ n. tt)

-- out of 7 to 10 only from 10 to 0, by the move
abbrev pub from7_10 : Test
from7_10 p v may q = imp (between 7 10 p) (between 7 10 q || eqb p 10 && eqb q 0 && may)

pub from_7_10 : Everywhere from7_10
unfolding next_phase
from_7_10 = everywhere from7_10 (λ n. tt)

-- a stop leads into 7 to 10
abbrev pub stopped : Test
stopped p v may q = imp (between 1 8 p && not (is_pass v)) (between 7 10 q)

pub stopped_into : Everywhere stopped
unfolding next_phase
stopped_into = everywhere stopped (λ n. tt)

-- an urgent one into neither 6 nor 7
abbrev pub urgently_stopped : Test
urgently_stopped p v may q = imp (is_urgent v) (not (between 6 7 q))

pub urgent_into : Everywhere urgently_stopped
unfolding next_phase
urgent_into = everywhere urgently_stopped (λ n. tt)

-- out of 2 to 6 into 9 by an urgent stop, and by nothing else
abbrev pub from2_6 : Test
from2_6 p v may q = imp (between 2 6 p) (imp (is_urgent v) (eqb q 9) && imp (eqb q 9) (is_urgent v))

pub from_2_6 : Everywhere from2_6
unfolding next_phase
from_2_6 = everywhere from2_6 (λ n. tt)

-- into 1 to 6 from there without a stop, or by the start
abbrev pub into1_6 : Test
into1_6 p v may q = imp (between 1 6 q) (between 1 6 p && is_pass v || eqb p 0 && eqb q 1)

pub into_1_6 : Everywhere into1_6
unfolding next_phase
into_1_6 = everywhere into1_6 (λ n. tt)

-- out of 4 into 5, out of 7 into 8 and out of 9 into 10 by the move
abbrev pub by_move_test : Test
by_move_test p v may q = imp ((eqb p 4 || eqb p 7 || eqb p 9) && eqb q (p + 1)) may

pub by_move : Everywhere by_move_test
unfolding next_phase
by_move = everywhere by_move_test (λ n. tt)
