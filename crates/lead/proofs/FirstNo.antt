-- The questions asked row by row: the first no is the stop. Assumes nothing.
use mathlib.Core.Path.{◌≡◌, refl, sym, ap, ◌∙◌}
use mathlib.Core.Bool.{Bool, true, false, cond, false≢true}
use Prim.Native.Nat.{ℕ, ◌+◌, ◌-◌, ◌≤◌}
use native.Mathlib.Omega.{arith}
use native.Mathlib.Numerals.{add-one}
use lib.Dec.{T}
use lib.ListN.{get_or}
use lib.Seq.{drop-cons}
use Rattle.std.specs.Prelude.{⊤, Result, Ok, Err, IsErrAnd}
use Rattle.common.specs.Tests.{between}
use Rattle.common.proofs.Bools.{between_lo, between_hi}
use Rattle.lead.specs.Questions.{Question, no_question, questions, questions_from, is_no, stop_of, first_no, ask}
use Rattle.lead.specs.declared.state.HeardLead.{HeardLead}
use Rattle.lead.specs.declared.questions.Stop.{Stop}
use Rattle.lead.specs.declared.questions.View.{View}
use Rattle.lead.proofs.Phases.{is_pass}

abbrev question : View → HeardLead → ℕ → Question
question v h n = get_or (questions v h) (n - 11) no_question

abbrev from : View → HeardLead → ℕ → Result ⊤ Stop
from v h n = first_no h.lead.stage.phase (questions_from n v h)

-- a stop on a no, and else the rest
abbrev stop_or : Bool → Stop → Result ⊤ Stop → Result ⊤ Stop
stop_or no_said stop rest = cond no_said (Err stop) rest

-- what a question alone answers
abbrev pub alone : View → HeardLead → ℕ → Result ⊤ Stop
alone v h n = stop_or (is_no h.lead.stage.phase (question v h n)) (stop_of (question v h n)) (Ok tt)

-- question n is asked, those before it passed, and r is what the code got for it
pub record Row (v : View) (h : HeardLead) (n : ℕ) (r : Result ⊤ Stop) : Type 0 where
  pub asked : T (between 11 29 n)
  pub behind : ask v h ≡ from v h n
  pub answer : r ≡ alone v h n

the_stop : (x : Result ⊤ Stop) {s : Stop} → IsErrAnd x (λ e. e ≡ s) → x ≡ Err s
the_stop (Ok done) h = absurd h
the_stop (Err stop) h = ap (λ (e : Stop). Err e) h

a_stop : (b : Bool) (x : Stop) (rest : Result ⊤ Stop) {s : Stop} → stop_or b x (Ok tt) ≡ Err s → Err s ≡ stop_or b x rest
a_stop true x rest e = sym e
a_stop false x rest e = absurd (false≢true (sym (ap is_pass e)))

a_pass : (b : Bool) (x : Stop) (rest : Result ⊤ Stop) → stop_or b x (Ok tt) ≡ Ok tt → stop_or b x rest ≡ rest
a_pass true x rest e = absurd (false≢true (ap is_pass e))
a_pass false x rest e = refl

module _ {v : View} {h : HeardLead} where
  pub first_row : {r : Result ⊤ Stop} → r ≡ alone v h 11 → Row v h 11 r
  unfolding ask
  first_row answer = record { asked = tt; behind = refl; answer = answer }

  module _ {n : ℕ} {r : Result ⊤ Stop} (row : Row v h n r) where
    one_row : from v h n ≡ stop_or (is_no h.lead.stage.phase (question v h n)) (stop_of (question v h n)) (from v h (n + 1))
    unfolding questions
    one_row =
        let lo : 11 ≤ n = between_lo 11 29 n row.asked in
        let hi : n ≤ 29 = between_hi 11 29 n row.asked in
        let next : n + 1 - 11 ≡ n - 11 + 1 = omega arith in
        rw (next, add-one (n - 11)) (ap (first_no h.lead.stage.phase) (drop-cons (questions v h) (n - 11) no_question (omega arith)))

    -- a no ends it all: x is what the code returns
    pub stops : {s : Stop} → r ≡ Err s → {x : Result ⊤ Stop} → IsErrAnd x (λ e. e ≡ s) → x ≡ ask v h
    stops stopped {x = x} returned =
        the_stop x returned
        ∙ a_stop (is_no h.lead.stage.phase (question v h n)) (stop_of (question v h n)) (from v h (n + 1)) (sym row.answer ∙ stopped)
        ∙ sym one_row
        ∙ sym row.behind

    pub next_row : r ≡ Ok tt → T (between 11 29 (n + 1)) → {x : Result ⊤ Stop} → x ≡ alone v h (n + 1) → Row v h (n + 1) x
    next_row passed asked answer =
        record {
          asked = asked;
          behind =
              row.behind
              ∙ one_row
              ∙ a_pass (is_no h.lead.stage.phase (question v h n)) (stop_of (question v h n)) (from v h (n + 1)) (sym row.answer ∙ passed);
          answer = answer;
        }

  -- the last answer is that of all
  pub ends : {r : Result ⊤ Stop} → Row v h 29 r → r ≡ ask v h
  unfolding questions
  ends row = row.answer ∙ sym (one_row row) ∙ sym row.behind
