-- 2026-06: an urgent stop gives the reason 23 where the car withdraws and says so, and there alone; one with 14 says that permission was open
-- and that in 2 to 6 no H'102 of the tick said so. Assumes nothing.
use mathlib.Core.Bool.{Bool, true, false, not, cond, ◌&&◌, ◌||◌}
use mathlib.Core.Path.{◌≡◌, ◌∙◌}
use Prim.Native.Nat.{ℕ, ◌+◌, ◌-◌, ◌≤◌}
use native.Mathlib.Omega.{arith}
use lib.Dec.{T, leb, eqb, leb→le}
use lib.Ieee.Fits.{and_i, and_l, and_r}
use borrow.Author.Tests.{eq-eqb}
use Rattle.std.specs.Prelude.{⊤, Result, Err}
use Rattle.common.specs.Tests.{between}
use Rattle.lead.specs.Names.{permission_open, not_enabled}
use Rattle.lead.specs.Hearing.{hear}
use Rattle.lead.specs.Questions.{view_of, revokes, questions, stop_of, ask, reason_of, verdict, got_no}
use Rattle.lead.specs.declared.state.Lead.{Lead}
use Rattle.lead.specs.declared.state.Ratings.{Ratings}
use Rattle.lead.specs.declared.state.Input.{Input}
use Rattle.lead.specs.declared.questions.Stop.{Stop}
use Rattle.lead.specs.declared.questions.Stop.TheVariants.{Urgent}
use Rattle.common.proofs.Bools.{holds, is_true, imp, mp, between_of, between_lo, between_hi, up_to_at}
use Rattle.lead.proofs.Phases.{is_urgent}
use Rattle.lead.proofs.Answers.{asked_row, no_gives, each_gives, first_at, its_row, row_no}

module _ (c : Ratings) (i : Input) (s : Lead) where
  abbrev p : ℕ
  p = s.stage.phase

  -- permission is open
  abbrev away : Bool
  away = not i.contacts.permission

  -- in 2 to 6, with an H'102 of this tick that has enabled clear
  abbrev said : Bool
  said = between 2 6 p && revokes i.frames.status

  -- what an urgent stop with 23 says, and a stop with 14
  abbrev means23 : Result ⊤ Stop → Bool
  means23 w = imp (is_urgent w && eqb (reason_of w) not_enabled) (said && away)

  abbrev means14 : Result ⊤ Stop → Bool
  means14 w = imp (eqb (reason_of w) permission_open) (not said && away)

  -- question 14's stop says so; no other urgent one has 23, and no other at all 14
  meant : T (means23 (verdict c i s) && means14 (verdict c i s))
  unfolding ask questions view_of hear
  meant = each_gives p (λ w. means23 w && means14 w) (questions (view_of c i (hear i s)) (hear i s)) tt (go said away (between 2 7 p))
    where
      go :
          (w o asked : Bool)
          → T
          ((imp (eqb (cond w not_enabled permission_open) not_enabled) (w && o)
          && imp (eqb (cond w not_enabled permission_open) permission_open) (not w && o)
          || not (asked && o))
          && true)
      go true true asked = tt
      go true false true = tt
      go true false false = tt
      go false true asked = tt
      go false false true = tt
      go false false false = tt

  pub urgent_23 : verdict c i s ≡ Err (Urgent not_enabled) → T (said && away)
  urgent_23 e =
      mp (is_urgent (verdict c i s) && eqb (reason_of (verdict c i s)) not_enabled) (said && away)
      (and_l (means23 (verdict c i s)) (means14 (verdict c i s)) meant) (rw e tt)

  pub shows_14 : reason_of (verdict c i s) ≡ permission_open → T (not said && away)
  shows_14 e =
      mp (eqb (reason_of (verdict c i s)) permission_open) (not said && away) (and_r (means23 (verdict c i s)) (means14 (verdict c i s)) meant)
      (holds (eq-eqb (reason_of (verdict c i s)) permission_open e))

  -- a no of 11 to 13 gives one of these as the reason
  pub sooner : (n : ℕ) → n ≤ 13 → T (got_no c i s n) → reason_of (verdict c i s) ≤ 13
  unfolding ask questions hear
  sooner n h said_no =
      leb→le (reason_of (verdict c i s)) 13
      (no_gives p (λ w. leb (reason_of w) 13) (questions (view_of c i (hear i s)) (hear i s)) (n - 11) (its_row c i s n said_no)
      (λ j x. up_to_at 2 (λ j. leb (reason_of (Err (stop_of (asked_row c i s j)))) 13) tt j (omega arith)))

  -- question 14 gets a no
  pub opened : T (between 2 7 p) → T away → T (got_no c i s permission_open)
  unfolding got_no questions view_of hear
  opened w o = and_i (between 2 7 p) away w o

  -- "with questions 11–13 yes"
  pub withdrawn :
      T (between 2 6 p)
      → ((n : ℕ) → T (between 11 13 n) → T (got_no c i s n) → ⊥)
      → T away
      → T (revokes i.frames.status)
      → verdict c i s ≡ Err (Urgent not_enabled)
  unfolding ask questions view_of hear
  withdrawn w passed o told =
      let hi : p ≤ 6 = between_hi 2 6 p w in
      let asked : T (between 2 7 p) = between_of 2 7 p (between_lo 2 6 p w) (omega arith) in
      first_at p (questions (view_of c i (hear i s)) (hear i s)) 3
      (λ j x t. passed (11 + j) (between_of 11 13 (11 + j) (omega arith) (omega arith)) (row_no c i s j t)) (and_i (between 2 7 p) away asked o)
      ∙ rw (is_true said (and_i (between 2 6 p) (revokes i.frames.status) w told))
