-- A lead commands current only while plug, lock contact and permission have stayed closed since before its insulation test passed.
-- Assumes nothing.
use mathlib.Core.List.{List}
use mathlib.Core.Logic.{◌⊎◌, inl, inr}
use mathlib.Core.Path.{◌≡◌, ◌∙◌}
use Prim.Native.Nat.{ℕ, zero, suc, ◌≤◌, ◌<◌}
use native.Mathlib.Omega.{arith}
use lib.Dec.{T}
use Rattle.common.specs.Tests.{between}
use Rattle.lead.specs.declared.state.Lead.{Lead}
use Rattle.lead.specs.declared.state.Input.{Input}
use Rattle.common.proofs.Bools.{between_of, between_lo, between_hi, at_or_past}
use Rattle.lead.proofs.Ticks.{phase_after}
use Rattle.lead.proofs.WholeTicks.{Live, ends_live, out_of_2, out_of_3}
use Rattle.lead_records.proofs.Shown.{input_contacts}
use Rattle.post.specs.declared.head.Head.{Head}
use Rattle.safety.specs.Lists.{Tick}
use Rattle.safety.specs.Demand3.{phase_before, Moves, Closed, StayedClosed}
use Rattle.safety.proofs.Steps.{one_more, lead, input, command, phase_most, phase_is, powered}

module _ (h : Head) (ticks : List Tick) (k : ℕ) where
  abbrev phase : ℕ → ℕ
  phase t = phase_before h ticks t k

  -- the latest tick before t that moved the lead from 2 to 3, and what has held since
  record Locked (t : ℕ) : Type 0 where
    at : ℕ
    past : at < t
    moved : Moves h ticks at k 2 3
    latest : (u : ℕ) → u < t → at < u → Moves h ticks u k 2 3 → ⊥
    stayed : (u : ℕ) → u < t → at ≤ u → Closed h ticks u k
    passed : 4 ≤ phase t → (tested : ℕ) × (at < tested) × (tested < t) × Moves h ticks tested k 3 4

  -- a tick that ends in 3 to 7
  module _ (t : ℕ) (w : T (between 3 7 (phase (suc t)))) where
    abbrev i : Input
    i = input h ticks k t

    abbrev s : Lead
    s = lead h ticks k t

    ends : T (between 3 7 (phase_after h.ratings i s))
    ends = rw (phase_is h ticks k t) at w

    live : Live i s
    live = ends_live h.ratings i s (phase_most h ticks k t) ends

    closed : Closed h ticks t k
    closed =
        record {
          plug = rw input_contacts at live.plug;
          lock = rw input_contacts at live.lock;
          permission = rw input_contacts at live.permission;
        }

    -- begun in 2, it is the move itself
    begins : phase t ≡ 2 → Locked (suc t)
    begins e =
        let three : phase (suc t) ≡ 3 = phase_is h ticks k t ∙ out_of_2 h.ratings i s (phase_most h ticks k t) ends e in
        record {
          at = t;
          past = omega arith;
          moved = (e, three);
          latest = λ u x y m. omega arith;
          stayed = one_more t (λ u x y. absurd (omega arith)) (λ x. closed);
          passed = λ x. absurd (omega arith);
        }

    -- begun in 3 or later, what held holds for one tick more
    goes_on : 3 ≤ phase t → Locked t → Locked (suc t)
    goes_on g old =
        record {
          at = old.at;
          past = omega arith;
          moved = old.moved;
          latest = one_more t old.latest (λ x m. omega arith);
          stayed = one_more t old.stayed (λ x. closed);
          passed = λ x. test x (at_or_past 3 (phase t) g);
        }
      where
        test :
            4 ≤ phase (suc t)
            → (phase t ≡ 3) ⊎ (4 ≤ phase t)
            → (tested : ℕ) × (old.at < tested) × (tested < suc t) × Moves h ticks tested k 3 4
        test x (inl e) =
            let past_3 : T (between 4 7 (phase (suc t))) = between_of 4 7 (phase (suc t)) x (between_hi 3 7 (phase (suc t)) w) in
            let four = out_of_3 h.ratings i s (phase_most h ticks k t) (rw (phase_is h ticks k t) at past_3) e in
            (t, old.past, omega arith, (e, phase_is h ticks k t ∙ four))
        test x (inr y) = let o = old.passed y in (o.0, o.1, omega arith, o.3)

  locked : (t : ℕ) → T (between 3 7 (phase t)) → Locked t
  locked zero w = absurd w
  locked (suc t) w = go (at_or_past 2 (phase t) (between_lo 2 7 (phase t) (live t w).began)) (locked t)
    where
      go : (phase t ≡ 2) ⊎ (3 ≤ phase t) → (T (between 3 7 (phase t)) → Locked t) → Locked (suc t)
      go (inl e) r = begins t w e
      go (inr g) r = goes_on t w g (r (between_of 3 7 (phase t) g (between_hi 2 7 (phase t) (live t w).began)))

  stayed_since : (t : ℕ) → 4 ≤ phase (suc t) → Locked (suc t) → StayedClosed h ticks t k
  stayed_since t x since =
      record {
        locked = since.at;
        moved = since.moved;
        latest = λ u y z. since.latest u (omega arith) (omega arith);
        tested = (since.passed x).0;
        passed = (since.passed x).3;
        later = (since.passed x).1;
        sooner = omega (arith, (since.passed x).2);
        stayed = λ u y z. since.stayed u (omega arith) (omega arith);
      }

  pub stayed_closed : (t : ℕ) → 0 < command h ticks k t → StayedClosed h ticks t k
  stayed_closed t c =
      let w : T (between 6 7 (phase (suc t))) = powered h ticks k t c in
      let lo : 6 ≤ phase (suc t) = between_lo 6 7 (phase (suc t)) w in
      stayed_since t (omega arith) (locked (suc t) (between_of 3 7 (phase (suc t)) (omega arith) (between_hi 6 7 (phase (suc t)) w)))
