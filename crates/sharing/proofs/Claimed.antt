-- The claims of request 2026-03, and beside them the ways worked out. Assumes nothing.
use mathlib.Core.Bool.{cond}
use mathlib.Core.List.{List, [], ◌∷◌, map}
use mathlib.Core.Path.{◌≡◌, refl, sym, ◌∙◌}
use Prim.Native.Nat.{ℕ, zero, suc, ◌-◌, ◌<◌}
use native.Mathlib.Omega.{arith}
use lib.Dec.{eqb}
use lib.ListN.{length, get_or}
use Rattle.sharing.specs.Level.{want_of, sum, one_if_any}
use Rattle.sharing.specs.Way.{insert, in_order, takers, carried_after, step_of, way, level_found}
use Rattle.sharing.specs.Claims.{SmallestFirst, EachInTurn, OneStepALead, CarriedAlong, LevelRemains, worked_ways}
use Rattle.sharing.specs.declared.Step.{Step}
use Rattle.sharing.specs.declared.Step.TheVariants.{Met, Last}
use Rattle.sharing.proofs.Sums.{sum_of_each_lem}
use Rattle.sharing.proofs.Order.{in_order_sum, in_order_rises, rises_next}
use Rattle.sharing.proofs.Way.{way_level, way_length, takers_length, takers_want, way_in_turn, step_met, last_not_met}

-- what is summed over the wants, place by place, is the same in order
places_in_order :
    (f : ℕ → ℕ) (wants : List ℕ)
    → sum (length (in_order wants)) (λ k. f (want_of (in_order wants) k)) ≡ sum (length wants) (λ k. f (want_of wants k))
places_in_order f wants = sum_of_each_lem f (in_order wants) ∙ in_order_sum f wants ∙ sym (sum_of_each_lem f wants)

pub smallest_first : SmallestFirst
smallest_first wants = record {
  same_wants = λ want. places_in_order (λ x. cond (eqb x want) 1 0) wants;
  none_above_next = rises_next 0 (in_order wants) (in_order_rises wants);
}

pub each_in_turn : EachInTurn
each_in_turn wants limit n = way_in_turn 0 (in_order wants) limit n (in_order_rises wants)

pub one_step_a_lead : OneStepALead
one_step_a_lead wants limit =
    omega (arith, way_length (in_order wants) limit, takers_length (in_order wants), in_order_sum one_if_any wants, sum_of_each_lem one_if_any wants)

-- past the end no want is met
within_steps : (steps : List Step) (n want carried : ℕ) → get_or steps n (Last 0) ≡ Met want carried → n < length steps
within_steps [] n want carried e = absurd (last_not_met e)
within_steps (step ∷ more) zero want carried e = omega arith
within_steps (step ∷ more) (suc n) want carried e = omega (arith, within_steps more n want carried e)

pub carried_along : CarriedAlong
unfolding carried_after
carried_along wants limit n want carried e =
    let steps = way (in_order wants) limit in
    let order = takers (in_order wants) in
    let h = within_steps steps n want carried e in
    let met = step_met (want_of order n) (length order - n) (carried_after n order limit) want carried (sym (each_in_turn wants limit n h) ∙ e) in
    record {
      next = met.0;
      less_met = omega arith;
      within = omega (arith, takers_want (in_order wants) n (omega (arith, way_length (in_order wants) limit)));
    }

pub level_remains : LevelRemains
level_remains = way_level

-- each way is the one worked out, and comes to the level beside it
pub worked_out : map (λ case. way (in_order case.wants) case.limit) worked_ways ≡ map (λ case. case.steps) worked_ways
unfolding insert in_order step_of way
worked_out = refl

pub worked_levels : map (λ case. level_found case.steps case.limit) worked_ways ≡ map (λ case. case.level) worked_ways
unfolding level_found
worked_levels = refl
