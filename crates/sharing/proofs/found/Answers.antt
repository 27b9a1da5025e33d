-- `sharing::found` meets its contract. The loop's invariant: the way from this place on, with the watts carried, comes to the level that the
-- whole way comes to; and these watts are the limit less the wants of the places before, which is the request's sentence, and more than the
-- contract asks for. Assumes nothing.
use mathlib.Core.Path.{◌≡◌, refl, sym, ap, ◌∙◌}
use Prim.Native.Nat.{ℕ}
use Rattle.sharing.specs.declared.Step.{Step}
use native.Mathlib.Omega.{arith}
use lib.ListN.{drop_of_length-le}
use Rattle.sharing.specs.Level.{places, want_of}
use Rattle.sharing.specs.Way.{carried_after, way, level_found}
use Rattle.sharing.specs.declared.Step.TheVariants.{Met}
use Rattle.sharing.proofs.Steps.{carried_less, found_passes, found_meets, found_ends}
use Rattle.sharing.proofs.found.Goals as goal
use Rattle.sharing.proofs.found.Goals.{then-want-gt0+in-Met, else-want-gt0}

met : {step : Step} {want left carried : ℕ} → step ≡ Met want left → carried ≡ left → step ≡ Met want carried
met {want = want} e f = e ∙ ap (Met want) (sym f)

pub loop-place-init : goal.loop-place-init
unfolding carried_after
loop-place-init c = (refl, omega arith)

pub returns-in-Last : goal.returns-in-Last
returns-in-Last c =
    let a = c.args in
    sym
    (c.loop-place.invariant.0
    ∙ found_ends a.order places c.loop-place.place c.loop-place.carried a.limit c.well_formed.0.1.0.1 c.loop-place-test.true
    c.if-want-gt0.true c.in-Last.level (sym c.in-Last.is ∙ c.take_step.ensures.step))

pub loop-place-preserved : goal.loop-place-preserved
loop-place-preserved c =
    let a = c.args in
    elim c.if-want-gt0.branch [
      | then-want-gt0+in-Met w ↦ (
        c.loop-place.invariant.0
            ∙ found_meets a.order places c.loop-place.place c.loop-place.carried a.limit c.well_formed.0.1.0.1 c.loop-place-test.true
            w.if-want-gt0.true w.in-Met.want c.if-want-gt0.carried (sym (met w.in-Met.is w.carried-is) ∙ w.take_step.ensures.step),
        w.take_step.ensures.carries_on a.order c.loop-place.place a.limit w.in-Met.want c.if-want-gt0.carried refl c.loop-place.invariant.1
            (met w.in-Met.is w.carried-is),
      )
      | else-want-gt0 w ↦
          let none : want_of a.order c.loop-place.place ≡ 0 = omega (arith, w.if-want-gt0.false) in (
            c.loop-place.invariant.0
                ∙ rw w.carried-is
                (found_passes a.order places c.loop-place.place c.loop-place.carried a.limit c.well_formed.0.1.0.1 c.loop-place-test.true none),
            omega (arith, w.carried-is, c.loop-place.invariant.1, carried_less c.loop-place.place a.order a.limit),
          )
    ]

pub returns : goal.returns
unfolding way level_found
returns c =
    sym (c.loop-place.invariant.0 ∙ rw (drop_of_length-le c.args.order {i = c.loop-place.place} (omega (arith, c.well_formed.0.1.0.1))))
