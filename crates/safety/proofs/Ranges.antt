-- 2026-08: where one of the five is passed in a tick, each value that the tick's reading stands for would have passed it. Assumes nothing.
use mathlib.Core.Bool.{◌&&◌, ◌||◌}
use mathlib.Core.List.{List}
use mathlib.Core.Path.{◌≡◌, refl, sym, subst, ◌∙◌}
use Prim.Native.Nat.{ℕ, ◌+◌}
use lib.Dec.{T, eqb}
use lib.Ieee.Fits.{and_i}
use borrow.Author.Tests.{eq-eqb}
use Rattle.common.proofs.Bools.{holds, mp}
use Rattle.readings.specs.declared.Tenths.{Tenths}
use Rattle.lead.specs.Hearing.{hear}
use Rattle.lead.specs.Moves.{may_move}
use Rattle.lead.specs.Claims.{with_volts, with_amperes, Meets, EachValue}
use Rattle.lead.specs.declared.state.HeardLead.{HeardLead}
use Rattle.lead.specs.declared.questions.View.{View}
use Rattle.lead.proofs.Claimed.{each_value}
use Rattle.lead.proofs.Phases.{by_move_test, by_move}
use Rattle.lead.proofs.Ticks.{wants_of}
use Rattle.post.specs.declared.head.Head.{Head}
use Rattle.safety.specs.Lists.{Tick}
use Rattle.safety.specs.Demand3.{phase_before, phase_at, Moves}
use Rattle.safety.specs.Ranges.{heard_at, view_at, VoltsMayBe, AmperesMayBe, Ranges}
use Rattle.safety.proofs.Steps.{input, in_tick}

module _ (h : Head) (ticks : List Tick) (t k : ℕ) where
  abbrev v : View
  v = view_at h ticks t k

  abbrev heard : HeardLead
  heard = heard_at h ticks t k

  phase_heard : heard.lead.stage.phase ≡ phase_before h ticks t k
  unfolding hear
  phase_heard = refl

  -- a move out of 4, 7 or 9, with another view in the place of the tick's
  module _ (p : ℕ) (late : T (eqb p 4 || eqb p 7 || eqb p 9)) (moved : Moves h ticks t k p (p + 1)) where
    abbrev began : ℕ
    began = phase_before h ticks t k

    abbrev ended : ℕ
    ended = phase_at h ticks t k

    met : T (may_move v heard)
    met =
        mp ((eqb began 4 || eqb began 7 || eqb began 9) && eqb ended (began + 1)) (may_move v heard) (in_tick h ticks k by_move_test by_move t)
        (and_i (eqb began 4 || eqb began 7 || eqb began 9) (eqb ended (began + 1)) (rw moved.0 late)
        (holds (eq-eqb ended (began + 1) (rw moved.0 moved.1))))

    pub moves_too : (other : View) → (Meets p v heard → Meets p other heard) → T (may_move other heard)
    moves_too other each =
        let phase : heard.lead.stage.phase ≡ p = phase_heard ∙ moved.0 in
        subst T (sym (wants_of other heard p phase)) (each (subst T (wants_of v heard p phase) met))

pub ranges_of : (h : Head) (ticks : List Tick) → Ranges h ticks
ranges_of h ticks =
    record {
      question_16 = λ t k x within below m. (by-volts t k m).question_16 x m.stands;
      question_17 = λ t k x within below m. (by-amperes t k m).question_17 x m.stands;
      from_4_to_5 =
          λ t k x within below m moved.
          moves_too h ticks t k 4 tt moved (with_volts x (view_at h ticks t k)) ((by-volts t k m).out_of_4 x m.stands);
      from_7_to_8 =
          λ t k x within below m moved.
          moves_too h ticks t k 7 tt moved (with_amperes x (view_at h ticks t k)) ((by-amperes t k m).out_of_7 x m.stands);
      from_9_to_10 =
          λ t k x within below m moved.
          moves_too h ticks t k 9 tt moved (with_volts x (view_at h ticks t k)) ((by-volts t k m).out_of_9 x m.stands);
    }
  where
    by-volts :
        (t k : ℕ) {x : Tenths} (m : VoltsMayBe h ticks t k x)
        → EachValue h.ratings (input h ticks k t) (heard_at h ticks t k) m.volts m.amperes
    by-volts t k m = each_value h.ratings (input h ticks k t) (heard_at h ticks t k) m.volts m.amperes m.reads

    by-amperes :
        (t k : ℕ) {x : Tenths} (m : AmperesMayBe h ticks t k x)
        → EachValue h.ratings (input h ticks k t) (heard_at h ticks t k) m.volts m.amperes
    by-amperes t k m = each_value h.ratings (input h ticks k t) (heard_at h ticks t k) m.volts m.amperes m.reads
