-- A good lead of a post with rated volts from 50 on stays good, whatever a tick brings and whatever the level. Assumes nothing.
use mathlib.Core.Bool.{Bool, true, false, not, cond, ◌&&◌, ◌||◌}
use mathlib.Core.Logic.{◌⊎◌, inl, inr}
use mathlib.Core.Path.{◌≡◌, refl, sym, subst, ap, ◌∙◌}
use Prim.Native.Nat.{ℕ, ◌≤◌, min}
use native.Mathlib.Omega.{arith}
use lib.Dec.{T, T_not, not_T, leb, eqb, leb→le, le→leb, eqb→eq}
use lib.Ieee.Fits.{and_i, and_l, and_r}
use borrow.Author.Tests.{eq-eqb}
use Rattle.frames.specs.Heard.{signals_of}
use Rattle.common.specs.Tests.{between}
use Rattle.lead.specs.Names.{handshake, locking, no_reason}
use Rattle.lead.specs.Figures.{least_volts}
use Rattle.lead.specs.Leads.{blank, fresh}
use Rattle.lead.specs.Hearing.{hear}
use Rattle.lead.specs.Questions.{threshold_now, view_of, reason_of, verdict}
use Rattle.lead.specs.Moves.{reason_after, decide}
use Rattle.lead.specs.Power.{wanted, commanded}
use Rattle.lead.specs.Good.{good_threshold, good_lead}
use Rattle.lead.specs.declared.state.Lead.{Lead}
use Rattle.lead.specs.declared.state.HeardLead.{HeardLead}
use Rattle.lead.specs.declared.state.Ratings.{Ratings}
use Rattle.lead.specs.declared.state.Car.{Car}
use Rattle.lead.specs.declared.state.Input.{Input}
use mir.Facts.{or_yes}
use Rattle.common.proofs.Bools.{holds, or_r, mp, imp_of, is_false, between_of, between_lo}
use Rattle.lead.proofs.Phases as phases
use Rattle.lead.proofs.Phases.{is_pass}
use Rattle.lead.proofs.Answers.{is_known, OrdinaryYes, ordinary_yes, reason_known}
use Rattle.lead.proofs.Ticks.{may, phase_after, start, MoveMet, move_met, decide_phase, started, WentOn, not_started}
use Rattle.lead.proofs.Commands.{command_most, command_0, want_rated}

-- what the good-state check says of a lead
pub record Good (c : Ratings) (s : Lead) : Type 0 where
  pub phase : s.stage.phase ≤ 10
  pub reason : T (is_known s.stage.reason)
  pub most : s.command ≤ c.amperes
  pub unpowered : (T (between 6 7 s.stage.phase) → ⊥) → s.command ≡ 0
  pub threshold : T (eqb s.threshold 0 || between least_volts c.volts s.threshold)
  pub unkept : s.stage.phase ≡ 1 → s.threshold ≡ 0
  pub kept : T (between 2 7 s.stage.phase) → s.threshold ≡ 0 → ⊥

module _ (c : Ratings) (s : Lead) where
  abbrev p : ℕ
  p = s.stage.phase

  abbrev t : ℕ
  t = s.threshold

  abbrev known : Bool
  known = is_known s.stage.reason

  abbrev rated : Bool
  rated = leb s.command c.amperes

  abbrev spent : Bool
  spent = between 6 7 p || eqb s.command 0

  abbrev volts : Bool
  volts = eqb t 0 || between least_volts c.volts t

  abbrev none : Bool
  none = not (eqb p handshake) || eqb t 0

  abbrev some : Bool
  some = not (between 2 7 p) || not (eqb t 0)

  pub good_says : T (good_lead c s) → Good c s
  unfolding good_lead good_threshold
  good_says g =
      let first : T (leb p 10 && known && (rated && spent)) = and_l (leb p 10 && known && (rated && spent)) (volts && none && some) g in
      let last : T (volts && none && some) = and_r (leb p 10 && known && (rated && spent)) (volts && none && some) g in
      let power : T (rated && spent) = and_r (leb p 10 && known) (rated && spent) first in
      let start : T (leb p 10 && known) = and_l (leb p 10 && known) (rated && spent) first in
      let early : T (volts && none) = and_l (volts && none) some last in
      record {
        phase = leb→le p 10 (and_l (leb p 10) known start);
        reason = and_r (leb p 10) known start;
        most = leb→le s.command c.amperes (and_l rated spent power);
        unpowered = λ n. none-commanded (or_yes (between 6 7 p) (eqb s.command 0) (and_r rated spent power)) n;
        threshold = and_l volts none early;
        unkept = λ e. eqb→eq t 0 (mp (eqb p handshake) (eqb t 0) (and_r volts none early) (holds (eq-eqb p handshake e)));
        kept = λ w e. T_not (eqb t 0) (mp (between 2 7 p) (not (eqb t 0)) (and_r (volts && none) some last) w) (holds (eq-eqb t 0 e));
      }
    where
      none-commanded : T (between 6 7 p) ⊎ T (eqb s.command 0) → (T (between 6 7 p) → ⊥) → s.command ≡ 0
      none-commanded (inl w) n = absurd (n w)
      none-commanded (inr e) n = eqb→eq s.command 0 e

  pub good_of : Good c s → T (good_lead c s)
  unfolding good_lead good_threshold
  good_of g =
      and_i (leb p 10 && known && (rated && spent)) (volts && none && some)
      (and_i (leb p 10 && known) (rated && spent) (and_i (leb p 10) known (le→leb p 10 g.phase) g.reason)
      (and_i rated spent (le→leb s.command c.amperes g.most) (go (between 6 7 p) refl)))
      (and_i (volts && none) some
      (and_i volts none g.threshold
      (imp_of (eqb p handshake) (eqb t 0) (λ e. holds (eq-eqb t 0 (g.unkept (eqb→eq p handshake e))))))
      (imp_of (between 2 7 p) (not (eqb t 0)) (λ w. not_T (eqb t 0) (λ e. g.kept w (eqb→eq t 0 e)))))
    where
      go : (b : Bool) → between 6 7 p ≡ b → T (b || eqb s.command 0)
      go true e = tt
      go false e = holds (eq-eqb s.command 0 (g.unpowered (λ w. subst T e w)))

-- a blank lead in a phase in which no threshold is kept yet
module _ (c : Ratings) where
  blank_good : (q : ℕ) → q ≤ 1 → Good c (blank q)
  blank_good q h =
      record {
        phase = omega arith;
        reason = tt;
        most = omega arith;
        unpowered = λ n. refl;
        threshold = tt;
        unkept = λ e. refl;
        kept = λ w e. absurd (let lo : 2 ≤ q = between_lo 2 7 q w in omega arith);
      }

  pub fresh_good : T (good_lead c fresh)
  fresh_good = good_of c fresh (blank_good 0 (omega arith))

-- a command leaves a lead good
module _ (c : Ratings) (level : ℕ) (s : Lead) (g : Good c s) where
  pub command_good : Good c (commanded c level s)
  unfolding commanded
  command_good =
      let m : (commanded c level s).command ≤ wanted c s = command_most c level s in
      record {
        phase = g.phase;
        reason = g.reason;
        most = omega (arith, want_rated c s g.most);
        unpowered = λ n. command_0 c level s n;
        threshold = g.threshold;
        unkept = g.unkept;
        kept = g.kept;
      }

-- a lead in phase 1 that moves on has a threshold from 50 to the rated volts
module _
    (c : Ratings) (i : Input) (s : Lead) (wide : least_volts ≤ c.volts) (e : s.stage.phase ≡ 1) (yes : OrdinaryYes c i s (hear i s).lead.car)
    (met : MoveMet c i s (hear i s).lead.car) where
  abbrev car : Car
  car = (hear i s).lead.car

  abbrev all_seen : Bool
  all_seen = car.battery.seen && car.time.seen && car.status.seen

  abbrev enough : Bool
  enough = leb least_volts car.battery.value

  abbrev target : Bool
  target = leb least_volts car.status.value.target

  abbrev below : Bool
  below = leb car.status.value.target (threshold_now c (hear i s))

  seen_all : T all_seen
  seen_all =
      and_l all_seen i.contacts.permission
      (and_l (all_seen && i.contacts.permission) (signals_of car.status.value).enabled (met.out_of_1 e))

  seen_both : T (car.battery.seen && car.status.seen)
  seen_both =
      and_i car.battery.seen car.status.seen
      (and_l car.battery.seen car.time.seen (and_l (car.battery.seen && car.time.seen) car.status.seen seen_all))
      (and_r (car.battery.seen && car.time.seen) car.status.seen seen_all)

  battery_range : least_volts ≤ car.battery.value
  battery_range =
      let asked : T (between 1 6 s.stage.phase) = between_of 1 6 s.stage.phase (omega arith) (omega arith) in
      let answer : T (enough && target && below) = mp (car.battery.seen && car.status.seen) (enough && target && below) (yes.compatible asked) seen_both in
      leb→le least_volts car.battery.value (and_l enough target (and_l (enough && target) below answer))

  worked_out : threshold_now c (hear i s) ≡ min c.volts car.battery.value
  unfolding hear
  worked_out = rw (eq-eqb _ _ e)

  kept_range : (least_volts ≤ threshold_now c (hear i s)) × (threshold_now c (hear i s) ≤ c.volts)
  kept_range = (omega (arith, battery_range, worked_out), omega (arith, worked_out))

-- a tick that does not start the lead
module _ (c : Ratings) (i : Input) (s : Lead) (wide : least_volts ≤ c.volts) (g : Good c s) (off : start c i s ≡ false) where
  abbrev h : HeardLead
  h = hear i s

  abbrev q : ℕ
  q = phase_after c i s

  abbrev before : ℕ
  before = s.stage.phase

  on : WentOn c i s
  on = not_started c i s off

  moved_on : before ≡ 1 → T (between 2 7 q) → T (eqb q 2 && is_pass (verdict c i s) && may c i s)
  moved_on e w =
      mp (eqb before 1 && between 2 7 q) (eqb q 2 && is_pass (verdict c i s) && may c i s)
      (phases.from_1 before g.phase (verdict c i s) (may c i s))
      (and_i (eqb before 1) (between 2 7 q) (holds (eq-eqb before 1 e)) w)

  -- the move from 1 to 2 keeps a threshold from 50 to the rated volts
  keeps : before ≡ 1 → T (between 2 7 q) → (q ≡ 2) × ((least_volts ≤ threshold_now c h) × (threshold_now c h ≤ c.volts))
  keeps e w =
      let to-2 : T (eqb q 2 && is_pass (verdict c i s)) = and_l (eqb q 2 && is_pass (verdict c i s)) (may c i s) (moved_on e w) in (
        eqb→eq q 2 (and_l (eqb q 2) (is_pass (verdict c i s)) to-2),
        kept_range c i s wide e
            (ordinary_yes c i s (and_r (eqb q 2) (is_pass (verdict c i s)) to-2))
            (move_met c i s (and_r (eqb q 2 && is_pass (verdict c i s)) (may c i s) (moved_on e w))),
      )

  -- the threshold after the tick, by whether it is kept in it
  abbrev keeping : Bool
  keeping = eqb before handshake && eqb q locking

  after : (b : Bool) → keeping ≡ b → (decide c i s).threshold ≡ cond b (threshold_now c h) s.threshold
  after b e = on.threshold ∙ ap (λ (x : Bool). cond x (threshold_now c h) s.threshold) e

  threshold_after : T (eqb (decide c i s).threshold 0 || between least_volts c.volts (decide c i s).threshold)
  threshold_after = go keeping refl
    where
      go : (b : Bool) → keeping ≡ b → T (eqb (decide c i s).threshold 0 || between least_volts c.volts (decide c i s).threshold)
      go true e =
          let was-1 : before ≡ 1 = eqb→eq before 1 (and_l (eqb before 1) (eqb q 2) (holds e)) in
          let now-2 : q ≡ 2 = eqb→eq q 2 (and_r (eqb before 1) (eqb q 2) (holds e)) in
          let k = keeps was-1 (between_of 2 7 q (omega arith) (omega arith)) in
          let is : (decide c i s).threshold ≡ threshold_now c h = after true e in
          or_r (eqb (decide c i s).threshold 0) (between least_volts c.volts (decide c i s).threshold)
          (between_of least_volts c.volts (decide c i s).threshold (omega (arith, k.1.0)) (omega (arith, k.1.1)))
      go false e = rw (after false e) g.threshold

  unkept_after : q ≡ 1 → (decide c i s).threshold ≡ 0
  unkept_after e =
      let not-kept : keeping ≡ false = is_false keeping (λ t. let two : q ≡ 2 = eqb→eq q 2 (and_r (eqb before 1) (eqb q 2) t) in omega arith) in
      let one : T (eqb q 1) = holds (eq-eqb q 1 e) in
      after false not-kept
      ∙ go one (or_yes (eqb before 0) (eqb before 1) (mp (eqb q 1) (eqb before 0 || eqb before 1) (phases.into_1 before g.phase (verdict c i s) (may c i s)) one))
    where
      go : T (eqb q 1) → T (eqb before 0) ⊎ T (eqb before 1) → s.threshold ≡ 0
      go one (inl zero) = absurd (subst T off (and_i (eqb before 0) (eqb q 1) zero one))
      go one (inr was-1) = g.unkept (eqb→eq before 1 was-1)

  kept_after : T (between 2 7 q) → (decide c i s).threshold ≡ 0 → ⊥
  kept_after w e =
      go
      (or_yes (between 2 7 before) (eqb before 1 && may c i s)
      (mp (between 2 7 q) (between 2 7 before || eqb before 1 && may c i s) (phases.into_2_7 before g.phase (verdict c i s) (may c i s)) w))
    where
      go : T (between 2 7 before) ⊎ T (eqb before 1 && may c i s) → ⊥
      go (inl was) =
          let lo : 2 ≤ before = between_lo 2 7 before was in
          let not-kept : keeping ≡ false = is_false keeping (λ t. let one : before ≡ 1 = eqb→eq before 1 (and_l (eqb before 1) (eqb q 2) t) in omega arith) in
          g.kept was (sym (after false not-kept) ∙ e)
      go (inr was) =
          let one : before ≡ 1 = eqb→eq before 1 (and_l (eqb before 1) (may c i s) was) in
          let k = keeps one w in
          let kept : keeping ≡ true = rw (eq-eqb before 1 one, eq-eqb q 2 k.0) in
          let is : (decide c i s).threshold ≡ threshold_now c h = after true kept in
          omega (arith, k.1.0)

  command_after : (decide c i s).command ≤ c.amperes
  command_after = rw on.command (go (between 6 7 q))
    where
      go : (b : Bool) → cond b s.command 0 ≤ c.amperes
      go true = g.most
      go false = omega arith

  command_gone : (T (between 6 7 q) → ⊥) → (decide c i s).command ≡ 0
  command_gone n = rw (on.command, is_false (between 6 7 q) n)

  reason_after_lem : T (is_known (decide c i s).stage.reason)
  unfolding reason_after
  reason_after_lem = rw on.reason (go (between 7 8 before || eqb (reason_of (verdict c i s)) no_reason))
    where
      go : (b : Bool) → T (is_known (cond b s.stage.reason (reason_of (verdict c i s))))
      go true = g.reason
      go false = reason_known (view_of c i h) h

  went_good : Good c (decide c i s)
  went_good =
      let q-is : (decide c i s).stage.phase ≡ q = decide_phase c i s in
      record {
        phase = omega (arith, leb→le q 10 (phases.next_range before g.phase (verdict c i s) (may c i s)));
        reason = reason_after_lem;
        most = command_after;
        unpowered = λ n. command_gone (λ w. n (rw q-is w));
        threshold = threshold_after;
        unkept = λ e. unkept_after (sym q-is ∙ e);
        kept = λ w. kept_after (rw q-is at w);
      }

module _ (c : Ratings) (i : Input) (s : Lead) (wide : least_volts ≤ c.volts) where
  pub decide_good : Good c s → Good c (decide c i s)
  decide_good g = go (start c i s) refl
    where
      go : (b : Bool) → start c i s ≡ b → Good c (decide c i s)
      go true e =
          let was : s.stage.phase ≡ 0 = eqb→eq s.stage.phase 0 (and_l (eqb s.stage.phase 0) (eqb (phase_after c i s) 1) (holds e)) in
          let is : phase_after c i s ≡ 1 = eqb→eq (phase_after c i s) 1 (and_r (eqb s.stage.phase 0) (eqb (phase_after c i s) 1) (holds e)) in
          rw (started c i s was is) (blank_good c 1 (omega arith))
      go false e = went_good c i s wide g e

  -- the law for those above, at any level
  pub good_stays : (level : ℕ) → T (good_lead c s) → T (good_lead c (commanded c level (decide c i s)))
  good_stays level t =
      good_of c (commanded c level (decide c i s)) (command_good c level (decide c i s) (decide_good (good_says c s t)))
