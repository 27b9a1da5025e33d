-- 2026-06: a lead whose car withdraws and says so is cut off with 23; 23 there says that it did, and 14 that permission was open and that it
-- did not say so. Assumes nothing.
use mathlib.Core.Bool.{Bool, not, ◌&&◌}
use mathlib.Core.List.{List}
use mathlib.Core.Path.{◌≡◌, sym, ap, ◌∙◌}
use Prim.Native.Nat.{ℕ, suc, ◌≤◌, ◌<◌}
use native.Mathlib.Omega.{arith}
use lib.Dec.{T, T_not, not_T, eqb, eqb→eq}
use lib.Ieee.Fits.{and_i, and_l, and_r}
use borrow.Author.Tests.{eq-eqb}
use lib.ListN.{length, get_or}
use Rattle.common.specs.Tests.{between}
use Rattle.common.proofs.Bools.{holds, imp, mp, between_of, between_lo, between_hi}
use Rattle.lead.specs.Names.{permission_open, not_enabled}
use Rattle.lead.specs.Questions.{revokes, reason_of}
use Rattle.std.specs.Prelude.{Result, Err, ⊤}
use Rattle.lead.specs.declared.questions.Stop.{Stop}
use Rattle.lead.specs.declared.questions.Stop.TheVariants.{Urgent}
use Rattle.lead.proofs.Phases.{is_urgent, urgent_with, from2_6, from_2_6}
use Rattle.lead.proofs.Withdrawals as laws
use Rattle.lead_records.proofs.Shown.{input_contacts, input_status}
use Rattle.post.specs.declared.head.Head.{Head}
use Rattle.post.proofs.RuledTicks.{shown_reason}
use Rattle.safety.specs.Lists.{Tick}
use Rattle.safety.specs.Demand3.{no_tick, inputs_at, command_at, leads_before, phase_before, phase_at, NoAt, verdict_at, StopsUrgently, contacts_at, status_at, Withdraws}
use Rattle.safety.specs.Withdrawals.{reason_at, CutOff, Withdrawals}
use Rattle.safety.proofs.Outputs.{Left}
use Rattle.safety.proofs.Steps.{lead, input, in_tick, reason_is, unpowered}

module _ (h : Head) (ticks : List Tick) (t k : ℕ) where
  abbrev p : ℕ
  p = phase_before h ticks t k

  -- what the input says, as the lead reads it
  abbrev told : Bool
  told = revokes (input h ticks k t).frames.status

  abbrev away : Bool
  away = not (input h ticks k t).contacts.permission

  -- the stop, by the rules
  module _ (w : Withdraws h ticks t k) where
    pub stops_urgently : StopsUrgently h ticks t k not_enabled
    stops_urgently =
        laws.withdrawn h.ratings (input h ticks k t) (lead h ticks k t) w.phases w.passed (rw input_contacts w.opened)
        (rw input_status w.said)

    pub gets_no : NoAt h ticks t k permission_open
    gets_no =
        let hi : p ≤ 6 = between_hi 2 6 p w.phases in
        laws.opened h.ratings (input h ticks k t) (lead h ticks k t) (between_of 2 7 p (between_lo 2 6 p w.phases) (omega arith))
        (rw input_contacts w.opened)

  withdraws_then : StopsUrgently h ticks t k not_enabled → Withdraws h ticks t k
  withdraws_then e =
      let both : T (between 2 6 p && told && away) = laws.urgent_23 h.ratings (input h ticks k t) (lead h ticks k t) e in
      let first : T (between 2 6 p && told) = and_l (between 2 6 p && told) away both in
      let reason : reason_of (verdict_at h ticks t k) ≡ not_enabled = ap reason_of e in
      record {
        phases = and_l (between 2 6 p) told first;
        passed =
            λ n asked said.
            omega (arith, laws.sooner h.ratings (input h ticks k t) (lead h ticks k t) n (between_hi 11 13 n asked) said);
        opened = rw input_contacts at (and_r (between 2 6 p && told) away both);
        said = rw input_status at (and_r (between 2 6 p) told first);
      }

module _
    (h : Head) (ticks : List Tick) (left : (t : ℕ) → t < length ticks → Left h (get_or ticks t no_tick) (leads_before h ticks t))
    (shown : (t k : ℕ) → t < length ticks → k < h.leads → command_at h ticks t k ≡ (leads_before h ticks (suc t) k).command) where
  module _ (t k : ℕ) (x : t < length ticks) (y : k < h.leads) where
    abbrev q : ℕ
    q = phase_at h ticks t k

    abbrev v : Result ⊤ Stop
    v = verdict_at h ticks t k

    -- a tick that begins in 2 to 6
    module _ (began : T (between 2 6 (p h ticks t k))) where
      by_urgent : T (imp (is_urgent v) (eqb q 9) && imp (eqb q 9) (is_urgent v))
      by_urgent =
          mp (between 2 6 (p h ticks t k)) (imp (is_urgent v) (eqb q 9) && imp (eqb q 9) (is_urgent v))
          (in_tick h ticks k from2_6 from_2_6 t) began

      into_9 : T (is_urgent v) → q ≡ 9
      into_9 u = eqb→eq q 9 (mp (is_urgent v) (eqb q 9) (and_l (imp (is_urgent v) (eqb q 9)) (imp (eqb q 9) (is_urgent v)) by_urgent) u)

      urgently : q ≡ 9 → T (is_urgent v)
      urgently e =
          mp (eqb q 9) (is_urgent v) (and_r (imp (is_urgent v) (eqb q 9)) (imp (eqb q 9) (is_urgent v)) by_urgent) (holds (eq-eqb q 9 e))

      reason_says : reason_at h ticks t k ≡ reason_of v
      reason_says =
          let lo : 2 ≤ p h ticks t k = between_lo 2 6 (p h ticks t k) began in
          rw (left t x).output (shown_reason h (inputs_at h ticks t) (leads_before h ticks t) k y)
          ∙ reason_is h ticks k t (between_of 1 6 (p h ticks t k) (omega arith) (between_hi 2 6 (p h ticks t k) began))

      abbrev said : Bool
      said = between 2 6 (p h ticks t k) && told h ticks t k

      only_then : q ≡ 9 → reason_at h ticks t k ≡ 23 → Withdraws h ticks t k
      only_then nine shows =
          withdraws_then h ticks t k (urgent_with v (urgently nine) ∙ ap (λ (n : ℕ). Err (Urgent n)) (sym reason_says ∙ shows))

      shows_14 : reason_at h ticks t k ≡ 14 → T (not (contacts_at h ticks t k).permission) × T (not (revokes (status_at h ticks t k)))
      shows_14 shows =
          let both : T (not said && away h ticks t k) =
          laws.shows_14 h.ratings (input h ticks k t) (lead h ticks k t) (sym reason_says ∙ shows) in
          let untold : T (told h ticks t k) → ⊥ =
          λ y. T_not said (and_l (not said) (away h ticks t k) both) (and_i (between 2 6 (p h ticks t k)) (told h ticks t k) began y) in
          (rw input_contacts at (and_r (not said) (away h ticks t k) both), rw input_status at (not_T (told h ticks t k) untold))

    shows_23 : Withdraws h ticks t k → CutOff h ticks t k 23
    shows_23 w =
        let stop : v ≡ Err (Urgent 23) = stops_urgently h ticks t k w in
        let nine : q ≡ 9 = into_9 w.phases (rw stop tt) in
        record {
          phase = nine;
          command = shown t k x y ∙ unpowered h ticks k t (λ on. omega (arith, between_hi 6 7 q on));
          shown = reason_says w.phases ∙ ap reason_of stop;
        }

  pub withdrawals_of : Withdrawals h ticks
  withdrawals_of =
      record { shows_23 = shows_23; only_then = λ t k x y stops. only_then t k x y stops.0 stops.1; shows_14 = shows_14 }
