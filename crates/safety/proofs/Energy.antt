-- Request 2026-01: each count is the sum over the outputs since the lead's start. Assumes nothing.
use mathlib.Core.Bool.{Bool, true, false, cond, ◌||◌}
use mathlib.Core.List.{List}
use mathlib.Core.Logic.{◌⊎◌, inl, inr}
use mathlib.Core.Path.{◌≡◌, refl, sym, ap, ◌∙◌}
use Prim.Native.Nat.{ℕ, zero, suc, ◌+◌, ◌-◌, ◌*◌, ◌≤◌, ◌<◌, min}
use native.Mathlib.Decide.{ℕ_discrete, le_ind}
use native.Mathlib.Nat.{zero-add, mul-le-mul}
use native.Mathlib.Omega.{arith}
use lib.Dec.{T, eqb, eqb→eq}
use lib.Ieee.Fits.{and_l, and_r}
use lib.ListN.{length, get_or}
use borrow.Author.Tests.{eq-eqb}
use mir.Facts.{or_yes}
use Rattle.common.specs.Tests.{between}
use Rattle.common.proofs.Bools.{holds, is_false, mp, between_lo, between_hi}
use Rattle.sharing.specs.Level.{sum}
use Rattle.lead.specs.Figures.{least_volts, most_energy}
use Rattle.lead.specs.Leads.{fresh}
use Rattle.lead.specs.declared.state.Lead.{Lead}
use Rattle.lead.proofs.Phases.{from0, from_0}
use Rattle.lead.proofs.Ticks.{start}
use Rattle.lead.proofs.Goodness.{Good}
use Rattle.lead.proofs.WholeTicks.{ticked_energy}
use Rattle.post.specs.Rules.{decided_at, lead_after}
use Rattle.post.specs.declared.head.Head.{Head}
use Rattle.post.proofs.Posts.{Sound, energy_back}
use Rattle.post.proofs.RuledTicks.{shown_command, shown_threshold}
use Rattle.post.proofs.Taken.{Taken, good_taken}
use Rattle.safety.specs.Lists.{Tick}
use Rattle.safety.specs.Demand3.{no_tick, inputs_at, leads_before, phase_before, phase_at, Moves}
use Rattle.safety.specs.Energy.{short_list, energy_at, watts_at, sum_over, LatestStart, NeverStarted, Energy}
use Rattle.safety.proofs.Outputs.{Left, good_before}
use Rattle.safety.proofs.Steps.{one_more, level_at, input, phase_most, phase_is, in_tick, unpowered, unsent}

-- no sum passes as many times its largest part
sum_most : (n : ℕ) (f : ℕ → ℕ) (most : ℕ) → ((m : ℕ) → m < n → f m ≤ most) → sum n f ≤ n * most
sum_most zero f most each = omega arith
sum_most (suc n) f most each = omega (arith, sum_most n f most (λ m x. each m (omega arith)), each n (omega arith))

-- a lead has a latest start or none
module _ (h : Head) (ticks : List Tick) (k : ℕ) where
  abbrev Started : ℕ → Type 0
  Started u = Moves h ticks u k 0 1

  abbrev LatestOrNever : ℕ → Type 0
  LatestOrNever t = ((first : ℕ) × LatestStart h ticks first t k) ⊎ NeverStarted h ticks t k

  started_in : (u : ℕ) → Dec (Started u)
  started_in u = go (ℕ_discrete (phase_before h ticks u k) 0) (ℕ_discrete (phase_at h ticks u k) 1)
    where
      go : Dec (phase_before h ticks u k ≡ 0) → Dec (phase_at h ticks u k ≡ 1) → Dec (Started u)
      go (yes a) (yes b) = yes (a, b)
      go (no a) b = no (λ s. a s.0)
      go (yes a) (no b) = no (λ s. b s.1)

  starts_now : (t : ℕ) → Started t → LatestOrNever t
  starts_now t now = inl (t, record { sofar = omega arith; started = now; latest = λ u x y. absurd (omega arith) })

  latest_or_never : (t : ℕ) → LatestOrNever t
  latest_or_never zero = go (started_in 0)
    where
      go : Dec (Started 0) → LatestOrNever 0
      go (yes now) = starts_now 0 now
      go (no not-now) = inr (λ u x. one_more {P = λ v. Started v → ⊥} 0 (λ v y. absurd (omega arith)) not-now u (omega arith))
  latest_or_never (suc t) = go (started_in (suc t)) (latest_or_never t)
    where
      go : Dec (Started (suc t)) → LatestOrNever t → LatestOrNever (suc t)
      go (yes now) r = starts_now (suc t) now
      go (no not-now) (inl s) =
          inl (
            s.0,
            record {
              sofar = omega (arith, s.1.sofar);
              started = s.1.started;
              latest =
                  λ u x y.
                  one_more {P = λ v. s.0 < v → Started v → ⊥} (suc t) (λ v z a. s.1.latest v a (omega arith)) (λ a. not-now)
                  u (omega arith) x;
            },
          )
      go (no not-now) (inr never) =
          inr (λ u x. one_more {P = λ v. Started v → ⊥} (suc t) (λ v y. never v (omega arith)) not-now u (omega arith))

module _
    (h : Head) (ticks : List Tick) (sound : Sound h (λ k. fresh))
    (left : (t : ℕ) → t < length ticks → Left h (get_or ticks t no_tick) (leads_before h ticks t)) where
  module _ (k : ℕ) (y : k < h.leads) where
    -- a lead in tick t: as it found it, and as it left it
    abbrev before : ℕ → Lead
    before t = leads_before h ticks t k

    abbrev after : ℕ → Lead
    after t = leads_before h ticks (suc t) k

    abbrev phase : ℕ → ℕ
    phase t = phase_before h ticks t k

    abbrev starts : ℕ → Bool
    starts t = start h.ratings (input h ticks k t) (before t)

    abbrev watts : ℕ → ℕ
    watts t = (after t).command * (after t).threshold

    good : (t : ℕ) → Good h.ratings (after t)
    good t = good_before h sound ticks (suc t) k y

    -- the state's bytes
    energy_is : (t : ℕ) → t < length ticks → energy_at h ticks t k ≡ (after t).energy
    energy_is t x = rw (left t x).state (energy_back h (leads_before h ticks (suc t)) k y)

    -- the output's bytes: where no threshold is shown the command is 0
    watts_are : (t : ℕ) → t < length ticks → watts_at h ticks t k ≡ watts t
    watts_are t x =
        rw (
          (left t x).output,
          shown_command h (inputs_at h ticks t) (leads_before h ticks t) k y,
          shown_threshold h (inputs_at h ticks t) (leads_before h ticks t) k y,
        )
        (go (between 1 9 (phase (suc t))) refl)
      where
        go : (b : Bool) → between 1 9 (phase (suc t)) ≡ b → (after t).command * cond b (after t).threshold 0 ≡ watts t
        go true e = refl
        go false e = rw (unsent h ticks k t e) (omega arith)

    -- a tick of the rules
    energy_next : (t : ℕ) → (after t).energy ≡ min (cond (starts t) 0 (before t).energy + watts t) most_energy
    unfolding lead_after decided_at
    energy_next t = ticked_energy h.ratings (input h ticks k t) (before t) (phase_most h ticks k t) (level_at h ticks t)

    energy_started : (t : ℕ) → Moves h ticks t k 0 1 → (after t).energy ≡ min (watts t) most_energy
    energy_started t moved = energy_next t ∙ rw (eq-eqb _ _ moved.0, eq-eqb _ _ (sym (phase_is h ticks k t) ∙ moved.1)) (omega arith)

    energy_kept : (t : ℕ) → (Moves h ticks t k 0 1 → ⊥) → (after t).energy ≡ min ((before t).energy + watts t) most_energy
    energy_kept t stays = energy_next t ∙ rw (is_false (starts t) moved)
      where
        moved : T (starts t) → ⊥
        moved w =
            let was : T (eqb (phase t) 0) = and_l (eqb (phase t) 0) _ w in
            let is = and_r (eqb (phase t) 0) _ w in
            stays (eqb→eq (phase t) 0 was, phase_is h ticks k t ∙ eqb→eq _ 1 is)

    -- the sum in the tick of the start, and a tick later
    sum_first : (first : ℕ) → sum_over h ticks first first k ≡ watts_at h ticks first k
    sum_first first =
        let one : suc first - first ≡ 1 = omega arith in
        let same : first + 0 ≡ first = omega arith in
        ap (λ n. sum n (λ m. watts_at h ticks (first + m) k)) one ∙ zero-add _ ∙ ap (λ t. watts_at h ticks t k) same

    sum_next : (first t : ℕ) → first ≤ t → sum_over h ticks first (suc t) k ≡ sum_over h ticks first t k + watts_at h ticks (suc t) k
    sum_next first t x =
        let more : suc (suc t) - first ≡ suc (suc t - first) = omega arith in
        let last : first + (suc t - first) ≡ suc t = omega arith in
        ap (λ n. sum n (λ m. watts_at h ticks (first + m) k)) more
        ∙ ap (λ u. sum_over h ticks first t k + watts_at h ticks u k) last

    -- from the start on, tick by tick
    abbrev Counted : ℕ → ℕ → Type 0
    Counted first t =
        t < length ticks
        → ((u : ℕ) → first < u → u ≤ t → Moves h ticks u k 0 1 → ⊥)
        → (after t).energy ≡ min (sum_over h ticks first t k) most_energy

    counted_since : (first : ℕ) → Moves h ticks first k 0 1 → (t : ℕ) → first ≤ t → Counted first t
    counted_since first moved = le_ind (Counted first) begun step
      where
        begun : Counted first first
        begun x latest =
            energy_started first moved ∙ ap (λ n. min n most_energy) (sym (watts_are first x) ∙ sym (sum_first first))

        step : (t : ℕ) → first ≤ t → Counted first t → Counted first (suc t)
        step t z counted x latest =
            let was : (after t).energy ≡ min (sum_over h ticks first t k) most_energy =
            counted (omega arith) (λ u a b. latest u a (omega arith)) in
            let now : (after (suc t)).energy ≡ min ((after t).energy + watts (suc t)) most_energy =
            energy_kept (suc t) (latest (suc t) (omega arith) (omega arith)) in
            let w = watts_are (suc t) x in
            let s = sum_next first t z in
            omega arith

    -- without a start the lead stays in 0
    idle_before : (t : ℕ) → ((u : ℕ) → u < t → Moves h ticks u k 0 1 → ⊥) → (phase t ≡ 0) × ((before t).energy ≡ 0)
    idle_before zero never = (refl, refl)
    idle_before (suc t) never =
        let idle = idle_before t (λ u x. never u (omega arith)) in
        let still : phase (suc t) ≡ 0 =
        go idle.0
        (or_yes (eqb (phase (suc t)) 0) (eqb (phase (suc t)) 1)
        (mp (eqb (phase t) 0) (eqb (phase (suc t)) 0 || eqb (phase (suc t)) 1)
        (in_tick h ticks k from0 from_0 t)
        (holds (eq-eqb (phase t) 0 idle.0)))) in
        let none : (after t).command ≡ 0 = unpowered h ticks k t (λ w. omega (arith, between_lo 6 7 (phase (suc t)) w)) in
        let same = energy_kept t (never t (omega arith)) in
        let nothing : watts t ≡ 0 = rw none (omega arith) in
        (still, omega (arith, idle.1))
      where
        go :
            phase t ≡ 0
            → T (eqb (phase (suc t)) 0) ⊎ T (eqb (phase (suc t)) 1)
            → phase (suc t) ≡ 0
        go was (inl w) = eqb→eq (phase (suc t)) 0 w
        go was (inr w) = absurd (never t (omega arith) (was, eqb→eq (phase (suc t)) 1 w))

    -- a tick adds at most 200 A at 500 V
    watts_most : (t : ℕ) → t < length ticks → watts_at h ticks t k ≤ 100000
    watts_most t x =
        let taken : Taken h = good_taken h sound.head in
        let amperes : (after t).command ≤ 200 = omega (arith, (good t).most, taken.amperes_most) in
        let volts : (after t).threshold ≤ 500 = go (or_yes (eqb (after t).threshold 0) _ (good t).threshold) taken in
        let product : watts t ≤ 200 * 500 = mul-le-mul amperes volts in
        omega (arith, watts_are t x)
      where
        go :
            T (eqb (after t).threshold 0) ⊎ T (between least_volts h.ratings.volts (after t).threshold)
            → Taken h
            → (after t).threshold ≤ 500
        go (inl w) taken = omega (arith, eqb→eq (after t).threshold 0 w)
        go (inr w) taken = omega (arith, between_hi least_volts h.ratings.volts (after t).threshold w, taken.volts_most)

    -- so that in a short list the largest value is not reached
    sum_short : length ticks ≤ short_list → (t first : ℕ) → t < length ticks → first ≤ t → sum_over h ticks first t k ≤ most_energy
    sum_short short t first x z =
        let most : sum_over h ticks first t k ≤ (suc t - first) * 100000 =
        sum_most (suc t - first) _ 100000 (λ m b. watts_most (first + m) (omega arith)) in
        omega arith

  pub energy_of : Energy h ticks
  energy_of =
      record {
        started_or_never = λ t k. latest_or_never h ticks k t;
        counted = counted;
        never_started =
            λ t k x y never. energy_is k y t x ∙ (idle_before k y (suc t) (λ u z. never u (omega arith))).1;
        too_short =
            λ short t k first x y s.
            omega (arith, counted t k first x y s, sum_short k y short t first x s.sofar);
      }
    where
      counted :
          (t k first : ℕ)
          → t < length ticks
          → k < h.leads
          → LatestStart h ticks first t k
          → energy_at h ticks t k ≡ min (sum_over h ticks first t k) most_energy
      counted t k first x y s = energy_is k y t x ∙ counted_since k y first s.started t s.sofar x s.latest
