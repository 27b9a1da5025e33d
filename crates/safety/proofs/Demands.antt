-- Demands 2 and 3 of document 00 and the claims of requests 2026-01, 2026-05, 2026-06 and 2026-08, over every list of calls. Assumes nothing.
use mathlib.Core.Bool.{Bool, true, false, cond}
use mathlib.Core.List.{List, [], ◌∷◌, ◌++◌}
use mathlib.Core.Path.{◌≡◌, refl, sym, ap, ◌∙◌}
use Prim.Native.Nat.{ℕ, ◌<◌}
use lib.Dec.{eqb}
use borrow.Author.Tests.{eq-eqb, eqb-true}
use lib.ListN.{length, get_or}
use Rattle.common.specs.Refusals.{refusal_of}
use Rattle.common.proofs.Refused.{carried_out, either_way}
use Rattle.common.proofs.Bools.{holds}
use Rattle.lead.specs.Leads.{fresh}
use Rattle.post.specs.Rules.{post_bytes}
use Rattle.post.specs.Refusals.{head_rows, setup_rows, good_post}
use Rattle.post.specs.Calls.{SetUp, setup_of}
use Rattle.post.specs.declared.head.Head.{Head}
use Rattle.post.proofs.Taken.{head_taken, setup_head}
use Rattle.post.proofs.Posts.{Sound, fresh_sound, read_sound, read_again}
use Rattle.safety.specs.Lists.{Call, setup, tick, outcome, outcomes, Tick, ticks_of, stretches_of, EachStretch}
use Rattle.safety.specs.Trace.{post, unusable, kept_of, trace}
use Rattle.safety.specs.Demand3.{Demand3}
use Rattle.safety.specs.Energy.{Energy}
use Rattle.safety.specs.Offers.{Offers}
use Rattle.safety.specs.Withdrawals.{Withdrawals}
use Rattle.safety.specs.Ranges.{Ranges}
use Rattle.safety.proofs.Agreement.{all_follow}
use Rattle.safety.proofs.Numbers.{no_outcome, trace_never_6}
use Rattle.safety.proofs.Outputs.{left, shown}
use Rattle.safety.proofs.Energy.{energy_of}
use Rattle.safety.proofs.Offers.{offers_of}
use Rattle.safety.proofs.Withdrawals.{withdrawals_of}
use Rattle.safety.proofs.Ranges.{ranges_of}
use Rattle.safety.proofs.OverRules.{demand_3_of}

-- Demand 2: "Over every list of calls, each lead's phase, reason, commands and frames, and all state bytes, equal those of document 01's
-- rules": numbers, buffers and states of all calls, from any state of bytes.
pub demand_2 : (state : List ℕ) → ((n : ℕ) → get_or state n 0 < 256) → (calls : List Call) → outcomes state calls ≡ trace (kept_of state) calls
unfolding kept_of
demand_2 state small calls = go (good_post state) refl
  where
    go : (b : Bool) → good_post state ≡ b → outcomes state calls ≡ trace (kept_of state) calls
    go true e =
        rw e
        (ap (λ (s : List ℕ). outcomes s calls) (sym (read_again state (holds e) small))
        ∙ all_follow (post _ _) (read_sound state (holds e)) calls)
    go false e = rw e (all_follow (unusable state) e calls)

-- an accepted setup
module _ (h : Head) (buffer : List ℕ) (accepted : (setup_of h buffer).number ≡ 0) where
  abbrev refusal : ℕ
  refusal = refusal_of (setup_rows h (length buffer))

  -- nothing was refused, and the state is a fresh post's
  nothing_refused : refusal ≡ 0
  unfolding setup_of
  nothing_refused = either_way _ _ (λ (x : SetUp). x.number ≡ 0 → refusal ≡ 0) refusal (λ n e. e) (λ z e. z) accepted

  state_is : (setup_of h buffer).state ≡ post_bytes h (λ k. fresh)
  unfolding setup_of
  state_is = sym (ap (λ (x : SetUp). x.state) (carried_out _ _ refl nothing_refused))

  taken : refusal_of (head_rows h) ≡ 0
  taken = setup_head h (length buffer) nothing_refused

  sound : Sound h (λ k. fresh)
  sound = fresh_sound h (holds (eq-eqb _ _ taken))

  -- Demand 2 from an accepted setup on: the trace starts at fresh leads, and nothing is asked of any bytes.
  pub demand_2_from_setup : (calls : List Call) → outcomes (setup_of h buffer).state calls ≡ trace (post h (λ k. fresh)) calls
  demand_2_from_setup calls = rw state_is (all_follow (post h (λ k. fresh)) sound calls)

  -- no tick after an accepted setup returns 6, nor does a setup
  pub never_6 : (calls : List Call) (t : ℕ) → (get_or (outcomes (setup_of h buffer).state calls) t no_outcome).number ≡ 6 → ⊥
  never_6 calls t = rw (demand_2_from_setup calls) (trace_never_6 (post h (λ k. fresh)) tt calls t)

  -- Demand 3: "This holds for every list of ticks from a fresh post, whatever the cars send and the inputs hold"
  pub demand_3 : (calls : List Call) → Demand3 h (ticks_of (setup_of h buffer).state calls)
  demand_3 calls =
      rw state_is
      (demand_3_of h (ticks_of (post_bytes h (λ k. fresh)) calls) (head_taken h taken).amperes_most
      (shown h calls sound))

  -- Request 2026-01: each lead's count of watt-ticks, after every tick
  pub energy : (calls : List Call) → Energy h (ticks_of (setup_of h buffer).state calls)
  energy calls = rw state_is (energy_of h (ticks_of (post_bytes h (λ k. fresh)) calls) sound (left h calls sound))

  -- Request 2026-05: no command above what the car is offered, and just that where a lead that charges wants more
  pub offers : (calls : List Call) → Offers h (ticks_of (setup_of h buffer).state calls)
  offers calls = rw state_is (offers_of h (ticks_of (post_bytes h (λ k. fresh)) calls) sound (left h calls sound) (shown h calls sound))

  -- Request 2026-06: when a lead shows 23 and when 14
  pub withdrawals : (calls : List Call) → Withdrawals h (ticks_of (setup_of h buffer).state calls)
  withdrawals calls = rw state_is (withdrawals_of h (ticks_of (post_bytes h (λ k. fresh)) calls) (left h calls sound) (shown h calls sound))

  -- Request 2026-08: what each value that a reading stands for would have been answered
  pub ranges : (calls : List Call) → Ranges h (ticks_of (setup_of h buffer).state calls)
  ranges calls = ranges_of h (ticks_of (setup_of h buffer).state calls)

-- what an accepted setup leaves of the post's state
begins : (state : List ℕ) (h : Head) (buffer : List ℕ) → (setup_of h buffer).number ≡ 0 → (outcome state (setup h buffer)).state ≡ (setup_of h buffer).state
unfolding outcome
begins state h buffer accepted = rw accepted

-- a claim about every list from an accepted setup
module _
    (claim : Head → List Tick → Type 0)
    (claimed :
    (h : Head) (buffer : List ℕ)
    → (setup_of h buffer).number ≡ 0
    → (calls : List Call)
    → claim h (ticks_of (setup_of h buffer).state calls)) where
  each_stretch : (state : List ℕ) (calls : List Call) → EachStretch claim (stretches_of state calls)
  unfolding stretches_of
  each_stretch state [] = tt
  each_stretch state (tick input output ∷ calls) = each_stretch (outcome state (tick input output)).state calls
  each_stretch state (setup h buffer ∷ calls) = go (eqb (setup_of h buffer).number 0) refl (each_stretch _ calls)
    where
      after : List ℕ
      after = (outcome state (setup h buffer)).state

      go :
          (b : Bool)
          → eqb (setup_of h buffer).number 0 ≡ b
          → EachStretch claim (stretches_of after calls)
          → EachStretch claim (cond b (record { head = h; ticks = ticks_of after calls } ∷ []) [] ++ stretches_of after calls)
      go true e rest =
          let accepted : (setup_of h buffer).number ≡ 0 = eqb-true (setup_of h buffer).number 0 e in
          (rw (begins state h buffer accepted) (claimed h buffer accepted calls), rest)
      go false e rest = rest

-- Over any list of calls from any bytes: what every accepted setup begins satisfies demand 3 and the claims of requests 2026-01, 2026-05,
-- 2026-06 and 2026-08, up to the next one.
pub every_stretch : (state : List ℕ) (calls : List Call) → EachStretch Demand3 (stretches_of state calls)
every_stretch = each_stretch Demand3 demand_3

pub energy_every_stretch : (state : List ℕ) (calls : List Call) → EachStretch Energy (stretches_of state calls)
energy_every_stretch = each_stretch Energy energy

pub offers_every_stretch : (state : List ℕ) (calls : List Call) → EachStretch Offers (stretches_of state calls)
offers_every_stretch = each_stretch Offers offers

pub withdrawals_every_stretch : (state : List ℕ) (calls : List Call) → EachStretch Withdrawals (stretches_of state calls)
withdrawals_every_stretch = each_stretch Withdrawals withdrawals

pub ranges_every_stretch : (state : List ℕ) (calls : List Call) → EachStretch Ranges (stretches_of state calls)
ranges_every_stretch = each_stretch Ranges ranges
