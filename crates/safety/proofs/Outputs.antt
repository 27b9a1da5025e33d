-- In every list of calls from a sound post, the ticks' outputs and states are those of the rules' trace. Assumes nothing.
use mathlib.Core.Bool.{Bool, true, false, cond}
use mathlib.Core.List.{List, [], ◌∷◌}
use mathlib.Core.Path.{◌≡◌, refl, sym, subst, ap}
use Prim.Native.Nat.{ℕ, zero, suc, ◌<◌}
use native.Mathlib.Omega.{arith}
use lib.Dec.{eqb}
use lib.ListN.{length, get_or}
use borrow.Author.Tests.{ne_eqb}
use Rattle.common.proofs.Refused.{either_way}
use Rattle.lead.specs.Leads.{fresh}
use Rattle.lead.specs.declared.state.Lead.{Lead}
use Rattle.lead.proofs.Goodness.{Good, good_says}
use Rattle.post.specs.Rules.{TickInput, tick_input, lead_after, shown_after, post_bytes}
use Rattle.post.specs.Calls.{setup_of, Ticked}
use Rattle.post.specs.declared.head.Head.{Head}
use Rattle.post.proofs.Posts.{Sound}
use Rattle.post.proofs.RuledTicks.{sound_stays, ruled_tick, tick_is, shown_command}
use Rattle.safety.specs.Lists.{Call, setup, tick, Tick, ticks_of}
use Rattle.safety.specs.Demand3.{no_tick, inputs_at, command_at, leads_before}

module _ (h : Head) where
  -- the rules' trace from any leads on
  abbrev since : (ℕ → Lead) → List Tick → ℕ → ℕ → Lead
  since leads ticks zero = leads
  since leads ticks (suc t) = lead_after h (inputs_at h ticks t) (since leads ticks t)

  since_fresh : (ticks : List Tick) (t : ℕ) → since (λ k. fresh) ticks t ≡ leads_before h ticks t
  since_fresh ticks zero = refl
  since_fresh ticks (suc t) = ap (lead_after h (inputs_at h ticks t)) (since_fresh ticks t)

  -- a tick more at the front
  since_later : (leads : ℕ → Lead) (first : Tick) (ticks : List Tick) (t : ℕ) → since leads (first ∷ ticks) (suc t) ≡ since
      (lead_after h first.input leads) ticks t
  since_later leads first ticks zero = refl
  since_later leads first ticks (suc t) = ap (lead_after h (inputs_at h ticks t)) (since_later leads first ticks t)

  -- a tick's bytes are those that the rules give, where `leads` are as it found them
  pub record Left (t : Tick) (leads : ℕ → Lead) : Type 0 where
    pub output : t.output ≡ shown_after h t.input leads
    pub state : t.state ≡ post_bytes h (lead_after h t.input leads)

  -- so are those of every tick of a list from a sound post on
  abbrev AllLeft : (ℕ → Lead) → List Tick → Type 0
  AllLeft leads ticks = (t : ℕ) → t < length ticks → Left (get_or ticks t no_tick) (since leads ticks t)

  left_more :
      (leads : ℕ → Lead) (i : TickInput) (ticks : List Tick)
      → AllLeft (lead_after h i leads) ticks
      → AllLeft leads (record { input = i; output = shown_after h i leads; state = post_bytes h (lead_after h i leads) } ∷ ticks)
  left_more leads i ticks rest zero x = record { output = refl; state = refl }
  left_more leads i ticks rest (suc t) x =
      subst (Left (get_or ticks t no_tick)) (sym (since_later leads _ ticks t)) (rest t (omega arith))

  left_since : (calls : List Call) (leads : ℕ → Lead) → Sound h leads → AllLeft leads (ticks_of (post_bytes h leads) calls)
  unfolding ticks_of
  left_since [] leads s = λ t x. absurd (omega arith)
  left_since (setup other_head buffer ∷ calls) leads s = go (eqb (setup_of other_head buffer).number 0) (left_since calls leads s)
    where
      go : (b : Bool) → AllLeft leads (ticks_of (post_bytes h leads) calls) → AllLeft leads (cond b [] (ticks_of (post_bytes h leads) calls))
      go true rest = λ t x. absurd (omega arith)
      go false rest = rest
  left_since (tick input output ∷ calls) leads s =
      rw (tick_is h input leads s output)
      (go (left_since calls leads s) (left_since calls (lead_after h (tick_input input) leads) (sound_stays h (tick_input input) leads s)))
    where
      next : Ticked → List Tick
      next done = cond (eqb done.number 0)
          (record { input = tick_input input; output = done.output; state = done.state } ∷ ticks_of done.state calls)
          (ticks_of done.state calls)

      go :
          AllLeft leads (ticks_of (post_bytes h leads) calls)
          → AllLeft (lead_after h (tick_input input) leads) (ticks_of (post_bytes h (lead_after h (tick_input input) leads)) calls)
          → AllLeft leads (next (ruled_tick h input leads output))
      go refused done =
          either_way _ _ (λ (x : Ticked). AllLeft leads (next x)) _ (λ n. rw (ne_eqb _ _ n) refused)
          (λ z. left_more leads (tick_input input) (ticks_of (post_bytes h (lead_after h (tick_input input) leads)) calls) done)

  -- the trace keeps its leads good
  sound_before : Sound h (λ k. fresh) → (ticks : List Tick) (t : ℕ) → Sound h (leads_before h ticks t)
  sound_before s ticks zero = s
  sound_before s ticks (suc t) = sound_stays h (inputs_at h ticks t) (leads_before h ticks t) (sound_before s ticks t)

  pub good_before : Sound h (λ k. fresh) → (ticks : List Tick) (t k : ℕ) → k < h.leads → Good h.ratings (leads_before h ticks t k)
  good_before s ticks t k y = good_says h.ratings (leads_before h ticks t k) ((sound_before s ticks t).each k y)

  -- a list of calls from a fresh post
  module _ (calls : List Call) (s : Sound h (λ k. fresh)) where
    abbrev ticks : List Tick
    ticks = ticks_of (post_bytes h (λ k. fresh)) calls

    pub left : (t : ℕ) → t < length ticks → Left (get_or ticks t no_tick) (leads_before h ticks t)
    left t x = subst (Left (get_or ticks t no_tick)) (since_fresh ticks t) (left_since calls (λ k. fresh) s t x)

    -- the outputs show the commands of the rules' trace
    pub shown : (t k : ℕ) → t < length ticks → k < h.leads → command_at h ticks t k ≡ (leads_before h ticks (suc t) k).command
    shown t k x y = rw (left t x).output (shown_command h (inputs_at h ticks t) (leads_before h ticks t) k y)
