-- Request 2026-05: no command is above what the car is offered, and a lead that charges and wants more gets just that. Assumes nothing.
use mathlib.Core.Bool.{Bool, true, false, cond}
use mathlib.Core.List.{List}
use mathlib.Core.Path.{◌≡◌, refl, sym, ap, ◌∙◌}
use Prim.Native.Nat.{ℕ, suc, ◌≤◌, ◌<◌}
use native.Mathlib.Omega.{arith}
use lib.ListN.{length, get_or}
use Rattle.common.specs.Tests.{between}
use Rattle.lead.specs.Leads.{fresh}
use Rattle.lead.specs.Power.{offered}
use Rattle.lead.specs.declared.state.Lead.{Lead}
use Rattle.lead.specs.declared.state.Stage.{Stage}
use Rattle.lead.proofs.Commands.{command_stage, offered_commanded, command_6, command_offered}
use Rattle.post.specs.Rules.{decided_at, lead_after}
use Rattle.post.specs.declared.head.Head.{Head}
use Rattle.post.proofs.Posts.{Sound}
use Rattle.post.proofs.RuledTicks.{shown_offer}
use Rattle.safety.specs.Lists.{Tick}
use Rattle.safety.specs.Demand3.{no_tick, inputs_at, command_at, leads_before, phase_at}
use Rattle.safety.specs.Offers.{offer_at, wanted_amperes_at, ruled_offer_at, Offers}
use Rattle.safety.proofs.Outputs.{Left, good_before}
use Rattle.safety.proofs.Steps.{level_at, command, unsent}

module _
    (h : Head) (ticks : List Tick) (sound : Sound h (λ k. fresh))
    (left : (t : ℕ) → t < length ticks → Left h (get_or ticks t no_tick) (leads_before h ticks t))
    (shown : (t k : ℕ) → t < length ticks → k < h.leads → command_at h ticks t k ≡ (leads_before h ticks (suc t) k).command) where
  module _ (t k : ℕ) (x : t < length ticks) (y : k < h.leads) where
    abbrev decided : Lead
    decided = decided_at h (inputs_at h ticks t) (leads_before h ticks t) k

    offered_is : offer_at h ticks t k ≡ cond (between 1 9 (phase_at h ticks t k)) (ruled_offer_at h ticks t k) 0
    offered_is = rw (left t x).output (shown_offer h (inputs_at h ticks t) (leads_before h ticks t) k y)

    -- the command changes nothing that the offer looks at
    by_decision : ruled_offer_at h ticks t k ≡ offered h.ratings (level_at h ticks t) decided
    unfolding lead_after
    by_decision = offered_commanded h.ratings (level_at h ticks t) decided

    within : command h ticks k t ≤ ruled_offer_at h ticks t k
    unfolding lead_after
    within =
        rw by_decision (command_offered h.ratings (level_at h ticks t) decided (good_before h sound ticks (suc t) k y).most)

    never_above : command_at h ticks t k ≤ offer_at h ticks t k
    never_above = rw (shown t k x y, offered_is) (go (between 1 9 (phase_at h ticks t k)) refl)
      where
        go : (b : Bool) → between 1 9 (phase_at h ticks t k) ≡ b → command h ticks k t ≤ cond b (ruled_offer_at h ticks t k) 0
        go true e = within
        go false e = omega (arith, unsent h ticks k t e)

    exactly : phase_at h ticks t k ≡ 6 → offer_at h ticks t k < wanted_amperes_at h ticks t k → command_at h ticks t k ≡ offer_at h ticks t k
    unfolding lead_after
    exactly six more =
        let sent : offer_at h ticks t k ≡ offered h.ratings (level_at h ticks t) decided =
        offered_is ∙ ap (λ (p : ℕ). cond (between 1 9 p) (ruled_offer_at h ticks t k) 0) six ∙ by_decision in
        let charges : decided.stage.phase ≡ 6 =
        sym (ap (λ (g : Stage). g.phase) (command_stage h.ratings (level_at h ticks t) decided)) ∙ six in
        omega (arith, shown t k x y, command_6 h.ratings (level_at h ticks t) decided charges)

  pub offers_of : Offers h ticks
  offers_of = record { offered_is = offered_is; never_above = never_above; exactly = exactly }
