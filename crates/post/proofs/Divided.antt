-- A table of turns, decided, levelled and commanded as the code does it, is the post after the tick. Assumes nothing.
use mathlib.Core.List.{List, ◌++◌}
use mathlib.Core.Path.{◌≡◌, ap, ◌∙◌}
use Prim.Native.Nat.{ℕ, ◌≤◌, ◌<◌}
use lib.ListN.{get_or, take}
use Rattle.sharing.specs.Level.{places, want_of, level_of}
use Rattle.lead.specs.Power.{wanted_watts}
use Rattle.lead_records.specs.States.{encode}
use Rattle.common.specs.Parts.{joined}
use Rattle.post.specs.Heads.{head_size, head_of}
use Rattle.post.specs.Rules.{TickInput, decided_at, want_after, level_after, lead_after, shown_at, shown_after}
use Rattle.post.specs.Calls.{leads_of, state_after}
use Rattle.lead_records.specs.Turns.{empty_turn, decided_turn, commanded_turn, turn_shown}
use Rattle.post.specs.Turns.{turn_at, among}
use Rattle.post.specs.declared.head.Head.{Head}
use Rattle.lead_records.specs.declared.turns.Turn.{Turn}
use Rattle.lead.specs.declared.state.Lead.{Lead}
use Rattle.common.proofs.Joined.{joined_same}
use Rattle.post.proofs.Tables.{among_in, among_past, empty_wants}
use Rattle.post.proofs.Levels.{level_of_leads}

module _ (h : Head) (i : TickInput) (leads : ℕ → Lead) (few : h.leads ≤ places) (turns : List Turn) (wants : List ℕ) (level : ℕ)
    (decided : (k : ℕ) → get_or turns k empty_turn ≡ among h.leads (turn_at h i leads) k)
    (wanted : (k : ℕ) → want_of wants k ≡ wanted_watts h.ratings (get_or turns k empty_turn).lead)
    (levelled : level ≡ level_of places (want_of wants) i.limit) where
  want : Turn → ℕ
  want t = wanted_watts h.ratings t.lead

  next : ℕ → Turn
  next k = commanded_turn h.ratings level (get_or turns k empty_turn)

  turn_in : (k : ℕ) → k < h.leads → get_or turns k empty_turn ≡ turn_at h i leads k
  turn_in k below = decided k ∙ among_in (turn_at h i leads) h.leads k below

  level_is : level ≡ level_after h i leads
  unfolding level_after decided_turn decided_at want
  level_is =
      levelled
      ∙ level_of_leads h.leads (want_after h i leads) (want_of wants) i.limit few
      (λ k below. wanted k ∙ ap want (turn_in k below))
      (λ k past. wanted k ∙ ap want (decided k ∙ among_past (turn_at h i leads) h.leads k past) ∙ empty_wants h.ratings)

  next_is : (k : ℕ) → k < h.leads → next k ≡ commanded_turn h.ratings (level_after h i leads) (turn_at h i leads k)
  unfolding next
  next_is k below =
      ap (λ (n : ℕ). commanded_turn h.ratings n (get_or turns k empty_turn)) level_is
      ∙ ap (commanded_turn h.ratings (level_after h i leads)) (turn_in k below)

  next_shows : (k : ℕ) → k < h.leads → turn_shown h.ratings level (next k) ≡ shown_at h i leads k
  unfolding commanded_turn decided_turn decided_at lead_after
  next_shows k below =
      ap (λ (n : ℕ). turn_shown h.ratings n (next k)) level_is ∙ ap (turn_shown h.ratings (level_after h i leads)) (next_is k below)

  states_are : joined h.leads (λ k. encode (next k).lead) ≡ joined h.leads (λ k. encode (lead_after h i leads k))
  unfolding commanded_turn decided_turn decided_at lead_after
  states_are =
      joined_same h.leads (λ k. encode (next k).lead) (λ k. encode (lead_after h i leads k))
      (λ k below. ap (λ (t : Turn). encode t.lead) (next_is k below))

  outputs_are : joined h.leads (λ k. turn_shown h.ratings level (next k)) ≡ shown_after h i leads
  unfolding shown_after
  outputs_are =
      joined_same h.leads (λ k. turn_shown h.ratings level (next k)) (λ k. shown_at h i leads k) next_shows

-- the same for the state's own head and leads
module _ (state : List ℕ) (i : TickInput) {h : Head} (own : h ≡ head_of state) (few : h.leads ≤ places) (turns : List Turn) (wants : List ℕ) (level : ℕ)
    (decided : (k : ℕ) → get_or turns k empty_turn ≡ among h.leads (turn_at h i (leads_of state)) k)
    (wanted : (k : ℕ) → want_of wants k ≡ wanted_watts h.ratings (get_or turns k empty_turn).lead)
    (levelled : level ≡ level_of places (want_of wants) i.limit) where
  pub state_after_lem :
      take head_size state ++ joined h.leads (λ k. encode (commanded_turn h.ratings level (get_or turns k empty_turn)).lead)
      ≡ state_after state i
  unfolding next
  state_after_lem =
      ap (λ (r : List ℕ). take head_size state ++ r)
      (states_are h i (leads_of state) few turns wants level decided wanted levelled
      ∙ ap (λ (g : Head). joined g.leads (λ k. encode (lead_after g i (leads_of state) k))) own)

  pub shown_after_lem :
      joined h.leads (λ k. turn_shown h.ratings level (commanded_turn h.ratings level (get_or turns k empty_turn)))
      ≡ shown_after (head_of state) i (leads_of state)
  unfolding next
  shown_after_lem =
      outputs_are h i (leads_of state) few turns wants level decided wanted levelled
      ∙ ap (λ (g : Head). shown_after g i (leads_of state)) own
