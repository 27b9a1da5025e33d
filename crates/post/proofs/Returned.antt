-- What a call returns and leaves, done or refused; r is the number that the code worked out. Assumes nothing.
use mathlib.Core.List.{List, [], ◌∷◌}
use mathlib.Core.Path.{◌≡◌, refl, sym, ap, ◌∙◌}
use Prim.Native.Nat.{ℕ, ◌<◌}
use lib.Dec.{eqb, ltb, ltb→lt}
use lib.ListN.{length}
use Rattle.common.specs.Refusals.{Asked, asks, refusal_of}
use Rattle.common.proofs.Refused.{carried_out, turned_away, either_way, left_passes, first_refused, then_asked}
use Rattle.common.proofs.Joined.{joined_length}
use Rattle.lead.specs.Leads.{fresh}
use Rattle.lead_records.specs.Outputs.{output_size}
use Rattle.lead_records.proofs.Shown.{output_length_lem}
use Rattle.post.specs.Heads.{head_of, state_length}
use Rattle.post.specs.Rules.{TickInput, tick_input, shown_at, shown_after, post_bytes}
use Rattle.post.specs.Refusals.{head_rows, setup_rows, input_rows, tick_rows}
use Rattle.post.specs.Calls.{SetUp, setup_of, leads_of, state_after, Ticked, tick_of}
use Rattle.post.specs.declared.head.Head.{Head}
use Rattle.post.proofs.Taken.{head_met, tick_taken}

-- setup's questions, the head's first
module _ (h : Head) (room : ℕ) where
  abbrev fifth : List Asked
  fifth = asks (eqb room (state_length h.leads)) 5 ∷ []

  pub by_head : {r : ℕ} → r ≡ refusal_of (head_rows h) → (r ≡ 0 → ⊥) → r ≡ refusal_of (setup_rows h room)
  unfolding setup_rows
  by_head e n = e ∙ first_refused (head_rows h) fifth (λ z. n (e ∙ z))

  pub by_length : refusal_of (head_rows h) ≡ 0 → refusal_of fifth ≡ refusal_of (setup_rows h room)
  unfolding setup_rows
  by_length z = then_asked (head_rows h) fifth (head_met h z)

module _ (h : Head) (state : List ℕ) {r : ℕ} (e : r ≡ refusal_of (setup_rows h (length state))) where
  pub setup_done :
      {after : List ℕ} → r ≡ 0 → after ≡ post_bytes h (λ k. fresh) → ◌≡◌ {A = SetUp} (record { number = r; state = after }) (setup_of h state)
  unfolding setup_of
  setup_done z a = rw (z, a) (carried_out _ _ e z)

  pub setup_refused : (r ≡ 0 → ⊥) → ◌≡◌ {A = SetUp} (record { number = r; state = state }) (setup_of h state)
  unfolding setup_of
  setup_refused n = turned_away _ _ e n

module _ (state input output : List ℕ) {r : ℕ} (e : r ≡ refusal_of (tick_rows state input (length output))) where
  pub tick_done :
      {after shown : List ℕ}
      → r ≡ 0
      → after ≡ state_after state (tick_input input)
      → shown ≡ shown_after (head_of state) (tick_input input) (leads_of state)
      → ◌≡◌ {A = Ticked} (record { number = r; state = after; output = shown }) (tick_of state input output)
  unfolding tick_of
  tick_done z a b = rw (z, a, b) (carried_out _ _ e z)

  pub tick_refused : (r ≡ 0 → ⊥) → ◌≡◌ {A = Ticked} (record { number = r; state = state; output = output }) (tick_of state input output)
  unfolding tick_of
  tick_refused n = turned_away _ _ e n

-- the number that a call returns fits a byte
pub setup_byte :
    (h : Head) (state : List ℕ) {r : ℕ} {after : List ℕ} → ◌≡◌ {A = SetUp} (record { number = r; state = after }) (setup_of h state) → r < 256
unfolding setup_of setup_rows head_rows
setup_byte h state e =
    rw (ap (λ (x : SetUp). x.number) e)
    (ltb→lt _ 256 (left_passes _ _ (λ (x : SetUp). x.number) (λ n. ltb n 256) (setup_rows h (length state)) (λ n. refl) tt tt tt))

pub tick_byte :
    (state input output : List ℕ) {r : ℕ} {after shown : List ℕ}
    → ◌≡◌ {A = Ticked} (record { number = r; state = after; output = shown }) (tick_of state input output)
    → r < 256
unfolding tick_of tick_rows input_rows
tick_byte state input output e =
    rw (ap (λ (x : Ticked). x.number) e)
    (ltb→lt _ 256
    (left_passes _ _ (λ (x : Ticked). x.number) (λ n. ltb n 256) (tick_rows state input (length output)) (λ n. refl) tt tt tt))

-- a tick, done or refused, leaves as many bytes of output as it was lent
pub shown_length : (state input output : List ℕ) → length (tick_of state input output).output ≡ length output
unfolding tick_of shown_after
shown_length state input output =
    let h : Head = head_of state in
    let i : TickInput = tick_input input in
    either_way _ _ (λ (x : Ticked). length x.output ≡ length output) (refusal_of (tick_rows state input (length output))) (λ n. refl)
    (λ e.
    joined_length output_size (λ k. shown_at h i (leads_of state) k) (λ k. output_length_lem h.ratings _ _ _ _) h.leads
    ∙ sym (tick_taken {input = input} refl e).output_length_lem)
