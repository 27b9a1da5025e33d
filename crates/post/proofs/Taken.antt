-- What it says that nothing is refused: of a head, of a setup, of a good state, and of a tick. Assumes nothing.
use mathlib.Core.Bool.{Bool, true, false, ◌&&◌}
use mathlib.Core.List.{List, [], ◌∷◌}
use mathlib.Core.Path.{◌≡◌, refl}
use Prim.Native.Nat.{ℕ, ◌≤◌, ◌<◌}
use native.Mathlib.Omega.{arith}
use lib.Dec.{T, leb, eqb, leb→le, eqb→eq}
use lib.ListN.{length}
use lib.Ieee.Fits.{and_l, and_r}
use borrow.Author.Tests.{eq-eqb, ne_eqb}
use Rattle.common.specs.Parts.{every}
use Rattle.common.specs.Refusals.{asks, refusal_of}
use Rattle.common.proofs.Bools.{is_true, between_lo, between_hi}
use Rattle.common.proofs.Refused.{AllMet, all_met, none_refused}
use Rattle.readings.specs.Readings.{allowed_resistance}
use Rattle.lead_records.specs.States.{good_state}
use Rattle.post.specs.Heads.{head_size, state_length, input_length, output_length, head_of, state_part}
use Rattle.post.specs.Refusals.{most_error, head_rows, setup_rows, good_head, good_post, input_rows, tick_rows}
use Rattle.post.specs.declared.head.Head.{Head}

-- setup's questions 1 to 4 and 32 got a yes: what those above need of the answers
pub record Taken (h : Head) : Type 0 where
  pub few_leads : h.leads ≤ 4
  pub volts_least : 50 ≤ h.ratings.volts
  pub volts_most : h.ratings.volts ≤ 500
  pub amperes_most : h.ratings.amperes ≤ 200
  pub allowed : allowed_resistance h.ratings.resistance ≡ true
  pub volts_error_most : h.ratings.errors.volts ≤ most_error
  pub amperes_error_most : h.ratings.errors.amperes ≤ most_error

pub head_met : (h : Head) → refusal_of (head_rows h) ≡ 0 → AllMet (head_rows h)
unfolding head_rows
head_met h e = all_met (head_rows h) tt e

pub head_taken : (h : Head) → refusal_of (head_rows h) ≡ 0 → Taken h
unfolding head_rows
head_taken h e =
    let met = head_met h e in
    let e₁ : ℕ = h.ratings.errors.volts in
    let e₂ : ℕ = h.ratings.errors.amperes in
    record {
      few_leads = between_hi 1 4 h.leads met.0;
      volts_least = between_lo 50 500 h.ratings.volts met.1.0;
      volts_most = between_hi 50 500 h.ratings.volts met.1.0;
      amperes_most = between_hi 1 200 h.ratings.amperes met.1.1.0;
      allowed = is_true (allowed_resistance h.ratings.resistance) met.1.1.1.0;
      volts_error_most = leb→le e₁ most_error (and_l (leb e₁ most_error) (leb e₂ most_error) met.1.1.1.1.0);
      amperes_error_most = leb→le e₂ most_error (and_r (leb e₁ most_error) (leb e₂ most_error) met.1.1.1.1.0);
    }

pub good_taken : (h : Head) → T (good_head h) → Taken h
good_taken h t = head_taken h (eqb→eq (refusal_of (head_rows h)) 0 t)

-- a setup that nothing refuses
module _ (h : Head) (room : ℕ) (none : refusal_of (setup_rows h room) ≡ 0) where
  pub setup_head : refusal_of (head_rows h) ≡ 0
  unfolding setup_rows
  setup_head = none_refused (head_rows h) (asks (eqb room (state_length h.leads)) 5 ∷ []) none

-- the questions of a good state, as the code asks them one after the other; h is the head that it read
module _ (state : List ℕ) where
  pub too_short : length state < head_size → false ≡ good_post state
  unfolding good_post
  too_short short =
      let n = (head_of state).leads in
      let other : eqb (length state) (state_length n) ≡ false = ne_eqb (length state) (state_length n) (λ e. omega arith) in
      rw other (go (good_head (head_of state)))
    where
      go :
          (b : Bool)
          → false ≡ (b && false && every (head_of state).leads (λ k. good_state (head_of state).ratings (state_part state k)))
      go true = refl
      go false = refl

  module _ {h : Head} (e : h ≡ head_of state) where
    pub other_head : good_head h ≡ false → false ≡ good_post state
    unfolding good_post
    other_head no-head = rw (← e, no-head)

    module _ (yes-head : good_head h ≡ true) where
      pub other_length : (length state ≡ state_length h.leads → ⊥) → false ≡ good_post state
      unfolding good_post
      other_length n = rw (← e, yes-head, ne_eqb _ _ n)

      pub good_if_leads :
          length state ≡ state_length h.leads
          → every h.leads (λ k. good_state h.ratings (state_part state k)) ≡ good_post state
      unfolding good_post
      good_if_leads long = rw (← e, yes-head, eq-eqb _ _ long)

-- a good state
module _ (state : List ℕ) (good : T (good_post state)) where
  abbrev h : Head
  h = head_of state

  abbrev sized : Bool
  sized = eqb (length state) (state_length h.leads)

  abbrev each : Bool
  each = every h.leads (λ k. good_state h.ratings (state_part state k))

  head_and_size : T (good_head h && sized)
  unfolding good_post
  head_and_size = and_l (good_head h && sized) each good

  pub post_head : T (good_head h)
  post_head = and_l (good_head h) sized head_and_size

  pub post_length : length state ≡ state_length h.leads
  post_length = eqb→eq (length state) (state_length h.leads) (and_r (good_head h) sized head_and_size)

  pub post_leads : T each
  unfolding good_post
  post_leads = and_r (good_head h && sized) each good

-- a tick that nothing refuses; h is the head of its state
pub record TickTaken (h : Head) (state input : List ℕ) (room : ℕ) : Type 0 where
  pub head : Taken h
  pub state_length_lem : length state ≡ state_length h.leads
  pub input_length_lem : length input ≡ input_length h.leads
  pub output_length_lem : room ≡ output_length h.leads

taken_whole : (state input : List ℕ) (room : ℕ) → refusal_of (tick_rows state input room) ≡ 0 → TickTaken (head_of state) state input room
unfolding tick_rows input_rows
taken_whole state input room e =
    let n : ℕ = (head_of state).leads in
    let met = all_met (tick_rows state input room) tt e in
    record {
      head = good_taken (head_of state) (post_head state met.0);
      state_length_lem = post_length state met.0;
      input_length_lem = eqb→eq (length input) (input_length n) met.1.0;
      output_length_lem = eqb→eq room (output_length n) met.1.1.0;
    }

pub tick_taken :
    {h : Head} {state input : List ℕ} {room : ℕ}
    → h ≡ head_of state
    → refusal_of (tick_rows state input room) ≡ 0
    → TickTaken h state input room
tick_taken {state = state} {input = input} {room = room} own e = rw own (taken_whole state input room e)
