-- What a call leaves: refused, what there was; carried out, one of a few receivers. Assumes nothing.
use mathlib.Core.Bool.{Bool, true, false, cond}
use mathlib.Core.List.{List, [], ◌∷◌}
use mathlib.Core.Path.{◌≡◌, refl}
use Prim.Native.Nat.{ℕ}
use borrow.Author.Tests.{eq-eqb, eqb-true}
use lib.Dec.{eqb, eqb→eq}
use lib.ListN.{length, set}
use Rattle.common.specs.Refusals.{refusal_of, done_unless}
use Rattle.common.proofs.Refused.{all_met, either_way}
use Rattle.little_endian.specs.Flags.{bit_at}
use Rattle.receiver.specs.Registers.{overrun_register, mask_register, acknowledge_register, frame_size, receiver_size, turn, full, waiting}
use Rattle.receiver.specs.Chip.{filled, arrived, emptied, written, drained, by_first}
use Rattle.receiver.specs.Calls.{Call, arrive, drain, Answer, answer, rows, lent_to, receiver_after, lent_after}

module _ (s : List ℕ) (call : Call) where
  abbrev pub Carried : Type 0
  Carried = refusal_of (rows s call) ≡ 0

  -- number, receiver and buffer
  pub answered :
      (P : Answer → Type 0)
      → ((n : ℕ) → (n ≡ 0 → ⊥) → P (record { number = n; receiver = s; lent = lent_to call }))
      → (Carried → P (record { number = 0; receiver = receiver_after s call; lent = lent_after s call }))
      → P (answer s call)
  unfolding answer
  answered P refused done =
      either_way (λ n. record { number = n; receiver = s; lent = lent_to call })
      (record { number = 0; receiver = receiver_after s call; lent = lent_after s call }) P (refusal_of (rows s call))
      (refused (refusal_of (rows s call))) done

  pub carried : Carried → (answer s call).receiver ≡ receiver_after s call
  unfolding answer done_unless
  carried e = rw e

  -- the receiver alone
  pub receives : (P : List ℕ → Type 0) → P s → (Carried → P (receiver_after s call)) → P (answer s call).receiver
  receives P was is = answered (λ a. P a.receiver) (λ n e. was) is

-- an arrival that is carried out has both lengths right
pub lengths_right : (s frame : List ℕ) → Carried s (arrive frame) → (length s ≡ receiver_size) × (length frame ≡ frame_size)
unfolding rows
lengths_right s frame e =
    let met = all_met (rows s (arrive frame)) tt e in
    (eqb→eq (length s) receiver_size met.0, eqb→eq (length frame) frame_size met.1.0)

-- and the other way, for a drain too
module _ (s frame : List ℕ) (long : length s ≡ receiver_size) (sized : length frame ≡ frame_size) where
  pub arrival_carried : Carried s (arrive frame)
  unfolding rows
  arrival_carried = rw (eq-eqb (length s) receiver_size long, eq-eqb (length frame) frame_size sized)

  pub drain_carried : Carried s (drain frame)
  unfolding rows
  drain_carried = rw (eq-eqb (length s) receiver_size long, eq-eqb (length frame) frame_size sized)

-- the case of a choice, with the test's answer known
chosen : (P : List ℕ → Type 0) (b : Bool) {x y : List ℕ} → (b ≡ true → P x) → (b ≡ false → P y) → P (cond b x y)
chosen P true x y = x refl
chosen P false x y = y refl

module _ (P : List ℕ → Type 0) (s : List ℕ) where
  pub written_leaves :
      (number value : ℕ)
      → P s
      → (number ≡ acknowledge_register → P (emptied s (λ k. bit_at k value)))
      → P (set s mask_register value)
      → (number ≡ overrun_register → P (set s overrun_register 0))
      → P (written s number value)
  unfolding written
  written_leaves number value was acknowledges masks clears =
      chosen P (eqb number acknowledge_register) (λ e. acknowledges (eqb-true number acknowledge_register e))
      (λ e. chosen P (eqb number mask_register) (λ f. masks)
      (λ f. chosen P (eqb number overrun_register) (λ g. clears (eqb-true number overrun_register g)) (λ g. was)))

  pub arrived_leaves :
      (frame : List ℕ)
      → (full s (turn s) ≡ true → P (set s overrun_register 1))
      → (full s (turn s) ≡ false → P (filled s frame))
      → P (arrived s frame)
  unfolding arrived
  arrived_leaves frame lost kept = chosen P (full s (turn s)) lost kept

  pub drained_leaves : P s → ((k : ℕ) → P (emptied s (λ j. eqb j k))) → P (drained s)
  unfolding drained
  drained_leaves was is = go (waiting s)
    where
      go : (w : List ℕ) → P (by_first w s (λ k. emptied s (λ j. eqb j k)))
      go [] = was
      go (k ∷ rest) = is k
