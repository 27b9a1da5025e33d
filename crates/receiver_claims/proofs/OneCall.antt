-- One call on a receiver: it stays a receiver, and what it hands on and what is then held are what was held and what arrives. Assumes nothing.
use mathlib.Core.Bool.{Bool, cond, not, ◌&&◌, ◌||◌}
use mathlib.Core.List.{List, [], ◌∷◌, ◌++◌, map, append-nil, cons≢nil}
use mathlib.Core.Path.{◌≡◌, refl, sym, ap, ◌∙◌}
use Prim.Native.Nat.{ℕ, ◌<◌, ◌≤◌}
use native.Mathlib.Omega.{arith}
use borrow.Author.Tests.{eq-eqb, ne_eqb}
use lib.Dec.{T, T_not, eqb}
use lib.ListN.{length, set, length-set}
use lib.Seq.{get_or-set_same, get_or-set_other}
use Rattle.common.proofs.Bools.{holds}
use Rattle.little_endian.specs.Flags.{bit_at}
use Rattle.receiver.specs.Registers.{status_register, overrun_register, mask_register, acknowledge_register, mailbox_count, frame_size, status, mailbox, turn, full, status_of, full_from, waiting, held}
use Rattle.receiver.specs.Chip.{powered_up, filled, arrived, emptied, by_first, drained, drained_frame}
use Rattle.receiver.specs.Calls.{Call, power_up, read, write, arrive, drain, line, answer, receiver_after, lent_after, lent_to}
use Rattle.receiver_claims.specs.Lists.{arrival, handed_on, loses_none, spares}
use Rattle.receiver_claims.specs.Claims.{IsReceiver, Told}
use Rattle.receiver.proofs.Bits.{status_byte}
use Rattle.receiver.proofs.Order.{none_waits, waits_of_0}
use Rattle.receiver_claims.proofs.Held.{held_stays, filled_length, filled_status, held_filled, held_left}
use Rattle.receiver_claims.proofs.Left.{Carried, answered, receives, lengths_right, written_leaves, arrived_leaves, drained_leaves}

pub fresh_receiver : IsReceiver powered_up
unfolding powered_up
fresh_receiver = record { long = refl; byte = omega arith }

module _ (s : List ℕ) (sound : IsReceiver s) where
  stored : (i v : ℕ) → 1 ≤ i → IsReceiver (set s i v)
  stored i v h = record {
    long = length-set s i v ∙ sound.long;
    byte = rw (get_or-set_other s i status_register v 0 (λ e. omega arith)) sound.byte;
  }

  some_emptied : (which : ℕ → Bool) → IsReceiver (emptied s which)
  some_emptied which = record {
    long = length-set s status_register _ ∙ sound.long;
    byte = rw (get_or-set_same s status_register (status_of (λ k. full s k && not (which k))) 0 (omega (arith, sound.long)))
        (status_byte (λ k. full s k && not (which k)));
  }

  one_filled : (frame : List ℕ) → length frame ≡ frame_size → IsReceiver (filled s frame)
  one_filled frame sized = record {
    long = filled_length s frame sound.long sized;
    byte = rw (filled_status s frame sound.long sized) (status_byte (λ k. full s k || eqb k (turn s)));
  }

  pub stays_receiver : (call : Call) → IsReceiver (answer s call).receiver
  unfolding receiver_after
  stays_receiver call = receives s call IsReceiver sound (go call)
    where
      go : (call : Call) → Carried s call → IsReceiver (receiver_after s call)
      go power_up e = fresh_receiver
      go (read number value) e = sound
      go (write number value) e =
          written_leaves IsReceiver s number value sound (λ e. some_emptied (λ k. bit_at k value)) (stored mask_register value (omega arith))
          (λ e. stored overrun_register 0 (omega arith))
      go (arrive frame) e =
          arrived_leaves IsReceiver s frame (λ lost. stored overrun_register 1 (omega arith))
          (λ kept. one_filled frame (lengths_right s frame e).1)
      go (drain frame) e = drained_leaves IsReceiver s sound (λ k. some_emptied (λ j. eqb j k))
      go (line level) e = sound

  turn_low : turn s < mailbox_count
  turn_low = omega arith

  none_waiting : status s ≡ 0 → waiting s ≡ []
  unfolding waiting
  none_waiting e = rw (e, waits_of_0 (turn s) turn_low)

  pub status_says : Told s
  unfolding waiting
  status_says = record {
    when_zero = λ e. ap (map (mailbox s)) (none_waiting e);
    only_then = λ e. none_waits (status s) (turn s) sound.byte turn_low (go (full_from (status s) mailbox_count (turn s)) e);
  }
    where
      go : (w : List ℕ) → map (mailbox s) w ≡ [] → w ≡ []
      go [] e = refl
      go (k ∷ rest) e = absurd (cons≢nil e)

  -- the frame that a drain hands on, and what is held then
  held_drained : (frame : List ℕ) → cond (not (eqb (status s) 0)) (drained_frame s frame ∷ []) [] ++ held (drained s) ≡ held s
  unfolding drained drained_frame
  held_drained frame = go (waiting s) refl
    where
      go :
          (w : List ℕ)
          → waiting s ≡ w
          → cond (not (eqb (status s) 0)) (by_first w frame (mailbox s) ∷ []) [] ++ held (by_first w s (λ k. emptied s (λ j. eqb j k))) ≡ held s
      go [] e = rw (eq-eqb (status s) 0 (status_says.only_then (ap (map (mailbox s)) e)))
      go (k ∷ rest) e =
          rw (ne_eqb (status s) 0 (λ z. cons≢nil (sym e ∙ none_waiting z)), held_left s sound.long sound.byte k rest e, e)

  held_arrived :
      (frame : List ℕ)
      → length frame ≡ frame_size
      → T (not (full s (turn s)))
      → held (arrived s frame) ≡ held s ++ (frame ∷ [])
  held_arrived frame sized kept =
      arrived_leaves (λ r. held r ≡ held s ++ (frame ∷ [])) s frame
      (λ f. absurd (T_not (full s (turn s)) kept (holds f)))
      (λ f. held_filled s frame sound.long sized sound.byte f)

  pub in_order_once :
      (call : Call)
      → T (loses_none s call)
      → T (spares acknowledge_register s call)
      → handed_on s call ++ held (answer s call).receiver ≡ held s ++ arrival s call
  unfolding handed_on arrival loses_none spares receiver_after lent_after lent_to
  in_order_once power_up kept spared = absurd spared
  in_order_once (read number value) kept spared =
      receives s (read number value) (λ r. held r ≡ held s ++ []) (sym (append-nil (held s))) (λ e. sym (append-nil (held s)))
  in_order_once (write number value) kept spared =
      receives s (write number value) (λ r. held r ≡ held s ++ []) (sym (append-nil (held s)))
      (λ e. written_leaves (λ r. held r ≡ held s) s number value refl
      (λ f. absurd (T_not (eqb number acknowledge_register) spared (holds (eq-eqb number acknowledge_register f))))
      (held_stays s mask_register value (omega arith) (omega arith)) (λ f. held_stays s overrun_register 0 (omega arith) (omega arith))
      ∙ sym (append-nil (held s)))
  in_order_once (arrive frame) kept spared =
      answered s (arrive frame)
      (λ a. T (not (eqb a.number 0 && full s (turn s))) → held a.receiver ≡ held s ++ cond (eqb a.number 0) (frame ∷ []) [])
      (λ n e k. rw (ne_eqb n 0 e) (sym (append-nil (held s)))) (λ e k. held_arrived frame (lengths_right s frame e).1 k) kept
  in_order_once (drain frame) kept spared =
      answered s (drain frame)
      (λ a. cond (eqb a.number 0 && not (eqb (status s) 0)) (a.lent ∷ []) [] ++ held a.receiver ≡ held s ++ [])
      (λ n e. rw (ne_eqb n 0 e) (sym (append-nil (held s)))) (λ e. held_drained frame ∙ sym (append-nil (held s)))
  in_order_once (line level) kept spared =
      receives s (line level) (λ r. held r ≡ held s ++ []) (sym (append-nil (held s))) (λ e. sym (append-nil (held s)))
