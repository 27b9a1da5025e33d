-- Document 02, 2026-02: its claims. By one call, and induction on the list. Assumes nothing.
use mathlib.Core.Bool.{Bool, true, false, cond, not, ◌&&◌, ◌||◌, or-true, true≢false, false≢true}
use mathlib.Core.List.Sublist
use mathlib.Core.List.{List, [], ◌∷◌, ◌++◌, append-nil, append_assoc, Sublist}
use mathlib.Core.Logic.{◌⊎◌, inl, inr, ⊎_elim}
use mathlib.Core.Path.{◌≡◌, refl, sym, ap, subst, ◌∙◌}
use Prim.Native.Nat.{ℕ, zero, suc, ◌≤◌, ◌<◌}
use native.Mathlib.Nat.{le_of_suc-le-suc, eq-or-lt_of_le}
use native.Mathlib.Omega.{arith}
use borrow.Author.Tests.{eq-eqb, ne_eqb}
use lib.Dec.{T, T_not, eqb}
use lib.Ieee.Fits.{and_i, and_l, and_r}
use lib.ListN.{length, set, drop, replicate, length-map, drop_of_length-le}
use lib.Seq.{get_or-set_same, get_or-set_other, drop-nil}
use Rattle.common.proofs.Bools.{holds, is_true}
use Rattle.little_endian.specs.Numbers.{byte_at}
use Rattle.little_endian.specs.Flags.{bit_at, bit_value}
use Rattle.receiver.specs.Registers.{status_register, overrun_register, mask_register, acknowledge_register, mailbox_count, frame_size, turn_place, status, overrun, mask, mailbox, turn, full, full_from, waiting, held}
use Rattle.receiver.specs.Chip.{powered_up, filled, emptied, by_first, drained, is_up, some}
use Rattle.receiver.specs.Calls.{Call, power_up, read, write, arrive, drain, line, answer, receiver_after, lent_after}
use Rattle.receiver_claims.specs.Lists.{after, gathered, throughout, arrival, handed_on, loses_none, spares, leaves_mailboxes}
use Rattle.receiver_claims.specs.Claims.{IsReceiver, OnlyHandsOn, InOrderFromAny, InOrder, NoneOvertakes, HeldInTurn, StatusTells, LineExact, BytesKept, TurnBelow, LostExactly, OverrunTells}
use Rattle.receiver.proofs.Order.{eight_at_most}
use Rattle.receiver_claims.proofs.Held.{mailbox_stays, turn_stays, held_stays, filled_overrun, filled_turn, filled_apart, held_filled, held_left}
use Rattle.receiver_claims.proofs.Left.{Carried, answered, carried, receives, lengths_right, arrival_carried, drain_carried, written_leaves, arrived_leaves, drained_leaves}
use Rattle.receiver_claims.proofs.Overtaking.{none_overtakes_once}
use Rattle.receiver_claims.proofs.OneCall.{fresh_receiver, stays_receiver, status_says, in_order_once}

pub in_order_from_any : InOrderFromAny
in_order_from_any s sound [] only = sym (append-nil (held s))
in_order_from_any s sound (call ∷ calls) only =
    let r = (answer s call).receiver in
    let kept = throughout loses_none r calls in
    let spared = throughout (spares acknowledge_register) r calls in
    let later : OnlyHandsOn r calls = (and_r (loses_none s call) kept only.0, and_r (spares acknowledge_register s call) spared only.1) in
    append_assoc (handed_on s call) (gathered handed_on r calls) (held (after r calls))
    ∙ ap (λ l. handed_on s call ++ l) (in_order_from_any r (stays_receiver s sound call) calls later)
    ∙ sym (append_assoc (handed_on s call) (held r) (gathered arrival r calls))
    ∙ ap (λ l. l ++ gathered arrival r calls)
    (in_order_once s sound call (and_l (loses_none s call) kept only.0) (and_l (spares acknowledge_register s call) spared only.1))
    ∙ append_assoc (held s) (arrival s call) (gathered arrival r calls)

started : (buffer : List ℕ) → (answer buffer power_up).number ≡ 0 → (answer buffer power_up).receiver ≡ powered_up
unfolding receiver_after
started buffer = answered buffer power_up (λ a. a.number ≡ 0 → a.receiver ≡ powered_up) (λ n e z. absurd (e z)) (λ e z. refl)

pub in_order : InOrder
unfolding full_from waiting powered_up
in_order buffer done calls = rw (started buffer done) (in_order_from_any powered_up fresh_receiver calls)

pub none_overtakes : NoneOvertakes
none_overtakes s sound [] = rw (append-nil (held s)) (Sublist.refl (held s))
none_overtakes s sound (call ∷ calls) =
    let r = (answer s call).receiver in
    let arrivals = gathered arrival r calls in
    subst (λ l. Sublist l (held s ++ gathered arrival s (call ∷ calls)))
    (sym (append_assoc (handed_on s call) (gathered handed_on r calls) (held (after r calls))))
    (Sublist.trans
    (Sublist.append (Sublist.refl (handed_on s call)) (none_overtakes r (stays_receiver s sound call) calls))
    (subst (λ l. Sublist l (held s ++ gathered arrival s (call ∷ calls))) (append_assoc (handed_on s call) (held r) arrivals)
    (subst (λ l. Sublist (handed_on s call ++ held r ++ arrivals) l) (append_assoc (held s) (arrival s call) arrivals)
    (Sublist.append (none_overtakes_once s sound call) (Sublist.refl arrivals)))))

-- n drains take the first n of what is held
module _ (frame : List ℕ) (sized : length frame ≡ frame_size) where
  one_gone : (s : List ℕ) → IsReceiver s → held (answer s (drain frame)).receiver ≡ drop 1 (held s)
  unfolding receiver_after drained
  one_gone s sound = rw (carried s (drain frame) (drain_carried s frame sound.long sized)) (go (waiting s) refl)
    where
      go : (w : List ℕ) → waiting s ≡ w → held (by_first w s (λ k. emptied s (λ j. eqb j k))) ≡ drop 1 (held s)
      go [] e = rw e
      go (k ∷ rest) e = rw e (held_left s sound.long sound.byte k rest e)

  gone : (n : ℕ) (s : List ℕ) → IsReceiver s → held (after s (replicate n (drain frame))) ≡ drop n (held s)
  gone zero s sound = refl
  gone (suc n) s sound =
      gone n (answer s (drain frame)).receiver (stays_receiver s sound (drain frame)) ∙ ap (drop n) (one_gone s sound) ∙ go (held s)
    where
      go : (l : List (List ℕ)) → drop n (drop 1 l) ≡ drop (suc n) l
      go [] = drop-nil n
      go (x ∷ l) = refl

pub held_in_turn : HeldInTurn
unfolding loses_none spares arrival waiting
held_in_turn s sound frame sized =
    let eight : List Call = replicate mailbox_count (drain frame) in
    let few : length (held s) ≤ mailbox_count = rw length-map (eight_at_most (status s) (turn s) sound.byte (omega arith)) in
    let none : held (after s eight) ≡ [] = gone frame sized mailbox_count s sound ∙ drop_of_length-le (held s) few in
    sym (append-nil (gathered handed_on s eight))
    ∙ ap (λ l. gathered handed_on s eight ++ l) (sym none)
    ∙ in_order_from_any s sound eight (tt, tt)
    ∙ append-nil (held s)

pub status_tells : StatusTells
status_tells = status_says

-- a test met below n
some_met : (test : ℕ → Bool) (n k : ℕ) → k < n → test k ≡ true → some n test ≡ true
some_met test zero k h e = absurd (omega arith)
some_met test (suc n) k h e =
    ⊎_elim (λ q. let here : test n ≡ true = ap test (sym q) ∙ e in rw here (or-true (some n test))) (λ l. rw (some_met test n k l e))
    (eq-or-lt_of_le (le_of_suc-le-suc h))

none_met : (test : ℕ → Bool) (n : ℕ) → ((k : ℕ) → k < n → T (test k) → ⊥) → some n test ≡ false
none_met test zero h = refl
none_met test (suc n) h = go (test n) (h n (omega arith)) (none_met test n (λ k l. h k (omega arith)))
  where
    go : (b : Bool) → (T b → ⊥) → some n test ≡ false → some n test || b ≡ false
    go true not_so q = absurd (not_so tt)
    go false not_so q = rw q

shown : (s level : List ℕ) → (answer s (line level)).number ≡ 0 → (answer s (line level)).lent ≡ bit_value (is_up s) ∷ []
unfolding lent_after
shown s level = answered s (line level) (λ a. a.number ≡ 0 → a.lent ≡ bit_value (is_up s) ∷ []) (λ n e z. absurd (e z)) (λ e z. refl)

pub line_exact : LineExact
unfolding is_up
line_exact s level done = record {
  up = λ share.
      let k = share.bit in
      shown s level done
      ∙ ap (λ (b : Bool). bit_value b ∷ [])
      (some_met both mailbox_count k share.below (is_true (both k) (and_i (full s k) (bit_at k (mask s)) share.of_status share.of_mask)));
  down = λ none.
      shown s level done
      ∙ ap (λ (b : Bool). bit_value b ∷ [])
      (none_met both mailbox_count
      (λ k low t.
      none (record { bit = k; below = low; of_status = and_l (full s k) (bit_at k (mask s)) t; of_mask = and_r (full s k) (bit_at k (mask s)) t })));
}
  where
    both : ℕ → Bool
    both k = full s k && bit_at k (mask s)

pub bytes_kept : BytesKept
unfolding receiver_after
bytes_kept s call none k = receives s call Kept refl (go call none)
  where
    Kept : List ℕ → Type 0
    Kept r = mailbox r k ≡ mailbox s k

    go : (call : Call) → T (leaves_mailboxes call) → Carried s call → Kept (receiver_after s call)
    go power_up n e = absurd n
    go (read number value) n e = refl
    go (write number value) n e =
        written_leaves Kept s number value refl (λ f. mailbox_stays s status_register _ (omega arith) k)
        (mailbox_stays s mask_register value (omega arith) k) (λ f. mailbox_stays s overrun_register 0 (omega arith) k)
    go (arrive frame) n e = absurd n
    go (drain frame) n e = drained_leaves Kept s refl (λ j. mailbox_stays s status_register _ (omega arith) k)
    go (line level) n e = refl

turn_once :
    (s : List ℕ) (call : Call)
    → (byte_at (answer s call).receiver turn_place ≡ byte_at s turn_place) ⊎ (byte_at (answer s call).receiver turn_place < mailbox_count)
unfolding receiver_after powered_up
turn_once s call = receives s call Low (inl refl) (go call)
  where
    Low : List ℕ → Type 0
    Low r = (byte_at r turn_place ≡ byte_at s turn_place) ⊎ (byte_at r turn_place < mailbox_count)

    go : (call : Call) → Carried s call → Low (receiver_after s call)
    go power_up e = inr (omega arith)
    go (read number value) e = inl refl
    go (write number value) e =
        written_leaves Low s number value (inl refl) (λ f. inl (turn_stays s status_register _ (omega arith)))
        (inl (turn_stays s mask_register value (omega arith))) (λ f. inl (turn_stays s overrun_register 0 (omega arith)))
    go (arrive frame) e =
        let right = lengths_right s frame e in
        arrived_leaves Low s frame (λ f. inl (turn_stays s overrun_register 1 (omega arith)))
        (λ f. inr (rw (filled_turn s frame right.0 right.1) (omega arith)))
    go (drain frame) e = drained_leaves Low s (inl refl) (λ k. inl (turn_stays s status_register _ (omega arith)))
    go (line level) e = inl refl

pub turn_below : TurnBelow
turn_below s [] = inl refl
turn_below s (call ∷ calls) =
    ⊎_elim (λ same. ⊎_elim (λ e. inl (same ∙ e)) (λ h. inr (rw same h)) (turn_once s call)) (λ h. inr h) (turn_below (answer s call).receiver calls)

pub lost_exactly : LostExactly
unfolding receiver_after
lost_exactly s sound frame sized = record {
  lost = leaves (λ r. full s (turn s) ≡ true → r ≡ set s overrun_register 1) (λ f e. refl) (λ f e. absurd (false≢true (sym f ∙ e)));
  keeps_held = leaves (λ r. full s (turn s) ≡ true → held r ≡ held s)
      (λ f e. held_stays s overrun_register 1 (omega arith) (omega arith)) (λ f e. absurd (false≢true (sym f ∙ e)));
  kept = leaves (λ r. full s (turn s) ≡ false → held r ≡ held s ++ (frame ∷ []))
      (λ f e. absurd (true≢false (sym f ∙ e))) (λ f e. held_filled s frame sound.long sized sound.byte f);
  others = λ k low apart. leaves (λ r. mailbox r k ≡ mailbox s k) (λ f. mailbox_stays s overrun_register 1 (omega arith) k)
      (λ f. filled_apart s frame sound.long sized k low apart);
}
  where
    leaves :
        (P : List ℕ → Type 0)
        → (full s (turn s) ≡ true → P (set s overrun_register 1))
        → (full s (turn s) ≡ false → P (filled s frame))
        → P (answer s (arrive frame)).receiver
    leaves P loses keeps = rw (carried s (arrive frame) (arrival_carried s frame sound.long sized)) (arrived_leaves P s frame loses keeps)

-- overrun after one call that does not write it
overrun_once :
    (s : List ℕ) (call : Call)
    → T (spares overrun_register s call)
    → overrun (answer s call).receiver ≡ cond (loses_none s call) (overrun s) 1
unfolding spares loses_none receiver_after
overrun_once s power_up spared = absurd spared
overrun_once s (read number value) spared = receives s (read number value) (λ r. overrun r ≡ overrun s) refl (λ e. refl)
overrun_once s (write number value) spared =
    receives s (write number value) (λ r. overrun r ≡ overrun s) refl
    (λ e. written_leaves (λ r. overrun r ≡ overrun s) s number value refl
    (λ f. get_or-set_other s status_register overrun_register _ 0 (λ q. omega arith))
    (get_or-set_other s mask_register overrun_register value 0 (λ q. omega arith))
    (λ f. absurd (T_not (eqb number overrun_register) spared (holds (eq-eqb number overrun_register f)))))
overrun_once s (arrive frame) spared =
    answered s (arrive frame) (λ a. overrun a.receiver ≡ cond (not (eqb a.number 0 && full s (turn s))) (overrun s) 1)
    (λ n e. rw (ne_eqb n 0 e))
    (λ e.
    let right = lengths_right s frame e in
    arrived_leaves (λ r. overrun r ≡ cond (not (full s (turn s))) (overrun s) 1) s frame
    (λ f. rw f (get_or-set_same s overrun_register 1 0 (omega (arith, right.0))))
    (λ f. rw f (filled_overrun s frame right.0 right.1)))
overrun_once s (drain frame) spared =
    receives s (drain frame) (λ r. overrun r ≡ overrun s) refl
    (λ e. drained_leaves (λ r. overrun r ≡ overrun s) s refl (λ k. get_or-set_other s status_register overrun_register _ 0 (λ q. omega arith)))
overrun_once s (line level) spared = receives s (line level) (λ r. overrun r ≡ overrun s) refl (λ e. refl)

pub overrun_tells : OverrunTells
overrun_tells s [] spared = refl
overrun_tells s (call ∷ calls) spared =
    let r = (answer s call).receiver in
    let later = throughout (spares overrun_register) r calls in
    overrun_tells r calls (and_r (spares overrun_register s call) later spared)
    ∙ ap (λ (n : ℕ). cond (throughout loses_none r calls) n 1) (overrun_once s call (and_l (spares overrun_register s call) later spared))
    ∙ go (loses_none s call) (throughout loses_none r calls)
  where
    go : (a b : Bool) → cond b (cond a (overrun s) 1) 1 ≡ cond (a && b) (overrun s) 1
    go true b = refl
    go false true = refl
    go false false = refl
