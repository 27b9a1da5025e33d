-- No frame overtakes another: one call leaves frames out and does not change their order, whatever it is. Assumes nothing.
use mathlib.Core.Bool.{Bool, true, false, cond, not, ◌&&◌}
use mathlib.Core.List.Sublist
use mathlib.Core.List.{List, [], ◌∷◌, ◌++◌, map, map_congr_left, append-nil, Sublist, nil-sublist, sublist-append_left}
use mathlib.Core.Path.{◌≡◌, refl, sym, subst, ◌∙◌}
use Prim.Native.Nat.{ℕ, zero, suc, ◌%◌, ◌<◌}
use native.Mathlib.Omega.{arith}
use lib.Dec.{T, eqb}
use lib.Ieee.Fits.{and_l}
use lib.ListN.{get_or}
use lib.Seq.{get_or-set_same}
use Rattle.little_endian.specs.Flags.{bit_at}
use Rattle.little_endian.proofs.Bits.{bit_back}
use Rattle.receiver.specs.Registers.{status_register, overrun_register, mask_register, mailbox_count, status, mailbox, turn, full, status_of, full_from, waiting, held}
use Rattle.receiver.specs.Chip.{powered_up, emptied}
use Rattle.receiver.specs.Calls.{Call, power_up, read, write, arrive, drain, line, answer, receiver_after, lent_after, lent_to}
use Rattle.receiver_claims.specs.Lists.{arrival, handed_on, loses_none, spares}
use Rattle.receiver_claims.specs.Claims.{IsReceiver}
use Rattle.receiver_claims.proofs.Held.{mailbox_stays, turn_stays, held_stays, held_filled}
use Rattle.receiver_claims.proofs.Left.{answered, receives, lengths_right, written_leaves, arrived_leaves}
use Rattle.receiver_claims.proofs.OneCall.{in_order_once}

-- bit k of a status put together by a test
status_bit : (test : ℕ → Bool) (k : ℕ) → k < mailbox_count → bit_at k (status_of test) ≡ test k
unfolding status_of
status_bit test k low = bit_back (map test (0 ∷ 1 ∷ 2 ∷ 3 ∷ 4 ∷ 5 ∷ 6 ∷ 7 ∷ [])) k ∙ go k low
  where
    go : (k : ℕ) → k < mailbox_count → get_or (map test (0 ∷ 1 ∷ 2 ∷ 3 ∷ 4 ∷ 5 ∷ 6 ∷ 7 ∷ [])) k false ≡ test k
    go zero h = refl
    go (suc zero) h = refl
    go (suc (suc zero)) h = refl
    go (suc (suc (suc zero))) h = refl
    go (suc (suc (suc (suc zero)))) h = refl
    go (suc (suc (suc (suc (suc zero))))) h = refl
    go (suc (suc (suc (suc (suc (suc zero)))))) h = refl
    go (suc (suc (suc (suc (suc (suc (suc zero))))))) h = refl
    go (suc (suc (suc (suc (suc (suc (suc (suc k)))))))) h = absurd (omega arith)

none_held : held powered_up ≡ []
unfolding powered_up waiting full_from
none_held = refl

-- fewer full mailboxes: the order of those left is the same
module _ (m : ℕ → List ℕ) (x y : ℕ) (fewer : (j : ℕ) → j < mailbox_count → T (bit_at j y) → T (bit_at j x)) where
  fewer_wait : (n k : ℕ) → Sublist (map m (full_from y n k)) (map m (full_from x n k))
  unfolding full_from
  fewer_wait zero k = Sublist.refl []
  fewer_wait (suc n) k =
      go (bit_at here y) (bit_at here x) (fewer here (omega arith)) (fewer_wait n (suc k))
    where
      here : ℕ
      here = k % mailbox_count

      go :
          (a b : Bool)
          → (T a → T b)
          → Sublist (map m (full_from y n (suc k))) (map m (full_from x n (suc k)))
          → Sublist (map m (cond a (here ∷ full_from y n (suc k)) (full_from y n (suc k))))
          (map m (cond b (here ∷ full_from x n (suc k)) (full_from x n (suc k))))
      go true true so r = Sublist.cons-cons (m here) r
      go true false so r = absurd (so tt)
      go false true so r = Sublist.cons (m here) r
      go false false so r = r

module _ (s : List ℕ) (sound : IsReceiver s) where
  -- some mailboxes emptied
  held_emptied : (which : ℕ → Bool) → Sublist (held (emptied s which)) (held s)
  unfolding waiting
  held_emptied which =
      let test : ℕ → Bool = λ k. full s k && not (which k) in
      let byte : ℕ = status_of test in
      rw (get_or-set_same s status_register byte 0 (omega (arith, sound.long)), turn_stays s status_register byte (omega arith))
      (subst (λ (l : List (List ℕ)). Sublist l (held s))
      (sym (map_congr_left (λ k _. mailbox_stays s status_register byte (omega arith) k)))
      (fewer_wait (mailbox s) (status s) byte
      (λ j low t. and_l (full s j) (not (which j)) (subst T (status_bit test j low) t)) mailbox_count (turn s)))

  same_left : {l : List (List ℕ)} → l ≡ held s → Sublist l (held s ++ [])
  same_left e = rw (e, append-nil (held s)) (Sublist.refl (held s))

  pub none_overtakes_once : (call : Call) → Sublist (handed_on s call ++ held (answer s call).receiver) (held s ++ arrival s call)
  unfolding handed_on arrival loses_none spares receiver_after lent_after lent_to
  none_overtakes_once power_up =
      receives s power_up (λ r. Sublist (held r) (held s ++ [])) (same_left refl) (λ e. rw none_held (nil-sublist (held s ++ [])))
  none_overtakes_once (read number value) =
      rw (in_order_once s sound (read number value) tt tt) (Sublist.refl (held s ++ []))
  none_overtakes_once (write number value) =
      receives s (write number value) (λ r. Sublist (held r) (held s ++ [])) (same_left refl)
      (λ e. written_leaves (λ r. Sublist (held r) (held s ++ [])) s number value (same_left refl)
      (λ f. rw (append-nil (held s)) (held_emptied (λ k. bit_at k value)))
      (same_left (held_stays s mask_register value (omega arith) (omega arith)))
      (λ f. same_left (held_stays s overrun_register 0 (omega arith) (omega arith))))
  none_overtakes_once (arrive frame) =
      answered s (arrive frame) (λ a. Sublist (held a.receiver) (held s ++ cond (eqb a.number 0) (frame ∷ []) []))
      (λ n e. sublist-append_left (held s) (cond (eqb n 0) (frame ∷ []) []))
      (λ e. arrived_leaves (λ r. Sublist (held r) (held s ++ (frame ∷ []))) s frame
      (λ f. rw (held_stays s overrun_register 1 (omega arith) (omega arith)) (sublist-append_left (held s) (frame ∷ [])))
      (λ f. rw (held_filled s frame sound.long (lengths_right s frame e).1 sound.byte f) (Sublist.refl (held s ++ (frame ∷ [])))))
  none_overtakes_once (drain frame) = rw (in_order_once s sound (drain frame) tt tt) (Sublist.refl (held s ++ []))
  none_overtakes_once (line level) = rw (in_order_once s sound (line level) tt tt) (Sublist.refl (held s ++ []))
