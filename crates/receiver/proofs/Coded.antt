-- What the code's copies and stores leave, as the rules say it. Assumes nothing.
use mathlib.Core.Bool.{true, false, not, ◌&&◌, ◌||◌}
use mathlib.Core.List.{List, [], ◌∷◌, ◌++◌, append_assoc}
use mathlib.Core.Path.{◌≡◌, refl, sym, ◌∙◌}
use Prim.Native.Nat.{ℕ, zero, suc, ◌+◌, ◌-◌, ◌%◌, ◌≤◌, ◌<◌}
use native.Mathlib.Nat.{add-sub_cancel_left}
use native.Mathlib.Omega.{arith}
use lib.Bits.{bit_and}
use Rattle.std.proofs.lemmas.Nat.{and_le_l}
use lib.Dec.{eqb}
use lib.ListN.{length, take, drop, set, length-set}
use lib.Seq.{sets, sets-eq, length-sets, drop-drop}
use Rattle.std.specs.Prelude.{Some, None, slice_get}
use Rattle.std.proofs.lemmas.Option.{none-some, same_Some}
use Rattle.little_endian.specs.Flags.{bit_at}
use Rattle.receiver.specs.Registers.{status_register, overrun_register, mailbox_count, frame_size, turn_place, receiver_size, status, mask, mailbox_place, mailbox, turn, full, status_of, full_from, waiting}
use Rattle.receiver.specs.Chip.{filled, arrived, emptied, by_first, drained, drained_frame, is_up, some}
use Rattle.receiver.proofs.Bits.{and_bit, some_bit}

-- mailbox k with a frame copied into it; p is what the copy leaves of the mailbox
pub copied_in :
    (s frame p : List ℕ) (k : ℕ)
    → k < mailbox_count
    → length s ≡ receiver_size
    → length frame ≡ frame_size
    → p ≡ frame
    → take (mailbox_place k) s ++ (p ++ drop (mailbox_place k + frame_size - mailbox_place k) (drop (mailbox_place k) s))
    ≡ sets s (mailbox_place k) frame
copied_in s frame p k low long sized e =
    let at : ℕ = mailbox_place k in
    let inside : at + length frame ≤ length s = omega arith in
    let size : at + frame_size ≡ at + length frame = omega arith in
    rw (e, add-sub_cancel_left at frame_size, drop-drop, size, ← append_assoc) (sym (sets-eq frame s at inside))

-- and the turn is still there
pub turn_there :
    (s frame p : List ℕ) (k v : ℕ)
    → k < mailbox_count
    → length s ≡ receiver_size
    → length frame ≡ frame_size
    → p ≡ frame
    → turn_place
    < length (set (take (mailbox_place k) s ++ (p ++ drop (mailbox_place k + frame_size - mailbox_place k) (drop (mailbox_place k) s))) status_register v)
turn_there s frame p k v low long sized e = rw (length-set, copied_in s frame p k low long sized e, length-sets, long) (omega arith)

-- a frame that arrives at a full one
pub frame_lost : (s frame : List ℕ) → full s (turn s) ≡ true → set s overrun_register 1 ≡ arrived s frame
unfolding arrived
frame_lost s frame e = rw e

-- a frame that arrives at an empty mailbox
pub frame_kept :
    (s frame put : List ℕ) (byte : ℕ)
    → full s (turn s) ≡ false
    → put ≡ sets s (mailbox_place (turn s)) frame
    → byte ≡ status_of (λ k. full s k || eqb k (turn s))
    → set (set put status_register byte) turn_place ((turn s + 1) % mailbox_count) ≡ arrived s frame
unfolding arrived filled
frame_kept s frame put byte e ep eb = rw (e, ep, eb)

-- a drain that finds mailbox k, and one that finds none
module _ (s frame : List ℕ) where
  pub one_drained :
      (k byte : ℕ) (p : List ℕ)
      → Some k ≡ slice_get (full_from (status s) mailbox_count (turn s)) 0
      → p ≡ mailbox s k
      → byte ≡ status_of (λ j. full s j && not (eqb j k))
      → (set s status_register byte ≡ drained s) × (p ≡ drained_frame s frame)
  unfolding drained drained_frame waiting
  one_drained k byte p found ep eb = go (full_from (status s) mailbox_count (turn s)) found
    where
      go :
          (w : List ℕ)
          → Some k ≡ slice_get w 0
          → (set s status_register byte ≡ by_first w s (λ longest. emptied s (λ j. eqb j longest))) × (p ≡ by_first w frame (mailbox s))
      go [] e = absurd (none-some k (sym e))
      go (j ∷ rest) e = let same : k ≡ j = same_Some k j e in (rw (eb, same), rw (ep, same))

  pub none_drained : None ≡ slice_get (full_from (status s) mailbox_count (turn s)) 0 → (s ≡ drained s) × (frame ≡ drained_frame s frame)
  unfolding drained drained_frame waiting
  none_drained found = go (full_from (status s) mailbox_count (turn s)) found
    where
      go :
          (w : List ℕ)
          → None ≡ slice_get w 0
          → (s ≡ by_first w s (λ longest. emptied s (λ j. eqb j longest))) × (frame ≡ by_first w frame (mailbox s))
      go [] e = (refl, refl)
      go (j ∷ rest) e = absurd (none-some j e)

-- the line
pub up_is : (s : List ℕ) → status s < 256 → not (eqb (bit_and (status s) (mask s)) 0) ≡ is_up s
unfolding is_up
up_is s byte = sym (go mailbox_count ∙ some_bit (bit_and (status s) (mask s)) (omega (arith, and_le_l (status s) (mask s))))
  where
    go : (n : ℕ) → some n (λ k. full s k && bit_at k (mask s)) ≡ some n (λ k. bit_at k (bit_and (status s) (mask s)))
    go zero = refl
    go (suc n) = rw (go n, and_bit n (status s) (mask s))
