-- What is held after a store, after an arrival, and after the frame held longest has gone. Assumes nothing.
use mathlib.Core.Bool.{Bool, true, false, not, ◌&&◌, ◌||◌}
use mathlib.Core.List.{List, [], ◌∷◌, ◌++◌, map, map-append, map_congr_left}
use mathlib.Core.Logic.{◌⊎◌, inl, inr}
use mathlib.Core.Path.{◌≡◌, refl, ap, ◌∙◌}
use Prim.Native.Nat.{ℕ, ◌+◌, ◌%◌, ◌≤◌, ◌<◌}
use native.Mathlib.Omega.{arith}
use borrow.Author.Tests.{eq-eqb, ltb-true, ltb-false}
use lib.Dec.{T, T_not, eqb, ltb, ltb→lt}
use lib.Ieee.Fits.{and_l, and_r}
use lib.ListN.{length, set, length-set}
use lib.Seq.{sets, length-sets, get_or-set_same, get_or-set_other}
use Rattle.std.specs.List.{list_all}
use Rattle.common.proofs.Bools.{holds}
use Rattle.little_endian.specs.Numbers.{byte_at}
use Rattle.receiver.specs.Registers.{status_register, overrun_register, first_mailbox, mailbox_count, frame_size, turn_place, receiver_size, status, overrun, mailbox_place, mailbox, turn, full, status_of, full_from, waiting, held}
use Rattle.receiver.specs.Chip.{filled, emptied}
use Rattle.receiver.proofs.Order.{is_other, filled_last, others_wait, rest_left_lem}
use Rattle.receiver_claims.proofs.Stores.{part_set, part_sets, part_put, byte_before}

-- mailboxes with the same bytes, of those that pass a test
alike_where : (f g : ℕ → List ℕ) (test : ℕ → Bool) → ((k : ℕ) → T (test k) → f k ≡ g k) → (l : List ℕ) → T (list_all test l) → map f l ≡ map g l
alike_where f g test e [] t = refl
alike_where f g test e (k ∷ l) t =
    rw (e k (and_l (test k) (list_all test l) t), alike_where f g test e l (and_r (test k) (list_all test l) t))

-- a store to one of the four registers in front of the mailboxes
module _ (s : List ℕ) (i v : ℕ) (front : i < first_mailbox) where
  pub mailbox_stays : (k : ℕ) → mailbox (set s i v) k ≡ mailbox s k
  mailbox_stays k = part_set (mailbox_place k) frame_size s i v (inl (omega arith))

  pub turn_stays : byte_at (set s i v) turn_place ≡ byte_at s turn_place
  turn_stays = get_or-set_other s i turn_place v 0 (λ e. omega arith)

  pub held_stays : 1 ≤ i → held (set s i v) ≡ held s
  unfolding waiting
  held_stays behind =
      rw (get_or-set_other s i status_register v 0 (λ e. omega arith), turn_stays)
      (map_congr_left (λ k _. mailbox_stays k))

-- a frame in the turn's mailbox
module _ (s frame : List ℕ) (long : length s ≡ receiver_size) (sized : length frame ≡ frame_size) where
  abbrev t : ℕ
  t = turn s

  abbrev put : List ℕ
  put = sets s (mailbox_place t) frame

  abbrev byte : ℕ
  byte = status_of (λ k. full s k || eqb k t)

  pub filled_length : length (filled s frame) ≡ receiver_size
  unfolding filled
  filled_length = rw (length-set, length-set, length-sets) long

  pub filled_status : status (filled s frame) ≡ status_of (λ k. full s k || eqb k (turn s))
  unfolding filled
  filled_status =
      let room : status_register < length put = rw (length-sets, long) (omega arith) in
      get_or-set_other (set put status_register byte) turn_place status_register ((t + 1) % mailbox_count) 0 (λ e. omega arith)
      ∙ get_or-set_same put status_register byte 0 room

  pub filled_turn : byte_at (filled s frame) turn_place ≡ (turn s + 1) % mailbox_count
  unfolding filled
  filled_turn =
      let room : turn_place < length (set put status_register byte) = rw (length-set, length-sets, long) (omega arith) in
      get_or-set_same (set put status_register byte) turn_place ((t + 1) % mailbox_count) 0 room

  pub filled_overrun : overrun (filled s frame) ≡ overrun s
  unfolding filled
  filled_overrun =
      get_or-set_other (set put status_register byte) turn_place overrun_register ((t + 1) % mailbox_count) 0 (λ e. omega arith)
      ∙ get_or-set_other put status_register overrun_register byte 0 (λ e. omega arith)
      ∙ byte_before frame s (mailbox_place t) overrun_register (omega arith)

  filled_mailbox : (k : ℕ) → k < mailbox_count → mailbox (filled s frame) k ≡ mailbox put k
  unfolding filled
  filled_mailbox k low =
      part_set (mailbox_place k) frame_size (set put status_register byte) turn_place ((t + 1) % mailbox_count) (inr (omega arith))
      ∙ mailbox_stays put status_register byte (omega arith) k

  pub filled_apart : (k : ℕ) → k < mailbox_count → (k ≡ turn s → ⊥) → mailbox (filled s frame) k ≡ mailbox s k
  filled_apart k low apart = filled_mailbox k low ∙ part_sets (mailbox_place k) frame_size frame s (mailbox_place t) (go (ltb k t) refl)
    where
      go : (b : Bool) → ltb k t ≡ b → (mailbox_place t + length frame ≤ mailbox_place k) ⊎ (mailbox_place k + frame_size ≤ mailbox_place t)
      go true e = let l : k < t = ltb-true k t e in inr (omega arith)
      go false e = let l : t ≤ k = ltb-false k t e in inl (omega arith)

  filled_other : (k : ℕ) → T (is_other t k) → mailbox (filled s frame) k ≡ mailbox s k
  filled_other k other =
      filled_apart k (ltb→lt k mailbox_count (and_l (ltb k mailbox_count) (not (eqb k t)) other))
      (λ e. T_not (eqb k t) (and_r (ltb k mailbox_count) (not (eqb k t)) other) (holds (eq-eqb k t e)))

  filled_here : mailbox (filled s frame) t ≡ frame
  filled_here = filled_mailbox t (omega arith) ∙ part_put s frame (mailbox_place t) frame_size sized (omega arith)

  pub held_filled : status s < 256 → full s (turn s) ≡ false → held (filled s frame) ≡ held s ++ (frame ∷ [])
  unfolding waiting
  held_filled small empty =
      let m = mailbox (filled s frame) in
      let w = full_from (status s) mailbox_count t in
      let low : t < mailbox_count = omega arith in
      let again : (t + 1) % mailbox_count % mailbox_count ≡ (t + 1) % mailbox_count = omega arith in
      let order : waiting (filled s frame) ≡ w ++ (t ∷ []) =
      rw (filled_status, filled_turn, again) (filled_last (status s) t small low empty) in
      ap (map m) order
      ∙ map-append m w (t ∷ [])
      ∙ rw (filled_here, alike_where m (mailbox s) (is_other t) filled_other w (others_wait (status s) t small low empty))

-- the frame held longest gone, from mailbox k
module _ (s : List ℕ) (long : length s ≡ receiver_size) (small : status s < 256) (k : ℕ) (rest : List ℕ) (met : waiting s ≡ k ∷ rest) where
  abbrev less : ℕ
  less = status_of (λ j. full s j && not (eqb j k))

  pub held_left : held (emptied s (λ j. eqb j k)) ≡ map (mailbox s) rest
  unfolding waiting
  held_left =
      rw (
        get_or-set_same s status_register less 0 (omega arith),
        turn_stays s status_register less (omega arith),
        rest_left_lem (status s) (turn s) small (omega arith) k rest met,
      )
      (map_congr_left (λ j _. mailbox_stays s status_register less (omega arith) j))
