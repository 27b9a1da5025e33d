-- Document 02, 2026-02: what the chip does, on a receiver of any bytes. Definitions only.
use Rattle.std.specs.Prelude.{Bool, false, cond, not, ◌&&◌, ◌||◌, List, [], ◌∷◌, ℕ, zero, suc, ◌+◌, ◌%◌, eqb, set, replicate}
use Rattle.std.proofs.lemmas.List.Edits.{sets}
use Rattle.little_endian.specs.Numbers.{byte_at}
use Rattle.little_endian.specs.Flags.{bit_at}
use Rattle.receiver.specs.Registers.{status_register, overrun_register, mask_register, acknowledge_register, mailbox_count, turn_place, receiver_size, mask, mailbox_place, mailbox, turn, full, status_of, waiting}

-- "At power-up every register is 0 and the first mailbox is next."
unfoldable pub powered_up : List ℕ
powered_up = replicate receiver_size 0

-- "Acknowledge reads 0": whatever its byte holds
unfoldable pub value_read : List ℕ → ℕ → ℕ
value_read s number = cond (eqb number acknowledge_register) 0 (byte_at s number)

-- a frame in the turn's mailbox, which is full then, and the next one's turn, a byte "below 8 once moved"
unfoldable pub filled : List ℕ → List ℕ → List ℕ
filled s frame =
    set (set (sets s (mailbox_place (turn s)) frame) status_register (status_of (λ k. full s k || eqb k (turn s))))
    turn_place ((turn s + 1) % mailbox_count)

-- "An arriving frame fills the next mailbox. If that one is full, the frame is lost, overrun becomes 1 and the turn does not move."
unfoldable pub arrived : List ℕ → List ℕ → List ℕ
arrived s frame = cond (full s (turn s)) (set s overrun_register 1) (filled s frame)

-- the mailboxes that a test takes are emptied: "an emptied mailbox keeps its bytes"
abbrev pub emptied : List ℕ → (ℕ → Bool) → List ℕ
emptied s which = set s status_register (status_of (λ k. full s k && not (which k)))

-- "Writing a 1 bit to acknowledge empties that mailbox. Writing the mask sets it, any write to overrun makes it 0, and other writes
-- change nothing."
unfoldable pub written : List ℕ → ℕ → ℕ → List ℕ
written s number value =
    cond (eqb number acknowledge_register) (emptied s (λ k. bit_at k value))
    (cond (eqb number mask_register) (set s mask_register value)
    (cond (eqb number overrun_register) (set s overrun_register 0) s))

-- what comes of the first of a list, and what there is without one
abbrev pub by_first : {A : Type 0} → List ℕ → A → (ℕ → A) → A
by_first [] otherwise made = otherwise
by_first (k ∷ rest) otherwise made = made k

-- "A drain hands the tick the frame held longest and empties its mailbox; with none held it does nothing."
unfoldable pub drained : List ℕ → List ℕ
drained s = by_first (waiting s) s (λ longest. emptied s (λ k. eqb k longest))

unfoldable pub drained_frame : List ℕ → List ℕ → List ℕ
drained_frame s frame = by_first (waiting s) frame (mailbox s)

-- a test met at one of 0 to n - 1
abbrev pub some : ℕ → (ℕ → Bool) → Bool
some zero test = false
some (suc n) test = some n test || test n

-- "The line is up exactly when status and mask share a bit."
unfoldable pub is_up : List ℕ → Bool
is_up s = some mailbox_count (λ k. full s k && bit_at k (mask s))
