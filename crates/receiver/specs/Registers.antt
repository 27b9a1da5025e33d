-- Document 02, 2026-02: the receive chip's bytes, and which frame is held longest. Definitions only.
use Rattle.std.specs.Prelude.{Bool, cond, List, [], ◌∷◌, map, ℕ, zero, suc, ◌+◌, ◌*◌, ◌%◌}
use Rattle.common.specs.Parts.{part}
use Rattle.little_endian.specs.Numbers.{byte_at}
use Rattle.little_endian.specs.Flags.{bit_at, byte_of}

-- "registers as bytes: status (bit n for mailbox n, from 0), overrun, interrupt mask, acknowledge, then eight mailboxes of 11 bytes"
abbrev pub status_register : ℕ
status_register = 0

abbrev pub overrun_register : ℕ
overrun_register = 1

abbrev pub mask_register : ℕ
mask_register = 2

abbrev pub acknowledge_register : ℕ
acknowledge_register = 3

abbrev pub first_mailbox : ℕ
first_mailbox = 4

abbrev pub mailbox_count : ℕ
mailbox_count = 8

abbrev pub frame_size : ℕ
frame_size = 11

abbrev pub last_register : ℕ
last_register = 91

-- "Beside these 92 bytes the state has only the turn"
abbrev pub turn_place : ℕ
turn_place = 92

abbrev pub receiver_size : ℕ
receiver_size = 93

abbrev pub status : List ℕ → ℕ
status s = byte_at s status_register

abbrev pub overrun : List ℕ → ℕ
overrun s = byte_at s overrun_register

abbrev pub mask : List ℕ → ℕ
mask s = byte_at s mask_register

abbrev pub mailbox_place : ℕ → ℕ
mailbox_place k = first_mailbox + frame_size * k

abbrev pub mailbox : List ℕ → ℕ → List ℕ
mailbox s k = part first_mailbox frame_size k s

-- "the turn, a byte read modulo 8": the mailbox that the next frame is for
abbrev pub turn : List ℕ → ℕ
turn s = byte_at s turn_place % mailbox_count

-- "bit n for mailbox n"
abbrev pub full : List ℕ → ℕ → Bool
full s k = bit_at k (status s)

-- the status in which the mailboxes that a test takes are full, and no others
unfoldable pub status_of : (ℕ → Bool) → ℕ
status_of test = byte_of (map test (0 ∷ 1 ∷ 2 ∷ 3 ∷ 4 ∷ 5 ∷ 6 ∷ 7 ∷ []))

-- of n mailboxes from k's upward, round the ring, the full ones in that order
unfoldable pub full_from : ℕ → ℕ → ℕ → List ℕ
full_from byte zero k = []
full_from byte (suc n) k =
    let here : ℕ = k % mailbox_count in
    cond (bit_at here byte) (here ∷ full_from byte n (suc k)) (full_from byte n (suc k))

-- The full mailboxes, that of "the frame held longest" first. They are "used in turn", so in every list from power-up the turn's, where it
-- is full, was filled before all others, and the one before it after them; of bytes handed in this is the rule too.
unfoldable pub waiting : List ℕ → List ℕ
waiting s = full_from (status s) mailbox_count (turn s)

-- the frames "still held", in the order in which they would be handed on
abbrev pub held : List ℕ → List (List ℕ)
held s = map (mailbox s) (waiting s)
