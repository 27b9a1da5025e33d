-- Document 02, 2026-02: the host's calls, the number that each returns, and every byte that it leaves. Definitions only.
use Rattle.std.specs.Prelude.{List, [], ◌∷◌, ℕ, eqb, leb, length, Result, ⊤}
use Rattle.common.specs.Refusals.{Asked, asks, refusal_of, done_unless, number_of}
use Rattle.little_endian.specs.Flags.{bit_value}
use Rattle.receiver.specs.Registers.{frame_size, last_register, receiver_size}
use Rattle.receiver.specs.declared.refusals.Refusal.{Refusal}
use Rattle.receiver.specs.declared.refusals.Refusal.TheVariants.{Receiver, Frame, Room, Register}
use Rattle.receiver.specs.Chip.{powered_up, value_read, arrived, written, drained, drained_frame, is_up}

-- a call, with what it is given beside the receiver: any numbers, any bytes, any lengths
pub data Call : Type 0 where
  power_up : Call
  read : (number : ℕ) (value : List ℕ) → Call
  write : (number value : ℕ) → Call
  arrive : (frame : List ℕ) → Call
  drain : (frame : List ℕ) → Call
  line : (level : List ℕ) → Call

-- "Turned away: 30, when a register number is above 91, asked before anything else."
abbrev pub is_register : ℕ → Asked
is_register number = asks (leb number last_register) 30

-- The request has no numbers for lengths: 6 for what is kept between the calls, 7 for what is handed in, 8 for what is only written.
abbrev pub is_receiver : List ℕ → Asked
is_receiver s = asks (eqb (length s) receiver_size) 6

abbrev pub is_frame : List ℕ → Asked
is_frame frame = asks (eqb (length frame) frame_size) 7

abbrev pub has_room : ℕ → List ℕ → Asked
has_room size lent = asks (eqb (length lent) size) 8

-- the numbers of the refusals
abbrev pub number : Refusal → ℕ
number Receiver = 6
number Frame = 7
number Room = 8
number Register = 30

-- the number that the host is told, 0 where nothing is refused; `number` is a register's in the contracts that say it
abbrev pub told : Result ⊤ Refusal → ℕ
told = number_of number

-- what a call asks before it does anything, in the order of asking
unfoldable pub rows : List ℕ → Call → List Asked
rows s power_up = is_receiver s ∷ []
rows s (read number value) = is_register number ∷ is_receiver s ∷ has_room 1 value ∷ []
rows s (write number value) = is_register number ∷ is_receiver s ∷ []
rows s (arrive frame) = is_receiver s ∷ is_frame frame ∷ []
rows s (drain frame) = is_receiver s ∷ has_room frame_size frame ∷ []
rows s (line level) = is_receiver s ∷ has_room 1 level ∷ []

-- the buffer that a call is lent to be written, [] where it is lent none
unfoldable pub lent_to : Call → List ℕ
lent_to power_up = []
lent_to (read number value) = value
lent_to (write number value) = []
lent_to (arrive frame) = []
lent_to (drain frame) = frame
lent_to (line level) = level

-- what a call that is carried out leaves of the receiver, and of that buffer
unfoldable pub receiver_after : List ℕ → Call → List ℕ
receiver_after s power_up = powered_up
receiver_after s (read number value) = s
receiver_after s (write number value) = written s number value
receiver_after s (arrive frame) = arrived s frame
receiver_after s (drain frame) = drained s
receiver_after s (line level) = s

unfoldable pub lent_after : List ℕ → Call → List ℕ
lent_after s power_up = []
lent_after s (read number value) = value_read s number ∷ []
lent_after s (write number value) = []
lent_after s (arrive frame) = []
lent_after s (drain frame) = drained_frame s frame
lent_after s (line level) = bit_value (is_up s) ∷ []

-- what a call returns and leaves
pub record Answer : Type 0 where
  pub number : ℕ
  pub receiver : List ℕ
  pub lent : List ℕ

-- A refusal changes no byte.
unfoldable pub answer : List ℕ → Call → Answer
answer s call =
    done_unless (refusal_of (rows s call)) (λ n. record { number = n; receiver = s; lent = lent_to call })
    (record { number = 0; receiver = receiver_after s call; lent = lent_after s call })
