-- Document 02, 2026-02: its claims. Statements only; proofs/Claimed.antt proves them.
use Rattle.std.specs.Prelude.{true, false, cond, ◌⊎◌, ◌≡◌, ℕ, ◌<◌, T, length, set, replicate}
use mathlib.Core.List.{List, [], ◌∷◌, ◌++◌, Sublist}
use Rattle.little_endian.specs.Numbers.{byte_at}
use Rattle.little_endian.specs.Flags.{bit_at}
use Rattle.receiver.specs.Registers.{overrun_register, acknowledge_register, mailbox_count, frame_size, turn_place, receiver_size, status, overrun, mask, mailbox, turn, full, held}
use Rattle.receiver.specs.Calls.{Call, power_up, arrive, drain, line, answer}
use Rattle.receiver_claims.specs.Lists.{after, gathered, throughout, arrival, handed_on, loses_none, spares, leaves_mailboxes}

-- A receiver: 93 bytes. That they are bytes is used of the status alone.
pub record IsReceiver (s : List ℕ) : Type 0 where
  pub long : length s ≡ receiver_size
  pub byte : status s < 256

-- "in which no frame is lost"; the calls that stand between arrivals and drains may be any but writes to acknowledge and power-ups, refused
-- ones too.
abbrev pub OnlyHandsOn : List ℕ → List Call → Type 0
OnlyHandsOn s calls = T (throughout loses_none s calls) × T (throughout (spares acknowledge_register) s calls)

-- From any receiver: the frames handed on, followed by those still held, are those held at first, followed by the arrivals.
abbrev pub InOrderFromAny : Type 0
InOrderFromAny =
    (s : List ℕ)
    → IsReceiver s
    → (calls : List Call)
    → OnlyHandsOn s calls
    → gathered handed_on s calls ++ held (after s calls) ≡ held s ++ gathered arrival s calls

-- "For every list of arrivals and drains from power-up in which no frame is lost, the frames handed on, followed by those still held, are
-- the arrivals in their order."
abbrev pub InOrder : Type 0
InOrder =
    (buffer : List ℕ)
    → (answer buffer power_up).number ≡ 0
    → (calls : List Call)
    → OnlyHandsOn (answer buffer power_up).receiver calls
    → gathered handed_on (answer buffer power_up).receiver calls ++ held (after (answer buffer power_up).receiver calls)
    ≡ gathered arrival (answer buffer power_up).receiver calls

-- A drain hands on "the frame held longest", also where frames are lost, acknowledged or gone with a power-up: over every list of calls
-- whatever, the frames handed on, followed by those still held, are those held at first, followed by the arrivals, with some left out.
abbrev pub NoneOvertakes : Type 0
NoneOvertakes =
    (s : List ℕ)
    → IsReceiver s
    → (calls : List Call)
    → Sublist (gathered handed_on s calls ++ held (after s calls)) (held s ++ gathered arrival s calls)

-- `held` is the order in which they would be handed on: eight drains hand on just these.
abbrev pub HeldInTurn : Type 0
HeldInTurn =
    (s : List ℕ)
    → IsReceiver s
    → (frame : List ℕ)
    → length frame ≡ frame_size
    → gathered handed_on s (replicate mailbox_count (drain frame)) ≡ held s

-- Whether a frame is held is what the status tells.
pub record Told (s : List ℕ) : Type 0 where
  pub when_zero : status s ≡ 0 → held s ≡ []
  pub only_then : held s ≡ [] → status s ≡ 0

abbrev pub StatusTells : Type 0
StatusTells = (s : List ℕ) → IsReceiver s → Told s

-- "The line is up exactly when status and mask share a bit", whatever the bytes.
pub record Share (s : List ℕ) : Type 0 where
  pub bit : ℕ
  pub below : bit < mailbox_count
  pub of_status : T (bit_at bit (status s))
  pub of_mask : T (bit_at bit (mask s))

pub record Line (s level : List ℕ) : Type 0 where
  pub up : Share s → (answer s (line level)).lent ≡ 1 ∷ []
  pub down : (Share s → ⊥) → (answer s (line level)).lent ≡ 0 ∷ []

abbrev pub LineExact : Type 0
LineExact = (s level : List ℕ) → (answer s (line level)).number ≡ 0 → Line s level

-- "an emptied mailbox keeps its bytes": every call but an arrival and a power-up leaves the bytes of every mailbox.
abbrev pub BytesKept : Type 0
BytesKept = (s : List ℕ) (call : Call) → T (leaves_mailboxes call) → (k : ℕ) → mailbox (answer s call).receiver k ≡ mailbox s k

-- the turn is "below 8 once moved": after any list it is the byte of before, or below 8
abbrev pub TurnBelow : Type 0
TurnBelow =
    (s : List ℕ) (calls : List Call)
    → (byte_at (after s calls) turn_place ≡ byte_at s turn_place) ⊎ (byte_at (after s calls) turn_place < mailbox_count)

-- "If that one is full, the frame is lost, overrun becomes 1 and the turn does not move": nothing but overrun changes, and what is held
-- stays. Otherwise the frame is held, behind the others, and full or empty these keep their bytes.
pub record Arrived (s frame : List ℕ) : Type 0 where
  pub lost : full s (turn s) ≡ true → (answer s (arrive frame)).receiver ≡ set s overrun_register 1
  pub keeps_held : full s (turn s) ≡ true → held (answer s (arrive frame)).receiver ≡ held s
  pub kept : full s (turn s) ≡ false → held (answer s (arrive frame)).receiver ≡ held s ++ (frame ∷ [])
  pub others : (k : ℕ) → k < mailbox_count → (k ≡ turn s → ⊥) → mailbox (answer s (arrive frame)).receiver k ≡ mailbox s k

abbrev pub LostExactly : Type 0
LostExactly = (s : List ℕ) → IsReceiver s → (frame : List ℕ) → length frame ≡ frame_size → Arrived s frame

-- Over every list without a write to overrun or a power-up, overrun is 1 afterwards where a frame was lost, else what it was.
abbrev pub OverrunTells : Type 0
OverrunTells =
    (s : List ℕ) (calls : List Call)
    → T (throughout (spares overrun_register) s calls)
    → overrun (after s calls) ≡ cond (throughout loses_none s calls) (overrun s) 1
