-- Lists of the host's calls on one receiver, carried out by `answer`, which the contracts of the exported functions name. Definitions only.
use Rattle.std.specs.Prelude.{Bool, true, false, cond, not, ◌&&◌, List, [], ◌∷◌, ◌++◌, ℕ, eqb}
use Rattle.receiver.specs.Registers.{status, turn, full}
use Rattle.receiver.specs.Calls.{Call, power_up, read, write, arrive, drain, line, answer}

-- the receiver after the calls: each gets it as the one before left it, nobody else writes it
abbrev pub after : List ℕ → List Call → List ℕ
after s [] = s
after s (call ∷ calls) = after (answer s call).receiver calls

-- the frames that each call gives, one after the other
abbrev pub gathered : (List ℕ → Call → List (List ℕ)) → List ℕ → List Call → List (List ℕ)
gathered frames s [] = []
gathered frames s (call ∷ calls) = frames s call ++ gathered frames (answer s call).receiver calls

-- a test met at every call
abbrev pub throughout : (List ℕ → Call → Bool) → List ℕ → List Call → Bool
throughout test s [] = true
throughout test s (call ∷ calls) = test s call && throughout test (answer s call).receiver calls

-- the call is not refused
abbrev pub is_done : List ℕ → Call → Bool
is_done s call = eqb (answer s call).number 0

-- the frame that an arrival brings
unfoldable pub arrival : List ℕ → Call → List (List ℕ)
arrival s power_up = []
arrival s (read number value) = []
arrival s (write number value) = []
arrival s (arrive frame) = cond (is_done s (arrive frame)) (frame ∷ []) []
arrival s (drain frame) = []
arrival s (line level) = []

-- the frame that a drain hands on: what it leaves in the buffer that it is lent, where the status before it is not 0
unfoldable pub handed_on : List ℕ → Call → List (List ℕ)
handed_on s power_up = []
handed_on s (read number value) = []
handed_on s (write number value) = []
handed_on s (arrive frame) = []
handed_on s (drain frame) = cond (is_done s (drain frame) && not (eqb (status s) 0)) ((answer s (drain frame)).lent ∷ []) []
handed_on s (line level) = []

-- "in which no frame is lost": an arrival meets an empty mailbox
unfoldable pub loses_none : List ℕ → Call → Bool
loses_none s power_up = true
loses_none s (read number value) = true
loses_none s (write number value) = true
loses_none s (arrive frame) = not (is_done s (arrive frame) && full s (turn s))
loses_none s (drain frame) = true
loses_none s (line level) = true

-- the call is neither a write to this register nor a power-up
unfoldable pub spares : ℕ → List ℕ → Call → Bool
spares register s power_up = false
spares register s (read number value) = true
spares register s (write number value) = not (eqb number register)
spares register s (arrive frame) = true
spares register s (drain frame) = true
spares register s (line level) = true

-- the call is neither an arrival nor a power-up
abbrev pub leaves_mailboxes : Call → Bool
leaves_mailboxes power_up = false
leaves_mailboxes (read number value) = true
leaves_mailboxes (write number value) = true
leaves_mailboxes (arrive frame) = false
leaves_mailboxes (drain frame) = true
leaves_mailboxes (line level) = true
