-- The lists, computed: the premises of the claims hold, and something happens. Assumes nothing.
use mathlib.Core.Bool.{false}
use mathlib.Core.List.{List, [], ◌∷◌, map}
use mathlib.Core.Path.{◌≡◌, refl}
use Prim.Native.Nat.{ℕ}
use native.Mathlib.Omega.{arith}
use lib.Dec.{T}
use lib.ListN.{replicate}
use Rattle.little_endian.specs.Numbers.{byte_at}
use Rattle.receiver.specs.Registers.{overrun_register, mailbox_count, turn_place, receiver_size, overrun, mailbox, full, held}
use Rattle.receiver.specs.Chip.{powered_up}
use Rattle.receiver.specs.Calls.{power_up, line, answer}
use Rattle.receiver.specs.All.{receiver_rules}
use Rattle.receiver_claims.specs.Lists.{after, gathered, throughout, handed_on, loses_none, spares}
use Rattle.receiver_claims.specs.Claims.{IsReceiver, OnlyHandsOn}
use Rattle.receiver_claims.specs.Witness.{frame, drains, round, overfull, handed_in, one_more}

-- power-up, of a buffer with anything in it
pub starts : (answer (replicate receiver_size 7) power_up).number ≡ 0
unfolding receiver_rules
starts = refl

-- `round`: no frame is lost, frames are handed on, and frames are held
abbrev rounded : List ℕ
rounded = after powered_up round

pub round_hands_on : OnlyHandsOn powered_up round
unfolding receiver_rules loses_none spares
round_hands_on = (tt, tt)

pub round_handed : gathered handed_on powered_up round ≡ map frame (1 ∷ 2 ∷ 3 ∷ 4 ∷ 5 ∷ [])
unfolding receiver_rules handed_on
round_handed = refl

pub round_held : held rounded ≡ map frame (6 ∷ 7 ∷ 8 ∷ 9 ∷ 10 ∷ 11 ∷ [])
unfolding receiver_rules
round_held = refl

-- then eight drains hand on the six, the line is up, the turn has gone round, and mailbox 3 is empty and keeps frame 4
pub six_drained : gathered handed_on rounded (drains mailbox_count) ≡ map frame (6 ∷ 7 ∷ 8 ∷ 9 ∷ 10 ∷ 11 ∷ [])
unfolding receiver_rules handed_on
six_drained = refl

pub line_is_up : (answer rounded (line (0 ∷ []))).lent ≡ 1 ∷ []
unfolding receiver_rules
line_is_up = refl

pub turn_went_round : byte_at rounded turn_place ≡ 3
unfolding receiver_rules
turn_went_round = refl

pub emptied_keeps : (full rounded 3 ≡ false) × (mailbox rounded 3 ≡ frame 4)
unfolding receiver_rules
emptied_keeps = (refl, refl)

-- `overfull`: a frame is lost, the others are held, and overrun tells it
pub overfull_loses : throughout loses_none powered_up overfull ≡ false
unfolding receiver_rules loses_none
overfull_loses = refl

pub overfull_spares : T (throughout (spares overrun_register) powered_up overfull)
unfolding receiver_rules spares
overfull_spares = tt

pub overfull_held : held (after powered_up overfull) ≡ map frame (2 ∷ 3 ∷ 4 ∷ 5 ∷ 6 ∷ 7 ∷ 8 ∷ 10 ∷ [])
unfolding receiver_rules
overfull_held = refl

pub overfull_told : overrun (after powered_up overfull) ≡ 1
unfolding receiver_rules
overfull_told = refl

-- `handed_in`: what is held at first is handed on before what arrives, the turn comes below 8, and overrun stays what it was
pub handed_in_receiver : IsReceiver handed_in
handed_in_receiver = record { long = refl; byte = omega arith }

pub handed_in_held : held handed_in ≡ map frame (21 ∷ 22 ∷ [])
unfolding receiver_rules
handed_in_held = refl

pub handed_in_hands_on : OnlyHandsOn handed_in one_more
unfolding receiver_rules loses_none spares
handed_in_hands_on = (tt, tt)

pub handed_in_handed : gathered handed_on handed_in one_more ≡ frame 21 ∷ []
unfolding receiver_rules handed_on
handed_in_handed = refl

pub handed_in_left : held (after handed_in one_more) ≡ map frame (22 ∷ 30 ∷ [])
unfolding receiver_rules
handed_in_left = refl

pub handed_in_turn : byte_at (after handed_in one_more) turn_place ≡ 1
unfolding receiver_rules
handed_in_turn = refl

pub handed_in_overrun : overrun (after handed_in one_more) ≡ 7
unfolding receiver_rules
handed_in_overrun = refl
