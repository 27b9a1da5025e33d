-- The sessions, computed: phase, reason and command of two leads; phase, command and count of one; what two leads want, get and are offered;
-- phase, reason and command of three leads that their cars end, and of three with inexact meters. Assumes nothing.
use mathlib.Core.Bool.{Bool, not}
use mathlib.Core.List.{[], ◌∷◌}
use mathlib.Core.Path.{◌≡◌, refl}
use Prim.Native.Nat.{ℕ}
use lib.Dec.{T_not, lit≤}
use Rattle.common.proofs.Bools.{between_hi, up_to_at}
use Rattle.readings.specs.Readings.{tenths}
use Rattle.lead.specs.Names.{overvoltage, overcurrent}
use Rattle.lead.specs.Questions.{got_no}
use Rattle.lead.specs.Claims.{Passes}
use Rattle.post.specs.Rules.{input_at}
use Rattle.post.specs.All.{post_rules}
use Rattle.safety.specs.Lists.{outcome, ticks_of, stretches_of}
use Rattle.safety.specs.Demand3.{inputs_at, leads_before, Moves, Withdraws}
use Rattle.safety.specs.Ranges.{heard_at, view_at, VoltsMayBe, AmperesMayBe}
use Rattle.safety.specs.Session.{session, twice, withdrawal, inexact, played, played_twice, played_withdrawal, played_inexact, withdrawal_head, withdrawal_ticks, inexact_head, inexact_ticks, offers_from}

pub session_shows :
    played
    ≡ ((
    -- the first lead starts, then the second
    (1 ∷ 0 ∷ 0 ∷ 0 ∷ 0 ∷ 0 ∷ [])
    ∷ (2 ∷ 0 ∷ 0 ∷ 1 ∷ 0 ∷ 0 ∷ [])
    ∷ (3 ∷ 0 ∷ 0 ∷ 2 ∷ 0 ∷ 0 ∷ [])
    ∷ (4 ∷ 0 ∷ 0 ∷ 3 ∷ 0 ∷ 0 ∷ [])
    ∷ (5 ∷ 0 ∷ 0 ∷ 4 ∷ 0 ∷ 0 ∷ [])
    -- they charge, and are raised
    ∷ (6 ∷ 0 ∷ 2 ∷ 5 ∷ 0 ∷ 0 ∷ [])
    ∷ (6 ∷ 0 ∷ 4 ∷ 6 ∷ 0 ∷ 2 ∷ [])
    ∷ (6 ∷ 0 ∷ 6 ∷ 6 ∷ 0 ∷ 4 ∷ [])
    -- they share
    ∷ (6 ∷ 0 ∷ 3 ∷ 6 ∷ 0 ∷ 3 ∷ [])
    -- the first is stopped, ends, and is unplugged; the second gets what it left
    ∷ (7 ∷ 26 ∷ 0 ∷ 6 ∷ 0 ∷ 5 ∷ [])
    ∷ (8 ∷ 26 ∷ 0 ∷ 6 ∷ 0 ∷ 7 ∷ [])
    ∷ (9 ∷ 26 ∷ 0 ∷ 6 ∷ 0 ∷ 7 ∷ [])
    ∷ (10 ∷ 26 ∷ 0 ∷ 6 ∷ 0 ∷ 7 ∷ [])
    ∷ (0 ∷ 26 ∷ 0 ∷ 6 ∷ 0 ∷ 7 ∷ [])
    -- it is started anew
    ∷ (1 ∷ 0 ∷ 0 ∷ 6 ∷ 0 ∷ 7 ∷ [])
    -- the second is cut off at 7 A
    ∷ (1 ∷ 0 ∷ 0 ∷ 9 ∷ 14 ∷ 0 ∷ [])
    ∷ [])
    -- the post is set up anew
    ∷ ((0 ∷ 0 ∷ 0 ∷ 1 ∷ 0 ∷ 0 ∷ []) ∷ [])
    ∷ [])
unfolding session outcome ticks_of stretches_of post_rules
session_shows = refl

pub counts_show :
    played_twice
    ≡ ((
    -- the lead starts, and charges at 50 V
    (1 ∷ 0 ∷ 0 ∷ [])
    ∷ (2 ∷ 0 ∷ 0 ∷ [])
    ∷ (3 ∷ 0 ∷ 0 ∷ [])
    ∷ (4 ∷ 0 ∷ 0 ∷ [])
    ∷ (5 ∷ 0 ∷ 0 ∷ [])
    ∷ (6 ∷ 2 ∷ 100 ∷ [])
    ∷ (6 ∷ 4 ∷ 300 ∷ [])
    ∷ (6 ∷ 6 ∷ 600 ∷ [])
    ∷ (6 ∷ 8 ∷ 1000 ∷ [])
    ∷ (6 ∷ 10 ∷ 1500 ∷ [])
    ∷ (6 ∷ 12 ∷ 2100 ∷ [])
    -- it ramps down, and still counts
    ∷ (7 ∷ 2 ∷ 2200 ∷ [])
    ∷ (7 ∷ 0 ∷ 2200 ∷ [])
    -- it ends, is unplugged and stays idle, and keeps its count
    ∷ (8 ∷ 0 ∷ 2200 ∷ [])
    ∷ (9 ∷ 0 ∷ 2200 ∷ [])
    ∷ (10 ∷ 0 ∷ 2200 ∷ [])
    ∷ (0 ∷ 0 ∷ 2200 ∷ [])
    ∷ (0 ∷ 0 ∷ 2200 ∷ [])
    -- after the next start it counts from 0
    ∷ (1 ∷ 0 ∷ 0 ∷ [])
    ∷ (2 ∷ 0 ∷ 0 ∷ [])
    ∷ (3 ∷ 0 ∷ 0 ∷ [])
    ∷ (4 ∷ 0 ∷ 0 ∷ [])
    ∷ (5 ∷ 0 ∷ 0 ∷ [])
    ∷ (6 ∷ 2 ∷ 100 ∷ [])
    ∷ (6 ∷ 4 ∷ 300 ∷ [])
    ∷ [])
    ∷ [])
unfolding twice outcome ticks_of stretches_of post_rules
counts_show = refl

-- of each lead phase, want, command and offer
pub offers_show :
    offers_from 5 9
    ≡ (
    -- the first lead begins to charge, then the second; there is power for more than the rating of 12 A
    (6 ∷ 2 ∷ 2 ∷ 12 ∷ 5 ∷ 0 ∷ 0 ∷ 12 ∷ [])
    ∷ (6 ∷ 4 ∷ 4 ∷ 12 ∷ 6 ∷ 2 ∷ 2 ∷ 12 ∷ [])
    ∷ (6 ∷ 6 ∷ 6 ∷ 12 ∷ 6 ∷ 4 ∷ 4 ∷ 12 ∷ [])
    -- power is short: both want more than 3 A, are offered 3 A and get just these
    ∷ (6 ∷ 8 ∷ 3 ∷ 3 ∷ 6 ∷ 6 ∷ 3 ∷ 3 ∷ [])
    -- the first ramps down and ends, and is shown the rating; the offer to the second rises again
    ∷ (7 ∷ 0 ∷ 0 ∷ 12 ∷ 6 ∷ 5 ∷ 5 ∷ 7 ∷ [])
    ∷ (8 ∷ 0 ∷ 0 ∷ 12 ∷ 6 ∷ 7 ∷ 7 ∷ 7 ∷ [])
    -- it wants more than that, and gets just what it is offered; to the first nothing is sent any more
    ∷ (9 ∷ 0 ∷ 0 ∷ 12 ∷ 6 ∷ 9 ∷ 7 ∷ 7 ∷ [])
    ∷ (10 ∷ 0 ∷ 0 ∷ 0 ∷ 6 ∷ 9 ∷ 7 ∷ 7 ∷ [])
    ∷ (0 ∷ 0 ∷ 0 ∷ 0 ∷ 6 ∷ 9 ∷ 7 ∷ 7 ∷ [])
    ∷ [])
unfolding session ticks_of post_rules
offers_show = refl

pub withdrawal_shows :
    played_withdrawal
    ≡ ((
    (1 ∷ 0 ∷ 0 ∷ 1 ∷ 0 ∷ 0 ∷ 1 ∷ 0 ∷ 0 ∷ [])
    ∷ (2 ∷ 0 ∷ 0 ∷ 2 ∷ 0 ∷ 0 ∷ 2 ∷ 0 ∷ 0 ∷ [])
    ∷ (3 ∷ 0 ∷ 0 ∷ 3 ∷ 0 ∷ 0 ∷ 3 ∷ 0 ∷ 0 ∷ [])
    ∷ (4 ∷ 0 ∷ 0 ∷ 4 ∷ 0 ∷ 0 ∷ 4 ∷ 0 ∷ 0 ∷ [])
    ∷ (5 ∷ 0 ∷ 0 ∷ 5 ∷ 0 ∷ 0 ∷ 5 ∷ 0 ∷ 0 ∷ [])
    -- they charge
    ∷ (6 ∷ 0 ∷ 2 ∷ 6 ∷ 0 ∷ 2 ∷ 6 ∷ 0 ∷ 2 ∷ [])
    ∷ (6 ∷ 0 ∷ 4 ∷ 6 ∷ 0 ∷ 4 ∷ 6 ∷ 0 ∷ 4 ∷ [])
    ∷ (6 ∷ 0 ∷ 6 ∷ 6 ∷ 0 ∷ 6 ∷ 6 ∷ 0 ∷ 6 ∷ [])
    ∷ (6 ∷ 0 ∷ 8 ∷ 6 ∷ 0 ∷ 8 ∷ 6 ∷ 0 ∷ 8 ∷ [])
    ∷ (6 ∷ 0 ∷ 10 ∷ 6 ∷ 0 ∷ 10 ∷ 6 ∷ 0 ∷ 10 ∷ [])
    ∷ (6 ∷ 0 ∷ 12 ∷ 6 ∷ 0 ∷ 12 ∷ 6 ∷ 0 ∷ 12 ∷ [])
    -- the first and the second are cut off at 12 A, with 23 and with 14; the third, with 23 too, ramps down
    ∷ (9 ∷ 23 ∷ 0 ∷ 9 ∷ 14 ∷ 0 ∷ 7 ∷ 23 ∷ 2 ∷ [])
    -- whatever comes, nothing is commanded any more
    ∷ (10 ∷ 23 ∷ 0 ∷ 10 ∷ 14 ∷ 0 ∷ 7 ∷ 23 ∷ 0 ∷ [])
    -- they are unplugged, the third in its ramp; the first two are started anew
    ∷ (0 ∷ 23 ∷ 0 ∷ 0 ∷ 14 ∷ 0 ∷ 9 ∷ 23 ∷ 0 ∷ [])
    ∷ (1 ∷ 0 ∷ 0 ∷ 1 ∷ 0 ∷ 0 ∷ 9 ∷ 23 ∷ 0 ∷ [])
    ∷ [])
    ∷ [])
unfolding withdrawal outcome ticks_of stretches_of post_rules
withdrawal_shows = refl

-- in the tick that cuts the first lead off, its questions by their numbers
abbrev got_a_no : ℕ → Bool
got_a_no = got_no withdrawal_head.ratings (input_at withdrawal_head (inputs_at withdrawal_head withdrawal_ticks 11) 0) (leads_before withdrawal_head withdrawal_ticks 11 0)

-- the request's conditions hold there
pub withdraws_there : Withdraws withdrawal_head withdrawal_ticks 11 0
unfolding withdrawal ticks_of post_rules
withdraws_there =
    record {
      phases = tt;
      passed = λ n asked. T_not (got_a_no n) (up_to_at 13 (λ m. not (got_a_no m)) tt n (between_hi 11 13 n asked));
      opened = tt;
      said = tt;
    }

pub inexact_shows :
    played_inexact
    ≡ ((
    (1 ∷ 0 ∷ 0 ∷ 1 ∷ 0 ∷ 0 ∷ 1 ∷ 0 ∷ 0 ∷ [])
    ∷ (2 ∷ 0 ∷ 0 ∷ 2 ∷ 0 ∷ 0 ∷ 2 ∷ 0 ∷ 0 ∷ [])
    ∷ (3 ∷ 0 ∷ 0 ∷ 3 ∷ 0 ∷ 0 ∷ 3 ∷ 0 ∷ 0 ∷ [])
    ∷ (4 ∷ 0 ∷ 0 ∷ 4 ∷ 0 ∷ 0 ∷ 4 ∷ 0 ∷ 0 ∷ [])
    -- at 98 tenths of a volt, which may be 101, the first stays in 4; at 97 it goes on
    ∷ (4 ∷ 0 ∷ 0 ∷ 5 ∷ 0 ∷ 0 ∷ 5 ∷ 0 ∷ 0 ∷ [])
    ∷ (5 ∷ 0 ∷ 0 ∷ 6 ∷ 0 ∷ 2 ∷ 6 ∷ 0 ∷ 2 ∷ [])
    -- at 497 and 141 tenths the first charges; at 498 tenths of a volt the second stops with 16, at 142 of an ampere the third with 17
    ∷ (6 ∷ 0 ∷ 2 ∷ 9 ∷ 16 ∷ 0 ∷ 9 ∷ 17 ∷ 0 ∷ [])
    ∷ (6 ∷ 0 ∷ 4 ∷ 10 ∷ 16 ∷ 0 ∷ 10 ∷ 17 ∷ 0 ∷ [])
    -- stopped, the first stays in 7 at 46 tenths of an ampere, which may be 50, and goes on at 45
    ∷ (7 ∷ 26 ∷ 0 ∷ 0 ∷ 16 ∷ 0 ∷ 0 ∷ 17 ∷ 0 ∷ [])
    ∷ (7 ∷ 26 ∷ 0 ∷ 0 ∷ 16 ∷ 0 ∷ 0 ∷ 17 ∷ 0 ∷ [])
    ∷ (8 ∷ 26 ∷ 0 ∷ 0 ∷ 16 ∷ 0 ∷ 0 ∷ 17 ∷ 0 ∷ [])
    ∷ (9 ∷ 26 ∷ 0 ∷ 0 ∷ 16 ∷ 0 ∷ 0 ∷ 17 ∷ 0 ∷ [])
    -- in 9 as in 4
    ∷ (9 ∷ 26 ∷ 0 ∷ 0 ∷ 16 ∷ 0 ∷ 0 ∷ 17 ∷ 0 ∷ [])
    ∷ (10 ∷ 26 ∷ 0 ∷ 0 ∷ 16 ∷ 0 ∷ 0 ∷ 17 ∷ 0 ∷ [])
    ∷ [])
    ∷ [])
unfolding inexact outcome ticks_of stretches_of post_rules
inexact_shows = refl

-- the readings of its first lead, which stand for just the limit too
module _ (t : ℕ) where
  abbrev VoltsAt : ℕ → Type 0
  VoltsAt x = VoltsMayBe inexact_head inexact_ticks t 0 (tenths x)

  abbrev AmperesAt : ℕ → Type 0
  AmperesAt x = AmperesMayBe inexact_head inexact_ticks t 0 (tenths x)

  abbrev PassesAt : ℕ → Type 0
  PassesAt n = Passes n (view_at inexact_head inexact_ticks t 0) (heard_at inexact_head inexact_ticks t 0)

  abbrev MovesAt : ℕ → ℕ → Type 0
  MovesAt = Moves inexact_head inexact_ticks t 0

-- each of the five is passed there
pub inexact_passes :
    (VoltsAt 5 100 × MovesAt 5 4 5)
    × (VoltsAt 6 500 × PassesAt 6 overvoltage)
    × (AmperesAt 6 145 × PassesAt 6 overcurrent)
    × (AmperesAt 10 49 × MovesAt 10 7 8)
    × (VoltsAt 13 100 × MovesAt 13 9 10)
unfolding inexact ticks_of post_rules
inexact_passes = (
  (record { volts = tenths 97; amperes = tenths 0; reads = refl; stands = record { from = lit≤ tt; to = lit≤ tt } }, (refl, refl)),
  (record { volts = tenths 497; amperes = tenths 141; reads = refl; stands = record { from = lit≤ tt; to = lit≤ tt } }, (tt, tt)),
  (record { volts = tenths 497; amperes = tenths 141; reads = refl; stands = record { from = lit≤ tt; to = lit≤ tt } }, (tt, tt)),
  (record { volts = tenths 0; amperes = tenths 45; reads = refl; stands = record { from = lit≤ tt; to = lit≤ tt } }, (refl, refl)),
  (record { volts = tenths 97; amperes = tenths 0; reads = refl; stands = record { from = lit≤ tt; to = lit≤ tt } }, (refl, refl)),
)
