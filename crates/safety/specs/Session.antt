-- Lists of calls in which what demand 3 and requests 2026-01, 2026-05, 2026-06 and 2026-08 speak of happens: their claims are not empty.
-- Definitions only.
use Rattle.std.specs.Prelude.{List, [], ◌∷◌, ◌++◌, ℕ, zero, suc, ◌-◌, length, replicate, take, drop}
use Rattle.little_endian.specs.Numbers.{byte_at, u64_at, u32_bytes}
use Rattle.lead_records.specs.Inputs.{input_size}
use Rattle.post.specs.Heads.{state_length, output_length, state_part, output_part, head_from}
use Rattle.post.specs.Calls.{setup_of}
use Rattle.post.specs.declared.head.Head.{Head}
use Rattle.setup_numbers.specs.declared.SetupErrors.{SetupErrors}
use Rattle.safety.specs.Lists.{Call, setup, tick, Tick, ticks_of, Stretch, stretches_of}
use Rattle.safety.specs.Demand3.{command_at, phase_at}
use Rattle.safety.specs.Offers.{offer_at, wanted_amperes_at}

-- bytes, filled up with zeros
abbrev filled_up : ℕ → List ℕ → List ℕ
filled_up size bytes = bytes ++ replicate (size - length bytes) 0

-- H'100: a battery of at most 50 V
abbrev battery : List ℕ
battery = (0x00 ∷ 1 ∷ 8 ∷ []) ++ (0 ∷ 0 ∷ 0 ∷ 0 ∷ 50 ∷ 0 ∷ 0 ∷ 0 ∷ [])

-- H'101: 60 s
abbrev time : List ℕ
time = (0x01 ∷ 1 ∷ 8 ∷ []) ++ (0 ∷ 6 ∷ 0 ∷ 0 ∷ 0 ∷ 0 ∷ 0 ∷ 0 ∷ [])

-- H'102: 50 V and 12 A asked for
abbrev status : ℕ → List ℕ
status flags = (0x02 ∷ 1 ∷ 8 ∷ []) ++ (0 ∷ 50 ∷ 0 ∷ 12 ∷ 0 ∷ flags ∷ 0 ∷ 0 ∷ [])

-- enabled, with the contactor open or closed
abbrev opened : List ℕ
opened = status 9

abbrev closed : List ℕ
closed = status 1

-- not enabled, with the contactor closed
abbrev revoked : List ℕ
revoked = status 0

-- a lead's input: the bits of volts and amperes, contacts, what is present, frames; insulation resistance 8,192 ohms
abbrev metered : ℕ → ℕ → ℕ → ℕ → ℕ → List ℕ → List ℕ
metered volts amperes contacts present count frames =
    filled_up input_size ((contacts ∷ present ∷ count ∷ 0 ∷ []) ++ u32_bytes volts ++ u32_bytes amperes ++ (0 ∷ 0 ∷ 0 ∷ 0x46 ∷ []) ++ frames)

-- volts 0 and amperes 0 where present
abbrev lead_input : ℕ → ℕ → ℕ → List ℕ → List ℕ
lead_input = metered 0 0

-- what a lead is given: nothing plugged in
abbrev unplugged : List ℕ
unplugged = lead_input 0 3 0 []

-- plug closed, start pressed
abbrev start : List ℕ
start = lead_input 0x21 0 0 []

-- plug and charge permission closed, the car's first frames
abbrev handshake : List ℕ
handshake = lead_input 3 0 3 (battery ++ time ++ opened)

-- from here on the lock is closed too
abbrev hold : List ℕ
hold = lead_input 7 3 0 []

-- with an insulation resistance
abbrev test : List ℕ
test = lead_input 7 7 0 []

-- with the contactor closed, and at last open
abbrev charge : List ℕ
charge = lead_input 7 3 1 closed

abbrev release : List ℕ
release = lead_input 7 3 1 opened

-- the stop button pressed
abbrev stop : List ℕ
stop = lead_input 0x17 3 0 []

-- the permission opened, with current flowing
abbrev cut : List ℕ
cut = lead_input 5 3 1 closed

-- 2026-06: the permission opened, and enabled clear in the same tick
abbrev withdraw : List ℕ
withdraw = lead_input 5 3 1 revoked

-- the same, but a later H'102 of the tick enables again
abbrev waver : List ℕ
waver = lead_input 5 3 2 (revoked ++ closed)

-- enabled clear, with the permission closed
abbrev revoke : List ℕ
revoke = lead_input 7 3 1 revoked

-- 2026-08: with the lock closed, 9.625 or 9.75 V, which are 97 and 98 tenths
abbrev at_97 : List ℕ
at_97 = metered 0x411a_0000 0 7 3 0 []

abbrev at_98 : List ℕ
at_98 = metered 0x411c_0000 0 7 3 0 []

-- the contactor closed, some volts and amperes
abbrev charged : ℕ → ℕ → List ℕ
charged volts amperes = metered volts amperes 7 3 1 closed

-- 49.625 V and 14.0625 A, which are 497 and 141 tenths
abbrev at_limits : List ℕ
at_limits = charged 0x4246_8000 0x4161_0000

-- 49.75 V, and 14.125 A: a tenth more
abbrev over_volts : List ℕ
over_volts = charged 0x4247_0000 0

abbrev over_amperes : List ℕ
over_amperes = charged 0 0x4162_0000

-- 4.5 or 4.5625 A, which are 45 and 46 tenths
abbrev at_45 : List ℕ
at_45 = metered 0 0x4090_0000 7 3 0 []

abbrev at_46 : List ℕ
at_46 = metered 0 0x4092_0000 7 3 0 []

-- a post with some leads, 500 V and 12 A, and meters that are off by so much
abbrev head_with : ℕ → SetupErrors → Head
head_with leads errors = head_from (record { leads = leads; volts = 500; amperes = 12; resistance = 0; errors = errors })

-- exact meters
abbrev head : ℕ → Head
head leads = head_with leads (record { volts = 0; amperes = 0 })

-- a tick of two leads
abbrev both : ℕ → List ℕ → List ℕ → Call
both limit first second = tick (u32_bytes limit ++ first ++ second) (replicate (output_length 2) 0)

-- a tick of three leads, with power for all that they want
abbrev all : List ℕ → List ℕ → List ℕ → Call
all first second third = tick (u32_bytes 2000 ++ first ++ second ++ third) (replicate (output_length 3) 0)

-- a tick of one lead, with power for all that it wants
abbrev alone : List ℕ → Call
alone input = tick (u32_bytes 1000 ++ input) (replicate (output_length 1) 0)

-- a setup that is accepted
abbrev begin : ℕ → Call
begin leads = setup (head leads) (replicate (state_length leads) 0)

unfoldable pub session : List Call
session =
    begin 2
    ∷ both 1000 start unplugged
    ∷ both 1000 handshake start
    ∷ both 1000 hold handshake
    ∷ both 1000 test hold
    ∷ both 1000 hold test
    ∷ both 1000 charge hold
    ∷ both 1000 charge charge
    ∷ both 1000 charge charge
    -- too short an input: refused
    ∷ tick [] []
    -- power for 7 of the 14 A that both want
    ∷ both 350 charge charge
    ∷ both 350 stop charge
    ∷ both 350 hold charge
    ∷ both 350 release charge
    ∷ both 350 hold charge
    ∷ both 350 unplugged charge
    ∷ both 350 start charge
    -- no leads: refused, and the post goes on
    ∷ setup (head 0) []
    ∷ both 350 start cut
    -- a new list
    ∷ begin 2
    ∷ both 1000 unplugged start
    ∷ []

-- 2026-01: a lead charges, is stopped and unplugged, and charges again
unfoldable pub twice : List Call
twice =
    begin 1
    ∷ alone start
    ∷ alone handshake
    ∷ alone hold
    ∷ alone test
    ∷ alone hold
    ∷ alone charge
    ∷ alone charge
    ∷ alone charge
    ∷ alone charge
    ∷ alone charge
    ∷ alone charge
    ∷ alone stop
    ∷ alone hold
    ∷ alone hold
    ∷ alone release
    ∷ alone hold
    ∷ alone unplugged
    ∷ alone unplugged
    ∷ alone start
    ∷ alone handshake
    ∷ alone hold
    ∷ alone test
    ∷ alone hold
    ∷ alone charge
    ∷ alone charge
    ∷ []

-- 2026-06: of three cars that charge one opens its permission and revokes in the same tick, one opens it and has enabled again, and one only
-- revokes
unfoldable pub withdrawal : List Call
withdrawal =
    begin 3
    ∷ all start start start
    ∷ all handshake handshake handshake
    ∷ all hold hold hold
    ∷ all test test test
    ∷ all hold hold hold
    ∷ all charge charge charge
    ∷ all charge charge charge
    ∷ all charge charge charge
    ∷ all charge charge charge
    ∷ all charge charge charge
    ∷ all charge charge charge
    ∷ all withdraw waver revoke
    ∷ all charge charge charge
    ∷ all unplugged unplugged unplugged
    ∷ all start start start
    ∷ []

-- 2026-08: three leads, a voltmeter that is 3 tenths off at most and an ammeter that is 4
abbrev pub inexact_head : Head
inexact_head = head_with 3 (record { volts = 3; amperes = 4 })

unfoldable pub inexact : List Call
inexact =
    setup inexact_head (replicate (state_length 3) 0)
    ∷ all start start start
    ∷ all handshake handshake handshake
    ∷ all hold hold hold
    ∷ all test test test
    ∷ all at_98 at_97 at_97
    ∷ all at_97 charge charge
    ∷ all at_limits over_volts over_amperes
    ∷ all at_limits unplugged unplugged
    ∷ all stop unplugged unplugged
    ∷ all at_46 unplugged unplugged
    ∷ all at_45 unplugged unplugged
    ∷ all release unplugged unplugged
    ∷ all at_98 unplugged unplugged
    ∷ all at_97 unplugged unplugged
    ∷ []

-- what is looked at in every tick of every stretch
abbrev in_ticks : (Tick → List ℕ) → List Tick → List (List ℕ)
in_ticks look [] = []
in_ticks look (t ∷ ticks) = look t ∷ in_ticks look ticks

abbrev in_stretches : (Tick → List ℕ) → List Stretch → List (List (List ℕ))
in_stretches look [] = []
in_stretches look (s ∷ rest) = in_ticks look s.ticks ∷ in_stretches look rest

-- phase, reason and command of a lead after a tick
abbrev lead_shown : Tick → ℕ → List ℕ
lead_shown t k = take 3 (output_part t.output k)

-- of both leads, and of all three
abbrev shown : Tick → List ℕ
shown t = lead_shown t 0 ++ lead_shown t 1

abbrev shown_of_three : Tick → List ℕ
shown_of_three t = lead_shown t 0 ++ lead_shown t 1 ++ lead_shown t 2

-- phase, command and count of the only lead after a tick
abbrev counted : Tick → List ℕ
counted t = byte_at (output_part t.output 0) 0 ∷ byte_at (output_part t.output 0) 2 ∷ u64_at (state_part t.state 0) 20 ∷ []

-- the lists, stretch by stretch, from no state at all
abbrev pub played : List (List (List ℕ))
played = in_stretches shown (stretches_of [] session)

abbrev pub played_twice : List (List (List ℕ))
played_twice = in_stretches counted (stretches_of [] twice)

abbrev pub played_withdrawal : List (List (List ℕ))
played_withdrawal = in_stretches shown_of_three (stretches_of [] withdrawal)

abbrev pub played_inexact : List (List (List ℕ))
played_inexact = in_stretches shown_of_three (stretches_of [] inexact)

-- the ticks of a list from the setup that it begins with up to the next one
abbrev ticks_behind : Head → List Call → List Tick
ticks_behind h calls = ticks_of (setup_of h (replicate (state_length h.leads) 0)).state (drop 1 calls)

-- 2026-06: what `withdrawal` sets up, and its ticks
abbrev pub withdrawal_head : Head
withdrawal_head = head 3

abbrev pub withdrawal_ticks : List Tick
withdrawal_ticks = ticks_behind withdrawal_head withdrawal

-- 2026-08: the ticks of `inexact`
abbrev pub inexact_ticks : List Tick
inexact_ticks = ticks_behind inexact_head inexact

-- 2026-05: the ticks of `session`
abbrev session_ticks : List Tick
session_ticks = ticks_behind (head 2) session

-- a lead's phase, the amperes that it wants, its command and the amperes that H'108 offers, in tick t
abbrev offered_to : ℕ → ℕ → List ℕ
offered_to t k =
    phase_at (head 2) session_ticks t k
    ∷ wanted_amperes_at (head 2) session_ticks t k
    ∷ command_at (head 2) session_ticks t k
    ∷ offer_at (head 2) session_ticks t k
    ∷ []

-- of both leads, in some ticks one after the other
abbrev pub offers_from : ℕ → ℕ → List (List ℕ)
offers_from t zero = []
offers_from t (suc n) = (offered_to t 0 ++ offered_to t 1) ∷ offers_from (suc t) n
