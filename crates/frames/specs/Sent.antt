-- Document 01, 'Frames': the eight data bytes of H'108 and H'109. Definitions only.
use Rattle.std.specs.Prelude.{List, [], ◌∷◌, ℕ, min}
use Rattle.little_endian.specs.Numbers.{low_byte, high_byte}
use Rattle.little_endian.specs.Flags.{byte_of}
use Rattle.frames.specs.declared.sent.Offer.{Offer}
use Rattle.frames.specs.declared.sent.Report.{Report}
use Rattle.frames.specs.declared.sent.ChargerFlags.{ChargerFlags}

-- "H'108 (sent): byte 0 is 1; 1–2 rated volts; 3 …; 4–5 the kept threshold, 0 before it is kept; rest 0." Byte 3 is what the lead offers (2026-05),
-- which the layer above works out.
unfoldable pub offer_bytes : Offer → List ℕ
offer_bytes f =
    1 ∷ low_byte f.volts ∷ high_byte f.volts ∷ f.amperes ∷ low_byte f.threshold ∷ high_byte f.threshold ∷ 0 ∷ 0 ∷ []

-- Byte 5, bits 0 to 5 as Table A.32 names them: charger status, charger malfunction, connector lock, battery incompatibility,
-- charging system malfunction, charging stop control.
unfoldable pub flags_byte : ChargerFlags → ℕ
flags_byte f =
    byte_of (f.charging ∷ f.malfunction ∷ f.locked ∷ f.incompatible ∷ f.system ∷ f.stopped ∷ [])

-- "H'109 (sent): byte 0 is 2; 1–2 connector volts; 3 amperes, at most 255; 5 flags; 6–7 remaining time; byte 4 is 0."
unfoldable pub report_bytes : Report → List ℕ
report_bytes f =
    2
    ∷ low_byte f.volts
    ∷ high_byte f.volts
    ∷ min f.amperes 255
    ∷ 0
    ∷ flags_byte f.flags
    ∷ f.remaining.tens.0
    ∷ f.remaining.minutes.0
    ∷ []
