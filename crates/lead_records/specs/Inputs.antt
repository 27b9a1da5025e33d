-- Document 01, 'The post's two calls': the 104 bytes of a lead's input. Definitions only.
use Rattle.std.specs.Prelude.{Bool, ◌&&◌, List, ℕ, ◌*◌, leb, eqb, take, drop}
use Rattle.little_endian.specs.Numbers.{byte_at, u32_at}
use Rattle.little_endian.specs.Flags.{bit_at}
use Rattle.readings.specs.Readings.{reading_of, judged_of}
use Rattle.frames.specs.Records.{record_size}
use Rattle.frames.specs.Heard.{newest_frames}
use Rattle.lead.specs.declared.state.Contacts.{Contacts}
use Rattle.lead.specs.declared.state.Input.{Input}

-- "then 104 a lead"
abbrev pub input_size : ℕ
input_size = 104

-- "0 contacts closed or pressed (bits: plug, permission, lock, emergency, stop, start, leak trip)"
abbrev pub contacts_of : ℕ → Contacts
contacts_of byte =
    record {
      plug = bit_at 0 byte;
      permission = bit_at 1 byte;
      lock = bit_at 2 byte;
      emergency = bit_at 3 byte;
      stop = bit_at 4 byte;
      start = bit_at 5 byte;
      leakage = bit_at 6 byte;
    }

-- "eight frame records, those past the count ignored"
abbrev pub frame_records : List ℕ → List ℕ
frame_records b = take (record_size * 8) (drop 16 b)

-- "1 present (bits: volts, amperes, resistance); 2 frame count; 3 zero; 4–7 volts; 8–11 amperes; 12–15 ohms"
unfoldable pub input_of : List ℕ → ℕ → Input
input_of b resistance =
    record {
      contacts = contacts_of (byte_at b 0);
      reading = judged_of (reading_of (bit_at 0 (byte_at b 1)) (u32_at b 4)) (reading_of (bit_at 1 (byte_at b 1)) (u32_at b 8)) resistance;
      insulation = reading_of (bit_at 2 (byte_at b 1)) (u32_at b 12);
      frames = newest_frames (byte_at b 2) (frame_records b);
    }

-- a lead's part of refusal 9: "Every spare bit and byte 3 zero, counts at most 8?"
unfoldable pub good_input : List ℕ → Bool
good_input b = leb (byte_at b 0) 127 && leb (byte_at b 1) 7 && leb (byte_at b 2) 8 && eqb (byte_at b 3) 0
