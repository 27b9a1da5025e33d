-- Document 01, 'The post's two calls', with request 2026-01: the 32 bytes of a lead's state. Definitions only.
use Rattle.std.specs.Prelude.{Bool, true, ◌&&◌, List, [], ◌∷◌, ◌++◌, ℕ, ◌-◌, leb, eqb, drop, replicate}
use Rattle.little_endian.specs.Numbers.{byte_at, u16_at, u32_at, u64_at, u16_bytes, u32_bytes, u64_bytes}
use Rattle.little_endian.specs.Flags.{bit_at, byte_of}
use Rattle.frames.specs.Times.{time_of}
use Rattle.lead.specs.Good.{good_lead}
use Rattle.lead.specs.declared.state.Lead.{Lead}
use Rattle.lead.specs.declared.state.Car.{Car}
use Rattle.lead.specs.declared.state.Ratings.{Ratings}

-- "then 32 a lead"
abbrev pub state_size : ℕ
state_size = 32

-- Bytes from here on are spare. 2026-01: "The good-state check no longer wants those bytes zero", 20 to 27.
abbrev pub spare_from : ℕ
spare_from = 28

-- "0 phase; 1 reason, 0 for none; 2 command; 3 request; 4, 5 bytes 4, 5 of H'102; 6 silence; 7 seen (bits 0–2 for H'100–H'102);
-- 8–9 threshold; 10–11 maximum voltage; 12–13 target; 14, 15 bytes 1, 2 of H'101; 16–19 age"
-- 2026-01: "a count of watt-ticks in eight of the lead's … state bytes (20–27)"
unfoldable pub decode : List ℕ → Lead
decode b =
    record {
      stage = record { phase = byte_at b 0; reason = byte_at b 1; age = u32_at b 16 };
      energy = u64_at b 20;
      command = byte_at b 2;
      threshold = u16_at b 8;
      car =
          record {
            battery = record { seen = bit_at 0 (byte_at b 7); value = u16_at b 10 };
            time = record { seen = bit_at 1 (byte_at b 7); value = time_of (byte_at b 14) (byte_at b 15) };
            status =
                record {
                  seen = bit_at 2 (byte_at b 7);
                  value = record { target = u16_at b 12; request = byte_at b 3; faults = byte_at b 4; flags = byte_at b 5 };
                };
            silence = byte_at b 6;
          };
    }

-- "rest 0"
abbrev pub spare_bytes : List ℕ
spare_bytes = replicate (state_size - spare_from) 0

abbrev pub seen_byte : Car → ℕ
seen_byte car = byte_of (car.battery.seen ∷ car.time.seen ∷ car.status.seen ∷ [])

-- the same places, written
unfoldable pub encode : Lead → List ℕ
encode s =
    (s.stage.phase ∷ s.stage.reason ∷ s.command ∷ [])
    ++ (s.car.status.value.request ∷ s.car.status.value.faults ∷ s.car.status.value.flags ∷ s.car.silence ∷ [])
    ++ (seen_byte s.car ∷ [])
    ++ u16_bytes s.threshold
    ++ u16_bytes s.car.battery.value
    ++ u16_bytes s.car.status.value.target
    ++ (s.car.time.value.tens.0 ∷ s.car.time.value.minutes.0 ∷ [])
    ++ u32_bytes s.stage.age
    ++ u64_bytes s.energy
    ++ spare_bytes

abbrev pub all_zero : List ℕ → Bool
all_zero [] = true
all_zero (byte ∷ bytes) = eqb byte 0 && all_zero bytes

-- "seen 0–7", "spare bytes 0"
abbrev pub unused_clear : List ℕ → Bool
unused_clear b = leb (byte_at b 7) 7 && all_zero (drop spare_from b)

-- a lead's part of refusal 6: unused bits and bytes, and what is asked of the lead itself
unfoldable pub good_state : Ratings → List ℕ → Bool
good_state c b = unused_clear b && good_lead c (decode b)
