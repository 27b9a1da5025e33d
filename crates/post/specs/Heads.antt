-- Document 01, 'The post's two calls': the head of the state, and how state, input and output are cut into leads. Definitions only.
use Rattle.std.specs.Prelude.{List, [], ◌∷◌, ◌++◌, ℕ, ◌+◌, ◌*◌}
use Rattle.little_endian.specs.Numbers.{byte_at, u16_at, u32_at, u16_bytes, u32_bytes}
use Rattle.lead_records.specs.States.{state_size}
use Rattle.lead_records.specs.Inputs.{input_size}
use Rattle.lead_records.specs.Outputs.{output_size}
use Rattle.common.specs.Parts.{part}
use Rattle.post.specs.declared.head.Head.{Head}
use Rattle.setup_numbers.specs.declared.SetupNumbers.{SetupNumbers}

-- "1 to 4 leads"
abbrev pub most_leads : ℕ
most_leads = 4

-- "State: … bytes (…), then 32 a lead"; 2026-08: "the head's end, which grows to 10"
abbrev pub head_size : ℕ
head_size = 10

-- "Input: allowance (4), then 104 a lead"
abbrev pub limit_size : ℕ
limit_size = 4

abbrev pub state_length : ℕ → ℕ
state_length leads = head_size + state_size * leads

abbrev pub input_length : ℕ → ℕ
input_length leads = limit_size + input_size * leads

abbrev pub output_length : ℕ → ℕ
output_length leads = output_size * leads

-- lead k's record in each of them
abbrev pub state_part : List ℕ → ℕ → List ℕ
state_part state k = part head_size state_size k state

abbrev pub input_part : List ℕ → ℕ → List ℕ
input_part input k = part limit_size input_size k input

abbrev pub output_part : List ℕ → ℕ → List ℕ
output_part output k = part 0 output_size k output

-- of the numbers that setup is given
abbrev pub head_from : SetupNumbers → Head
head_from n =
    record {
      leads = n.leads;
      ratings =
          record {
            volts = n.volts;
            amperes = n.amperes;
            resistance = n.resistance;
            errors = record { volts = n.errors.volts; amperes = n.errors.amperes };
          };
    }

-- "leads; rated amperes; rated volts, 2; resistance as float, 4"; 2026-08: the errors, "volts first, in two bytes at the head's end"
unfoldable pub head_of : List ℕ → Head
head_of state =
    record {
      leads = byte_at state 0;
      ratings =
          record {
            volts = u16_at state 2;
            amperes = byte_at state 1;
            resistance = u32_at state 4;
            errors = record { volts = byte_at state 8; amperes = byte_at state 9 };
          };
    }

unfoldable pub head_bytes : Head → List ℕ
head_bytes h =
    (h.leads ∷ h.ratings.amperes ∷ [])
    ++ u16_bytes h.ratings.volts
    ++ u32_bytes h.ratings.resistance
    ++ (h.ratings.errors.volts ∷ h.ratings.errors.amperes ∷ [])
