-- Document 01, 'Bench program': a line, and what it says. Definitions only.
use Rattle.std.specs.Prelude.{Option, Some, None, cond, List, [], ◌∷◌, ℕ, ◌/◌, leb, length}
use Rattle.common.specs.Tests.{same}
use Rattle.common.specs.Texts.{fields_of}
use Rattle.bench_line.specs.Digits.{decimal_of, bits_of, is_pairs, bytes_of, padded}
use Rattle.bench_line.specs.declared.lines.Line.{Line}
use Rattle.bench_line.specs.declared.lines.Line.TheVariants.{Setup, Tick}

-- `setup` and `tick`
abbrev pub setup_word : List ℕ
setup_word = 115 ∷ 101 ∷ 116 ∷ 117 ∷ 112 ∷ []

abbrev pub tick_word : List ℕ
tick_word = 116 ∷ 105 ∷ 99 ∷ 107 ∷ []

-- what a number makes of the line, which is another one where there is none
abbrev pub with_number : Option ℕ → (ℕ → Option Line) → Option Line
with_number (Some n) next = next n
with_number None next = None

-- a field that reads as a number, and the fields behind it
abbrev pub number_then : (List ℕ → Option ℕ) → (ℕ → List (List ℕ) → Option Line) → List (List ℕ) → Option Line
number_then read next [] = None
number_then read next (f ∷ fs) = with_number (read f) (λ n. next n fs)

-- a decimal field, and no field behind it
abbrev pub decimal_last : (ℕ → Option Line) → List (List ℕ) → Option Line
decimal_last next [] = None
decimal_last next (f ∷ []) = with_number (decimal_of f) next
decimal_last next (f ∷ g ∷ fs) = None

-- "`setup`, leads, volts, amperes, resistance bits", and 2026-08: "The bench program's setup line ends with the two errors … volts first". These
-- are the fields behind the volts' error, the bits, amperes, volts, leads and the word.
abbrev pub after_volts_error : ℕ → ℕ → ℕ → ℕ → ℕ → List (List ℕ) → Option Line
after_volts_error leads volts amperes bits volts_error =
    decimal_last
    (λ amperes_error.
    Some
    (Setup
    (record {
      leads = leads;
      volts = volts;
      amperes = amperes;
      resistance = bits;
      errors = record { volts = volts_error; amperes = amperes_error };
    })))

abbrev pub after_bits : ℕ → ℕ → ℕ → ℕ → List (List ℕ) → Option Line
after_bits leads volts amperes bits = number_then decimal_of (after_volts_error leads volts amperes bits)

abbrev pub after_amperes : ℕ → ℕ → ℕ → List (List ℕ) → Option Line
after_amperes leads volts amperes = number_then bits_of (after_bits leads volts amperes)

abbrev pub after_volts : ℕ → ℕ → List (List ℕ) → Option Line
after_volts leads volts = number_then decimal_of (after_amperes leads volts)

abbrev pub after_leads : ℕ → List (List ℕ) → Option Line
after_leads leads = number_then decimal_of (after_volts leads)

abbrev pub setup_line : List (List ℕ) → Option Line
setup_line = number_then decimal_of after_leads

-- what a line says, which is nothing for "any other line", and what the lent buffer holds then
pub record Parsed : Type 0 where
  pub line : Option Line
  pub input : List ℕ

abbrev pub says : Option Line → List ℕ → Parsed
says line input = record { line = line; input = input }

-- "`tick`, input in hex, missing final bytes 0": how many bytes the hex has, and they in the buffer
abbrev pub tick_line : List (List ℕ) → List ℕ → Parsed
tick_line [] d = says None d
tick_line (hex ∷ []) d = cond (is_pairs hex) (says (Some (Tick (length hex / 2))) (padded (length d) (bytes_of hex))) (says None d)
tick_line (hex ∷ g ∷ fs) d = says None d

-- "tab-parted lines": the word, and the fields behind it
abbrev pub by_word : List (List ℕ) → List ℕ → Parsed
by_word [] d = says None d
by_word (w ∷ fs) d = cond (same w tick_word) (tick_line fs d) (says (cond (same w setup_word) (setup_line fs) None) d)

-- "one above 1,000 characters"
abbrev pub longest : ℕ
longest = 1000

-- "Any other line": the buffer stays as it was
unfoldable pub parsed_of : List ℕ → List ℕ → Parsed
parsed_of s d = cond (leb (length s) longest) (by_word (fields_of s) d) (says None d)
