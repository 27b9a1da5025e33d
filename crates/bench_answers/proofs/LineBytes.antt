-- A line says no more bytes than its buffer has room for, so none is lost. Assumes nothing.
use mathlib.Core.Bool.{Bool, true, false, cond, false≢true}
use mathlib.Core.List.{List, [], ◌∷◌}
use mathlib.Core.Path.{◌≡◌, refl, ap}
use Prim.Native.Nat.{ℕ, suc, ◌+◌, ◌/◌, ◌≤◌}
use native.Mathlib.Omega.{arith}
use lib.Dec.{leb, eqb}
use lib.ListN.{length}
use borrow.Author.Tests.{leb-true}
use Rattle.std.specs.Prelude.{Option, Some, None}
use Rattle.common.specs.Tests.{same}
use Rattle.common.specs.Texts.{push, fields_of}
use Rattle.common.proofs.Bools.{and_second}
use Rattle.bench_line.specs.Digits.{decimal_of, bits_of, is_pairs, bytes_of, padded}
use Rattle.bench_line.specs.Lines.{tick_word, setup_word, with_number, number_then, decimal_last, after_volts_error, after_bits, after_amperes, after_volts, after_leads, setup_line, tick_line, says, by_word, longest, parsed_of}
use Rattle.bench_line.specs.declared.lines.Line.{Line}
use Rattle.bench_line.specs.declared.lines.Line.TheVariants.{Setup, Tick}
use Rattle.bench_answers.specs.Rooms.{input_room}

-- how many characters the fields have, and the tabs between them
abbrev spread : List (List ℕ) → ℕ
spread [] = 0
spread (f ∷ []) = length f
spread (f ∷ g ∷ fs) = length f + 1 + spread (g ∷ fs)

spread_push : (c : ℕ) (f : List ℕ) (fs : List (List ℕ)) → spread (push c (f ∷ fs)) ≡ suc (spread (f ∷ fs))
spread_push c f [] = refl
spread_push c f (g ∷ fs) = omega arith

-- a line has a field
abbrev HasField : List (List ℕ) → Type 0
HasField [] = ⊥
HasField (f ∷ fs) = Unit

some_fields : (s : List ℕ) → HasField (fields_of s)
some_fields [] = tt
some_fields (c ∷ s) = go (eqb c 9) (fields_of s)
  where
    go : (b : Bool) (fs : List (List ℕ)) → HasField (cond b ([] ∷ fs) (push c fs))
    go true fs = tt
    go false [] = tt
    go false (f ∷ fs) = tt

fields_spread : (s : List ℕ) → spread (fields_of s) ≡ length s
fields_spread [] = refl
fields_spread (c ∷ s) = go (eqb c 9) (fields_of s) (some_fields s) (fields_spread s)
  where
    go : (b : Bool) (fs : List (List ℕ)) → HasField fs → spread fs ≡ length s → spread (cond b ([] ∷ fs) (push c fs)) ≡ length (c ∷ s)
    go b [] n e = absurd n
    go true (f ∷ fs) n e = omega (arith, e)
    go false (f ∷ fs) n e = omega (arith, spread_push c f fs, e)

same_length : (s t : List ℕ) → same s t ≡ true → length s ≡ length t
same_length [] [] e = refl
same_length [] (y ∷ t) e = absurd (false≢true e)
same_length (x ∷ s) [] e = absurd (false≢true e)
same_length (x ∷ s) (y ∷ t) e = ap suc (same_length s t (and_second (eqb x y) (same s t) e))

-- how many bytes of input a line says
abbrev pub bytes_said : Option Line → ℕ
bytes_said (Some (Setup numbers)) = 0
bytes_said (Some (Tick count)) = count
bytes_said None = 0

-- a setup line says none
module _ (read : List ℕ → Option ℕ) (next : ℕ → List (List ℕ) → Option Line) (none : (n : ℕ) (fs : List (List ℕ)) → bytes_said (next n fs) ≡ 0) where
  number_none : (fs : List (List ℕ)) → bytes_said (number_then read next fs) ≡ 0
  number_none [] = refl
  number_none (f ∷ fs) = go (read f)
    where
      go : (m : Option ℕ) → bytes_said (with_number m (λ n. next n fs)) ≡ 0
      go (Some n) = none n fs
      go None = refl

module _ (next : ℕ → Option Line) (none : (n : ℕ) → bytes_said (next n) ≡ 0) where
  last_none : (fs : List (List ℕ)) → bytes_said (decimal_last next fs) ≡ 0
  last_none [] = refl
  last_none (f ∷ []) = go (decimal_of f)
    where
      go : (m : Option ℕ) → bytes_said (with_number m next) ≡ 0
      go (Some n) = none n
      go None = refl
  last_none (f ∷ g ∷ fs) = refl

setup_none : (fs : List (List ℕ)) → bytes_said (setup_line fs) ≡ 0
setup_none =
    number_none decimal_of after_leads
    (λ leads.
    number_none decimal_of (after_volts leads)
    (λ volts.
    number_none decimal_of (after_amperes leads volts)
    (λ amperes.
    number_none bits_of (after_bits leads volts amperes)
    (λ bits. number_none decimal_of (after_volts_error leads volts amperes bits) (λ error. last_none _ (λ n. refl))))))

-- a tick line has `tick` and a tab before them
tick_bytes :
    (w : List ℕ) (fs : List (List ℕ)) (d : List ℕ)
    → length w ≡ length tick_word
    → spread (w ∷ fs) ≤ longest
    → bytes_said (tick_line fs d).line ≤ input_room
tick_bytes w [] d e h = omega arith
tick_bytes w (hex ∷ []) d e h = go (is_pairs hex)
  where
    go : (b : Bool) → bytes_said (cond b (says (Some (Tick (length hex / 2))) (padded (length d) (bytes_of hex))) (says None d)).line ≤ input_room
    go true = omega (arith, e, h)
    go false = omega arith
tick_bytes w (hex ∷ g ∷ fs) d e h = omega arith

word_bytes : (fs : List (List ℕ)) (d : List ℕ) → spread fs ≤ longest → bytes_said (by_word fs d).line ≤ input_room
word_bytes [] d h = omega arith
word_bytes (w ∷ fs) d h = go (same w tick_word) (same w setup_word) refl
  where
    go :
        (t u : Bool)
        → same w tick_word ≡ t
        → bytes_said (cond t (tick_line fs d) (says (cond u (setup_line fs) None) d)).line ≤ input_room
    go true u e = tick_bytes w fs d (same_length w tick_word e) h
    go false true e = omega (arith, setup_none fs)
    go false false e = omega arith

pub line_bytes : (s d : List ℕ) → bytes_said (parsed_of s d).line ≤ input_room
unfolding parsed_of
line_bytes s d = go (leb (length s) longest) refl
  where
    go : (b : Bool) → leb (length s) longest ≡ b → bytes_said (cond b (by_word (fields_of s) d) (says None d)).line ≤ input_room
    go true e = word_bytes (fields_of s) d (omega (arith, fields_spread s, leb-true (length s) longest e))
    go false e = omega arith
