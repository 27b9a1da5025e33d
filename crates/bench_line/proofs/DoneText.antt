-- The text of a tick done, written two characters a byte. Assumes nothing.
use mathlib.Core.List.{List, [], ◌∷◌, ◌++◌}
use mathlib.Core.Path.{◌≡◌, refl, ◌∙◌}
use Prim.Native.Nat.{ℕ, ◌+◌, ◌*◌, ◌/◌, ◌%◌, ◌≤◌, ◌<◌}
use native.Mathlib.Numerals.{add-one}
use native.Mathlib.Omega.{arith}
use lib.ListN.{length, drop, get_or, set, length-set, length-append, drop_of_length-le}
use lib.Seq.{drop-cons, drop-set-lt}
use borrow.Author.Tests.{le-leb}
use Rattle.bench_line.specs.Digits.{digit, hex_text}
use Rattle.bench_line.specs.Answers.{Written, written_of, done_text}
use Rattle.bench_line.proofs.Filled.{Filling, filling_more, filling_end}

hex_length : (o : List ℕ) → length (hex_text o) ≡ 2 * length o
hex_length [] = omega arith
hex_length (b ∷ o) = omega (arith, hex_length o)

pub done_length : (o : List ℕ) → length (done_text o) ≡ 2 * length o + 3
done_length o = rw (length-append (hex_text o) (10 ∷ [])) (omega (arith, hex_length o))

-- the buffer with its first two characters written
abbrev begun : List ℕ → List ℕ
begun d = set (set d 0 48) 1 9

begun_written : (t d : List ℕ) → 2 ≤ length t → length t ≤ length d → written_of t (begun d) ≡ written_of t d
unfolding written_of
begun_written t d h fits =
    rw (
      drop-set-lt (length t) (set d 0 48) 1 9 (omega arith),
      drop-set-lt (length t) d 0 48 (omega arith),
      length-set (set d 0 48) 1 9,
      length-set d 0 48,
      le-leb (length t) (length d) fits,
    )

-- so many bytes of the output are written behind them into d, which was d₀
abbrev pub Bytes : List ℕ → List ℕ → List ℕ → ℕ → Type 0
Bytes o d₀ d i = Filling (done_text o) (hex_text (drop i o) ++ (10 ∷ [])) d₀ d (2 * i + 2)

pub bytes_none : (o d : List ℕ) → 2 ≤ length d → Bytes o (begun d) (begun d) 0
bytes_none o [] h = absurd (omega arith)
bytes_none o (x ∷ []) h = absurd (omega arith)
bytes_none o (x ∷ y ∷ d) h = record { written = refl; kept = refl; long = refl }

module _ (o d₀ d : List ℕ) (i : ℕ) (f : Bytes o (begun d₀) d i) where
  pub bytes_more :
      (x y : ℕ)
      → i < length o
      → 2 * i + 3 < length d
      → x ≡ digit (get_or o i 0 / 16)
      → y ≡ digit (get_or o i 0 % 16)
      → Bytes o (begun d₀) (set (set d (2 * i + 2) x) (2 * i + 3) y) (i + 1)
  bytes_more x y h room ex ey =
      let rest : List ℕ = hex_text (drop (i + 1) o) ++ (10 ∷ []) in
      let here : Filling (done_text o) (x ∷ y ∷ rest) (begun d₀) d (2 * i + 2) =
      rw (ex, ey, add-one i) (rw (drop-cons o i 0 h) at f) in
      filling_more rest y (2 * (i + 1) + 2) (filling_more (y ∷ rest) x (2 * i + 3) here (omega arith) (omega arith))
      (omega (arith, length-set d (2 * i + 2) x))
      (omega arith)

  pub bytes_end :
      length o ≡ i
      → 2 * i + 2 < length d
      → ◌≡◌ {A = Written} (record { count = 2 * length o + 2 + 1; text = set d (2 * length o + 2) 10 }) (written_of (done_text o) d₀)
  bytes_end h room =
      let long : length d ≡ length d₀ = f.long ∙ length-set (set d₀ 0 48) 1 9 ∙ length-set d₀ 0 48 in
      rw h
      (filling_end (filling_more [] 10 (2 * i + 2 + 1) (rw (drop_of_length-le o {i = i} (omega arith)) at f) (omega arith) (omega arith))
      (omega (arith, length-set d (2 * i + 2) 10))
      ∙ begun_written (done_text o) d₀ (omega arith) (omega (arith, done_length o)))
