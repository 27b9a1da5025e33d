-- A text over the beginning of a buffer: written character by character, copied, or not written. Assumes nothing.
use mathlib.Core.Bool.{Bool, true, false, cond}
use mathlib.Core.List.{List, [], ◌∷◌, ◌++◌, append_assoc, append-nil}
use mathlib.Core.Path.{◌≡◌, refl, sym, ap, ◌∙◌}
use Prim.Native.Nat.{ℕ, ◌+◌, ◌≤◌, ◌<◌}
use native.Mathlib.Numerals.{add-one}
use native.Mathlib.Omega.{arith}
use lib.Dec.{leb}
use lib.ListN.{length, take, drop, set, length-set, take-append-drop}
use lib.Seq.{take-suc-set, drop-set-lt, drop-drop, length-take-le, take-length}
use borrow.Author.Tests.{le-leb, lt-leb, leb-true}
use Rattle.bench_line.specs.Answers.{Written, written_of}

pub not_written : (t d : List ℕ) → length d < length t → ◌≡◌ {A = Written} (record { count = 0; text = d }) (written_of t d)
unfolding written_of
not_written t d h = rw (lt-leb (length t) (length d) h)

written_over :
    (t d : List ℕ) → length t ≤ length d → ◌≡◌ {A = Written} (record { count = length t; text = t ++ drop (length t) d }) (written_of t d)
unfolding written_of
written_over t d h = rw (le-leb (length t) (length d) h)

pub written_copied :
    (t d : List ℕ) {r : ℕ} {after : List ℕ}
    → length t ≤ length d
    → r ≡ length t
    → after ≡ take (length t) t ++ drop (length t) d
    → ◌≡◌ {A = Written} (record { count = r; text = after }) (written_of t d)
written_copied t d h er ea = rw (er, ea, take-length t) (written_over t d h)

-- the first n characters of t are in d, which was d₀, and rest is to come
pub record Filling (t rest d₀ d : List ℕ) (n : ℕ) : Type 0 where
  pub written : t ≡ take n d ++ rest
  pub kept : drop n d ≡ drop n d₀
  pub long : length d ≡ length d₀

module _ {t d₀ d : List ℕ} {n : ℕ} where
  pub filling_more :
      (rest : List ℕ) (v m : ℕ) → Filling t (v ∷ rest) d₀ d n → n < length d → m ≡ n + 1 → Filling t rest d₀ (set d n v) m
  filling_more rest v m f h e =
      record {
        written = rw (e, add-one n, take-suc-set d n v h, append_assoc (take n d) (v ∷ []) rest) f.written;
        kept = rw e (drop-set-lt (n + 1) d n v (omega arith) ∙ sym (drop-drop 1 n d) ∙ ap (drop 1) f.kept ∙ drop-drop 1 n d₀);
        long = length-set d n v ∙ f.long;
      }

  pub filling_end : Filling t [] d₀ d n → n ≤ length d → ◌≡◌ {A = Written} (record { count = n; text = d }) (written_of t d₀)
  filling_end f h =
      let whole : take n d ≡ t = sym (f.written ∙ append-nil (take n d)) in
      let count : n ≡ length t = sym (length-take-le n d h) ∙ ap length whole in
      let text : d ≡ t ++ drop (length t) d₀ = sym (take-append-drop n d) ∙ rw (whole, f.kept, count) in
      rw (count, text) (written_over t d₀ (omega (arith, f.long)))

-- what is written fits
pub written_fits : (t d : List ℕ) {r : ℕ} {after : List ℕ} → ◌≡◌ {A = Written} (record { count = r; text = after }) (written_of t d) → r ≤ length d
unfolding written_of
written_fits t d e = omega (arith, ap (λ (w : Written). w.count) e, go (leb (length t) (length d)) refl)
  where
    done : Written
    done = record { count = length t; text = t ++ drop (length t) d }

    kept : Written
    kept = record { count = 0; text = d }

    go : (b : Bool) → leb (length t) (length d) ≡ b → (cond b done kept).count ≤ length d
    go true e = leb-true (length t) (length d) e
    go false e = omega arith
