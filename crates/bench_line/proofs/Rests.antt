-- What the fields of a line come to: a decimal field at the end, a tick's hex. Assumes nothing.
use mathlib.Core.Bool.{Bool, true, false, cond, ◌&&◌}
use mathlib.Core.List.{List}
use mathlib.Core.Path.{◌≡◌, refl}
use Prim.Native.Nat.{ℕ, ◌/◌}
use native.Mathlib.Omega.{arith}
use lib.Dec.{leb, eqb}
use lib.ListN.{length}
use Rattle.std.specs.Prelude.{Option, Some, None}
use Rattle.common.specs.Texts.{all_digits, value_from, number_in, fields_of}
use Rattle.bench_line.specs.Digits.{decimal_of, is_pairs, bytes_of, padded}
use Rattle.bench_line.specs.Lines.{with_number, decimal_last, says, tick_line}
use Rattle.bench_line.specs.declared.lines.Line.{Line}
use Rattle.bench_line.specs.declared.lines.Line.TheVariants.{Tick}
use Rattle.bench_line.proofs.Pairs.{pairs_digits}
use Rattle.bench_line.proofs.Cuts.{by_fields, digits_field}

module _ (s : List ℕ) where
  -- a decimal field at the end has digits only
  last_digits : (v : ℕ) → decimal_of s ≡ Some v → all_digits 10 s ≡ true
  unfolding decimal_of number_in
  last_digits v e = go (eqb (length s) 0) (all_digits 10 s) e
    where
      go : (t b : Bool) → cond t None (cond (b && leb (value_from 10 0 s) 65535) (Some (value_from 10 0 s)) None) ≡ Some v → b ≡ true
      go t true e = refl
      go true false e = let z : ◌≡◌ {A = ℕ} 0 1 = cc in absurd (omega arith)
      go false false e = let z : ◌≡◌ {A = ℕ} 0 1 = cc in absurd (omega arith)

  pub decimal_last_lem : (next : ℕ → Option Line) (n : Option ℕ) → decimal_of s ≡ n → with_number n next ≡ decimal_last next (fields_of s)
  decimal_last_lem next (Some v) e = rw (digits_field 10 (omega arith) s (last_digits v e), e)
  decimal_last_lem next None e = by_fields s (λ fs. None ≡ decimal_last next fs) (rw e) (λ f g fs. refl)

  -- a tick's hex
  pub tick_pairs : (d : List ℕ) → is_pairs s ≡ true → says (Some (Tick (length s / 2))) (padded (length d) (bytes_of s)) ≡ tick_line (fields_of s) d
  tick_pairs d e = rw (digits_field 16 (omega arith) s (pairs_digits s e), e)

  pub tick_not : (d : List ℕ) → is_pairs s ≡ false → says None d ≡ tick_line (fields_of s) d
  tick_not d e = by_fields s (λ fs. says None d ≡ tick_line fs d) (rw e) (λ f g fs. refl)
