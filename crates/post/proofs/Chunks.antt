-- The records behind a head, as `as_chunks` gives them, and a test of `all` of them. Assumes nothing.
use mathlib.Core.Bool.{Bool, true, false}
use mathlib.Core.List.{List, []}
use mathlib.Core.Path.{◌≡◌, refl, sym, ap, ◌∙◌}
use Prim.Native.Nat.{ℕ, zero, suc, ◌+◌, ◌-◌, ◌*◌, ◌/◌, ◌<◌}
use native.Mathlib.Nat.{mul-zero, mul-suc}
use native.Mathlib.Omega.{arith}
use lib.ListN.{length, get_or, take, drop, length-drop}
use lib.Seq.{drop-drop, take_all}
use Rattle.std.specs.Bool.{MatchBool}
use Rattle.std.specs.List.{AllWithin, HoldsAt}
use Rattle.std.specs.Simd.{first_chunks}
use Rattle.std.proofs.Math.Nat.{div-eq_of_eq-mul_right}
use Rattle.common.specs.Parts.{part, every}
use Rattle.common.proofs.Bools.{holds, is_true}
use Rattle.common.proofs.Every.{every_of, each_not}
use Rattle.common.proofs.Joined.{cut}

chunk_at : (size n i : ℕ) (s d : List ℕ) → i < n → get_or (first_chunks size n s) i d ≡ take size (drop (size * i) s)
chunk_at size zero i s d h = absurd (omega arith)
chunk_at size (suc n) zero s d h = rw (mul-zero size) refl
chunk_at size (suc n) (suc i) s d h =
    chunk_at size n i (drop size s) d (omega arith)
    ∙ ap (take size) (drop-drop (size * i) size s ∙ ap (λ (m : ℕ). drop m s) (omega (arith, mul-suc size i)))

module _ (head size n : ℕ) (bytes : List ℕ) where
  -- what stands behind the head, as the code cuts it out
  abbrev behind : List ℕ
  behind = take (length bytes - head) (drop head bytes)

  behind_is : behind ≡ drop head bytes
  behind_is = take_all (length bytes - head) (drop head bytes) (omega (arith, length-drop head bytes))

  module _ (some : 0 < size) (long : length bytes ≡ head + size * n) {records : List (List ℕ)}
      (cut_so : records ≡ first_chunks size (length behind / size) behind) where
    pub many : length behind / size ≡ n
    many = div-eq_of_eq-mul_right some (rw (behind_is, length-drop) (omega (arith, long)))

    pub record_at : (k : ℕ) (d : List ℕ) → k < n → get_or records k d ≡ part head size k bytes
    record_at k d below =
        ap (λ (rs : List (List ℕ)). get_or rs k d) (cut_so ∙ ap (λ (m : ℕ). first_chunks size m behind) many)
        ∙ chunk_at size n k behind d below
        ∙ ap (λ (b : List ℕ). take size (drop (size * k) b)) behind_is
        ∙ ap (take size) (drop-drop (size * k) head bytes)

    pub all_parts :
        (test : List ℕ → Bool) (r : Bool)
        → length records ≡ length behind / size
        → MatchBool r (AllWithin (λ x. test x ≡ true) records 0 (length records))
        ((k : ℕ) × (k < length records) × HoldsAt (λ x. test x ≡ false) records k)
        → r ≡ every n (λ k. test (part head size k bytes))
    all_parts test true as_many all =
        sym
        (is_true _
        (every_of n (λ k. test (part head size k bytes))
        (λ k below. holds (sym (ap test (record_at k [] below)) ∙ all k [] (omega arith) (omega (arith, as_many, many))))))
    all_parts test false as_many one =
        let k = one.0 in
        let below : k < n = omega (arith, one.1, as_many, many) in
        each_not test head size bytes k {r = false}
        (sym (one.2 []) ∙ ap test (record_at k [] below ∙ sym (cut head size k _ bytes refl))) n below refl
