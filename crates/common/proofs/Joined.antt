-- Records put together one after another: lengths, one more record written, and each of them read again. Assumes nothing.
use mathlib.Core.List.{List, ◌++◌, append_assoc, append-nil}
use mathlib.Core.Logic.{⊎_elim}
use mathlib.Core.Path.{◌≡◌, refl, sym, ap, subst, ◌∙◌}
use Prim.Native.Nat.{ℕ, zero, suc, ◌+◌, ◌-◌, ◌*◌, ◌≤◌, ◌<◌}
use native.Mathlib.Nat.{mul-zero, mul-suc, add-zero, add_assoc, add-sub_cancel_left, le_of_suc-le-suc, eq-or-lt_of_le, mul-le-mul_left}
use native.Mathlib.Numerals.{add-one}
use native.Mathlib.Omega.{arith}
use lib.ListN.{length, take, drop, length-append, length-take, length-drop, take-append-drop, drop_of_length-le}
use lib.Seq.{take_at, drop_at, drop-drop, length-take-le, take-append-le, drop-append-le, take_all}
use Rattle.common.specs.Parts.{part, joined}
use Rattle.common.proofs.Copied.{copied_all}

-- record i as the code cuts it out, from the place where it begins
pub cut :
    (head size i at : ℕ) (bytes : List ℕ) → at ≡ head + size * i → take (at + size - at) (drop at bytes) ≡ part head size i bytes
cut head size i at bytes e =
    ap (λ (k : ℕ). take k (drop at bytes)) (add-sub_cancel_left at size) ∙ ap (λ (k : ℕ). take size (drop k bytes)) e

-- families that agree below n
pub joined_same : (n : ℕ) (F G : ℕ → List ℕ) → ((k : ℕ) → k < n → F k ≡ G k) → joined n F ≡ joined n G
unfolding joined
joined_same zero F G e = refl
joined_same (suc n) F G e = rw (joined_same n F G (λ k h. e k (omega arith)), e n (omega arith))

-- the bytes after i turns of a loop that writes the records one by one
abbrev pub filled : ℕ → ℕ → (ℕ → List ℕ) → List ℕ → ℕ → List ℕ
filled head size F bytes i = take head bytes ++ joined i F ++ drop (head + size * i) bytes

-- what such a loop keeps up
abbrev pub Filling : ℕ → ℕ → (ℕ → List ℕ) → List ℕ → List ℕ → ℕ → Type 0
Filling head size F bytes now i = (length now ≡ length bytes) × (now ≡ filled head size F bytes i)

module _ (size : ℕ) (F : ℕ → List ℕ) (sized : (k : ℕ) → length (F k) ≡ size) where
  pub joined_length : (n : ℕ) → length (joined n F) ≡ size * n
  unfolding joined
  joined_length zero = sym (mul-zero size)
  joined_length (suc n) = rw (length-append, joined_length n, sized n, mul-suc)

  module _ (head : ℕ) (bytes : List ℕ) where
    pub filled_none : Filling head size F bytes bytes 0
    unfolding joined
    filled_none = (refl, sym (rw (append-nil, mul-zero, add-zero) (take-append-drop head bytes)))

    begun : (i : ℕ) → head ≤ length bytes → length (take head bytes ++ joined i F) ≡ head + size * i
    begun i h = rw (length-append, joined_length i, length-take-le head bytes h)

    -- record i, written at its place
    filled_more :
        (i at room : ℕ) (now p : List ℕ)
        → head ≤ length bytes
        → at ≡ head + size * i
        → room ≡ size
        → p ≡ F i
        → now ≡ filled head size F bytes i
        → take at now ++ (p ++ drop room (drop at now)) ≡ filled head size F bytes (i + 1)
    unfolding joined
    filled_more i at room now p h ea er ep en =
        rw (
          en,
          ea,
          er,
          ep,
          take_at (take head bytes ++ joined i F) (drop (head + size * i) bytes) (head + size * i) (begun i h),
          drop_at (take head bytes ++ joined i F) (drop (head + size * i) bytes) (head + size * i) (begun i h),
          drop-drop,
          add-one,
          mul-suc,
          ← add_assoc,
          ← append_assoc,
          append_assoc (take head bytes) (joined i F) (F i),
        )

    filled_length : (i : ℕ) → head ≤ length bytes → head + size * i ≤ length bytes → length (filled head size F bytes i) ≡ length bytes
    filled_length i h g =
        rw (length-append (take head bytes ++ joined i F) (drop (head + size * i) bytes), begun i h, length-drop) (omega arith)

    -- one turn of a loop that writes p, record i, at its place
    pub filled_written :
        (i at room : ℕ) (now p : List ℕ)
        → head ≤ length bytes
        → head + size * (i + 1) ≤ length bytes
        → at ≡ head + size * i
        → room ≡ size
        → p ≡ F i
        → Filling head size F bytes now i
        → Filling head size F bytes (take at now ++ (p ++ drop room (drop at now))) (i + 1)
    filled_written i at room now p h g ea er ep before =
        let more = filled_more i at room now p h ea er ep before.1 in
        (ap length more ∙ filled_length (i + 1) h g, more)

    -- the same where p is copied from w
    pub filled_copy :
        (i at room : ℕ) (now w p : List ℕ)
        → head ≤ length bytes
        → head + size * (i + 1) ≤ length bytes
        → at ≡ head + size * i
        → room ≡ size
        → w ≡ F i
        → Filling head size F bytes now i
        → p ≡ take (length w) w ++ drop (length w) (take room (drop at now))
        → Filling head size F bytes (take at now ++ (p ++ drop room (drop at now))) (i + 1)
    filled_copy i at room now w p h g ea er ew before ep =
        let long : length w ≡ size = ap length ew ∙ sized i in
        let short : length (take room (drop at now)) ≤ length w = omega (arith, length-take room (drop at now)) in
        let whole : p ≡ F i = copied_all w (take room (drop at now)) p ep short ∙ ew in
        filled_written i at room now p h g ea er whole before

    pub filled_all :
        (n i : ℕ) (now : List ℕ)
        → length bytes ≡ head + size * n
        → i ≡ n
        → Filling head size F bytes now i
        → now ≡ take head bytes ++ joined n F
    filled_all n i now e q all =
        let g : length bytes ≤ head + size * n = omega arith in
        all.1
        ∙ ap (filled head size F bytes) q
        ∙ ap (λ (r : List ℕ). take head bytes ++ joined n F ++ r) (drop_of_length-le bytes g)
        ∙ append-nil _

  newest : (n : ℕ) → take size (drop (size * n) (joined n F ++ F n)) ≡ F n
  newest n =
      let h : length (F n) ≤ size = omega (arith, sized n) in
      rw (drop_at (joined n F) (F n) (size * n) (joined_length n), take_all size (F n) h)

  older : (n i : ℕ) → i < n → take size (drop (size * i) (joined n F)) ≡ F i → take size (drop (size * i) (joined n F ++ F n)) ≡ F i
  older n i lt e =
      let fits : size * suc i ≤ size * n = mul-le-mul_left size lt in
      let room : size * i + size ≤ length (joined n F) = rw (joined_length n) (omega (arith, mul-suc size i)) in
      let more : size * i ≤ length (joined n F) = omega arith in
      let rest : size ≤ length (drop (size * i) (joined n F)) = rw length-drop (omega arith) in
      rw (drop-append-le (size * i) (joined n F) (F n) more, take-append-le size (drop (size * i) (joined n F)) (F n) rest) e

  joined_part : (n i : ℕ) → i < n → take size (drop (size * i) (joined n F)) ≡ F i
  unfolding joined
  joined_part zero i h = absurd (omega arith)
  joined_part (suc n) i h =
      ⊎_elim
      (λ q. subst (λ (j : ℕ). take size (drop (size * j) (joined n F ++ F n)) ≡ F j) (sym q) (newest n))
      (λ lt. older n i lt (joined_part n i lt))
      (eq-or-lt_of_le (le_of_suc-le-suc h))

  -- record i of what was put together
  pub part_joined : (head : List ℕ) (head_size n i : ℕ) → length head ≡ head_size → i < n → part head_size size i (head ++ joined n F) ≡ F i
  part_joined head head_size n i e lt = rw (← drop-drop (size * i) head_size, drop_at head (joined n F) head_size e) (joined_part n i lt)

-- a list of bytes is its head, its records and the rest
pub records_back : (head size : ℕ) (bytes : List ℕ) (n : ℕ) → filled head size (λ k. part head size k bytes) bytes n ≡ bytes
unfolding joined
records_back head size bytes zero = rw (append-nil, mul-zero, add-zero) (take-append-drop head bytes)
records_back head size bytes (suc n) =
    let at : ℕ = head + size * n in
    let begun = take head bytes in
    let before = joined n (λ k. part head size k bytes) in
    let this = part head size n bytes in
    let rest = drop (head + size * suc n) bytes in
    let split : this ++ rest ≡ drop at bytes = rw (mul-suc, ← add_assoc, ← drop-drop size at) (take-append-drop size (drop at bytes)) in
    ap (λ (x : List ℕ). x ++ rest) (sym (append_assoc begun before this))
    ∙ append_assoc (begun ++ before) this rest
    ∙ ap (λ (x : List ℕ). begun ++ before ++ x) split
    ∙ records_back head size bytes n
