-- The order of the full mailboxes, at every status and turn. By computing. Assumes nothing.
use mathlib.Core.Bool.{Bool, true, false, cond, not, ◌&&◌, ◌||◌}
use mathlib.Core.List.{List, [], ◌∷◌, ◌++◌}
use mathlib.Core.Path.{◌≡◌, refl, subst}
use Prim.Native.Nat.{ℕ, ◌+◌, ◌/◌, ◌%◌, ◌^◌, ◌<◌, ◌≤◌}
use borrow.Author.Tests.{eq-eqb, ne_eqb}
use lib.Count.{count_trailing_zeros}
use lib.Dec.{T, eqb, ltb, leb, eqb→eq, ltb→lt, leb→le, lit<}
use lib.Ieee.Fits.{and_l, and_r}
use lib.ListN.{length}
use Rattle.std.specs.Prelude.{Some, None, slice_get}
use Rattle.std.specs.List.{list_all}
use Rattle.common.specs.Tests.{same}
use Rattle.little_endian.specs.Flags.{bit_at}
use Rattle.receiver.specs.Registers.{mailbox_count, status_of, full_from}
use Rattle.receiver.proofs.Computed.{everywhere, computed, same_lists}

-- a mailbox other than this one
abbrev pub is_other : ℕ → ℕ → Bool
is_other m k = ltb k mailbox_count && not (eqb k m)

-- the order with the turn's mailbox filled, from the next one on; and with one mailbox emptied
abbrev pub filled_order : ℕ → ℕ → List ℕ
filled_order x m = full_from (status_of (λ k. bit_at k x || eqb k m)) mailbox_count ((m + 1) % mailbox_count)

abbrev pub emptied_order : ℕ → ℕ → ℕ → List ℕ
emptied_order x m k = full_from (status_of (λ j. bit_at j x && not (eqb j k))) mailbox_count m

-- whether a list begins with this mailbox
abbrev begins : ℕ → List ℕ → Bool
begins k [] = false
begins k (j ∷ rest) = eqb k j

-- with the first emptied the rest are left; there is no first where the status is 0
abbrev rest_left : ℕ → ℕ → List ℕ → Bool
rest_left x m [] = eqb x 0
rest_left x m (k ∷ rest) = ltb k mailbox_count && same (emptied_order x m k) rest

module _ (x m : ℕ) (byte : x < 256) (low : m < mailbox_count) where
  abbrev waits : List ℕ
  waits = full_from x mailbox_count m

  module _ (empty : bit_at m x ≡ false) where
    where_empty : (test : ℕ → ℕ → Bool) → T (everywhere (λ x m. bit_at m x || test x m)) → T (test x m)
    where_empty test t = subst (λ (b : Bool). T (b || test x m)) empty (computed (λ x m. bit_at m x || test x m) t x m byte low)

    pub filled_last : filled_order x m ≡ waits ++ (m ∷ [])
    unfolding status_of full_from
    filled_last =
        same_lists (filled_order x m) (waits ++ (m ∷ [])) (where_empty (λ x m. same (filled_order x m) (full_from x mailbox_count m ++ (m ∷ []))) tt)

    pub others_wait : T (list_all (is_other m) waits)
    unfolding full_from
    others_wait = where_empty (λ x m. list_all (is_other m) (full_from x mailbox_count m)) tt

  first_gone : T (rest_left x m waits)
  unfolding status_of full_from
  first_gone = computed (λ x m. rest_left x m (full_from x mailbox_count m)) tt x m byte low

  module _ (k : ℕ) (rest : List ℕ) (met : waits ≡ k ∷ rest) where
    gone : T (rest_left x m (k ∷ rest))
    gone = subst (λ (l : List ℕ). T (rest_left x m l)) met first_gone

    pub first_below : k < mailbox_count
    first_below = ltb→lt k mailbox_count (and_l (ltb k mailbox_count) (same (emptied_order x m k) rest) gone)

    pub rest_left_lem : emptied_order x m k ≡ rest
    rest_left_lem = same_lists (emptied_order x m k) rest (and_r (ltb k mailbox_count) (same (emptied_order x m k) rest) gone)

  -- what the code finds is the first, and a mailbox
  abbrev pub Found : ℕ → Type 0
  Found k = (Some k ≡ slice_get waits 0) × (k < mailbox_count)

  found : (k : ℕ) → T (begins k waits) → Found k
  found k t = go waits refl t
    where
      go : (w : List ℕ) → waits ≡ w → T (begins k w) → (Some k ≡ slice_get w 0) × (k < mailbox_count)
      go [] e t = absurd t
      go (j ∷ rest) e t = rw (eqb→eq k j t) (refl, first_below j rest e)

  -- the first of them, as the code finds it
  first_met : T (cond (eqb (x / 2 ^ m) 0) (eqb x 0 || begins (count_trailing_zeros 8 x) waits) (begins (m + count_trailing_zeros 8 (x / 2 ^ m)) waits))
  unfolding full_from count_trailing_zeros
  first_met =
      computed
      (λ x m.
      cond (eqb (x / 2 ^ m) 0) (eqb x 0 || begins (count_trailing_zeros 8 x) (full_from x mailbox_count m))
      (begins (m + count_trailing_zeros 8 (x / 2 ^ m)) (full_from x mailbox_count m)))
      tt x m byte low

  pub met_at_once : bit_at m x ≡ true → Found m
  unfolding full_from
  met_at_once e =
      found m
      (subst (λ (b : Bool). T (not b || begins m waits)) e
      (computed (λ x m. not (bit_at m x) || begins m (full_from x mailbox_count m)) tt x m byte low))

  pub met_below : x / 2 ^ m ≡ 0 → (x ≡ 0 → ⊥) → Found (count_trailing_zeros 8 x)
  met_below e n = found _ (rw (eq-eqb (x / 2 ^ m) 0 e, ne_eqb x 0 n) at first_met)

  pub met_above : (x / 2 ^ m ≡ 0 → ⊥) → Found (m + count_trailing_zeros 8 (x / 2 ^ m))
  met_above n = found _ (rw (ne_eqb (x / 2 ^ m) 0 n) at first_met)

  pub none_waits : waits ≡ [] → x ≡ 0
  none_waits e = eqb→eq x 0 (subst (λ (l : List ℕ). T (rest_left x m l)) e first_gone)

  pub eight_at_most : length waits ≤ mailbox_count
  unfolding full_from
  eight_at_most = leb→le (length waits) mailbox_count (computed (λ x m. leb (length (full_from x mailbox_count m)) mailbox_count) tt x m byte low)

pub waits_of_0 : (m : ℕ) → m < mailbox_count → full_from 0 mailbox_count m ≡ []
unfolding full_from
waits_of_0 m low =
    same_lists (full_from 0 mailbox_count m) [] (computed (λ x m. not (eqb x 0) || same (full_from x mailbox_count m) []) tt 0 m (lit< tt) low)

pub none_met : (x m : ℕ) → m < mailbox_count → x ≡ 0 → None ≡ slice_get (full_from x mailbox_count m) 0
none_met x m low e = rw (e, waits_of_0 m low)
