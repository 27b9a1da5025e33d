-- Orders in places: bytes of one place and of all, and each read again. Assumes nothing.
use mathlib.Core.Bool.{Bool, ◌||◌}
use mathlib.Core.List.{List, [], ◌∷◌, ◌++◌, map, map-append}
use mathlib.Core.Path.{◌≡◌, refl, sym, ap, ◌∙◌}
use Prim.Native.Nat.{ℕ, zero, suc, ◌+◌, ◌-◌, ◌*◌, ◌≤◌, ◌<◌}
use native.Mathlib.Numerals.{add-one}
use native.Mathlib.Omega.{arith}
use lib.Dec.{eqb}
use lib.ListN.{length, take, drop, set, replicate, length-append, length-map}
use lib.Seq.{take-suc-set}
use Rattle.std.specs.List.{flat_map, fold, list_any}
use Rattle.std.proofs.Math.Bool.{or_assoc, or-false}
use Rattle.std.proofs.lemmas.List.{length-take-le, length-set, drop-set-lt, drop-drop, drop-replicate}
use Rattle.little_endian.proofs.Bytes.{u32_back}
use Rattle.orders.specs.Places.{place_count, place_size, unused, order_in, order_bytes, orders_in, orders_bytes, is_used}
use Rattle.orders.specs.declared.places.Order.{Order}

pub bytes_length : (o : Order) → length (order_bytes o) ≡ place_size
unfolding order_bytes
bytes_length o = refl

order_back : (o : Order) → order_in (order_bytes o) ≡ o
unfolding order_in order_bytes
order_back o = rw (u32_back o.number, u32_back o.first, u32_back o.last, u32_back o.watts)

module _ (o : Order) (r : List ℕ) where
  place_first : take place_size (order_bytes o ++ r) ≡ order_bytes o
  unfolding order_bytes
  place_first = refl

  pub place_rest : drop place_size (order_bytes o ++ r) ≡ r
  unfolding order_bytes
  place_rest = refl

  -- the order in the first place
  pub place_back : order_in (take place_size (order_bytes o ++ r)) ≡ o
  place_back = ap order_in place_first ∙ order_back o

pub places_length : (n : ℕ) (os : List Order) → length (orders_bytes n os) ≡ place_size * n
places_length zero os = refl
places_length (suc n) [] = rw (length-append, bytes_length, places_length n []) (omega arith)
places_length (suc n) (o ∷ os) = rw (length-append, bytes_length, places_length n os) (omega arith)

-- the orders, read again from the first places
pub places_back : (n : ℕ) (os : List Order) → length os ≤ n → orders_in (length os) (orders_bytes n os) ≡ os
places_back n [] h = refl
places_back zero (o ∷ os) h = absurd (omega arith)
places_back (suc n) (o ∷ os) h = rw (place_back, place_rest, places_back n os (omega arith))

-- all places, one after the other: those of the orders, and unused ones
pub places_flat :
    (n k : ℕ) (os : List Order)
    → length os + k ≡ n
    → flat_map (λ (place : List ℕ). place) (map order_bytes os ++ replicate k (order_bytes unused)) ≡ orders_bytes n os
places_flat zero zero [] e = refl
places_flat zero (suc k) [] e = absurd (omega arith)
places_flat zero k (o ∷ os) e = absurd (omega arith)
places_flat (suc n) zero [] e = absurd (omega arith)
places_flat (suc n) (suc k) [] e = ap (λ (s : List ℕ). order_bytes unused ++ s) (places_flat n k [] (omega arith))
places_flat (suc n) k (o ∷ os) e = ap (λ (s : List ℕ). order_bytes o ++ s) (places_flat n k os (omega arith))

-- how many of some orders are seen
pub seen_length : (places : List (List ℕ)) (os : List Order) (n : ℕ) → n ≤ length places → map order_in (take n places) ≡ os → length os ≡ n
seen_length places os n h e = sym (ap length e) ∙ length-map (take n places) order_in ∙ length-take-le n places h

take_set : (places : List (List ℕ)) (i : ℕ) (b : List ℕ) → i < length places → take (i + 1) (set places i b) ≡ take i places ++ (b ∷ [])
take_set places i b h = rw (add-one i) (take-suc-set places i b h)

-- one order more, and one unused place less
module _ (i : ℕ) (places : List (List ℕ)) (o : Order) where
  pub unused_less :
      (n : ℕ)
      → i < n
      → drop i places ≡ replicate (n - i) (order_bytes unused)
      → drop (i + 1) (set places i (order_bytes o)) ≡ replicate (n - (i + 1)) (order_bytes unused)
  unused_less n h e =
      let p : n - i - 1 ≡ n - (i + 1) = omega arith in
      drop-set-lt (i + 1) places i (order_bytes o) (omega arith)
      ∙ sym (drop-drop 1 i places)
      ∙ ap (drop 1) e
      ∙ drop-replicate 1 (n - i) (order_bytes unused)
      ∙ ap (λ (k : ℕ). replicate k (order_bytes unused)) p

  pub orders_more : i < length places → map order_in (take (i + 1) (set places i (order_bytes o))) ≡ map order_in (take i places) ++ (o ∷ [])
  orders_more h =
      ap (map order_in) (take_set places i (order_bytes o) h)
      ∙ map-append order_in (take i places) (order_bytes o ∷ [])
      ∙ ap (λ (p : Order). map order_in (take i places) ++ (p ∷ [])) (order_back o)

  places_more :
      i < length places
      → take i places ≡ map order_bytes (map order_in (take i places))
      → take (i + 1) (set places i (order_bytes o)) ≡ map order_bytes (map order_in (take (i + 1) (set places i (order_bytes o))))
  places_more h e =
      take_set places i (order_bytes o) h
      ∙ ap (λ (ps : List (List ℕ)). ps ++ (order_bytes o ∷ [])) e
      ∙ sym (map-append order_bytes (map order_in (take i places)) (o ∷ []))
      ∙ ap (map order_bytes) (sym (orders_more h))

-- the places stay what they have to be
pub kept_more :
    (i : ℕ) (places : List (List ℕ)) (o : Order) (b : List ℕ)
    → i < place_count
    → length places ≡ place_count
    → take i places ≡ map order_bytes (map order_in (take i places))
    → drop i places ≡ replicate (place_count - i) (order_bytes unused)
    → b ≡ order_bytes o
    → (length (set places i b) ≡ place_count)
    × (i + 1 ≤ place_count)
    × (take (i + 1) (set places i b) ≡ map order_bytes (map order_in (take (i + 1) (set places i b))))
    × (drop (i + 1) (set places i b) ≡ replicate (place_count - (i + 1)) (order_bytes unused))
kept_more i places o b h long front behind e =
    rw e (
      length-set places i (order_bytes o) ∙ long,
      omega arith,
      places_more i places o (omega (arith, long)) front,
      unused_less i places o place_count h behind,
    )

-- a number used, as the library finds it
pub used_any : (number : ℕ) (os : List Order) → list_any (λ (o : Order). eqb o.number number) os ≡ is_used number os
used_any number [] = refl
used_any number (o ∷ os) = ap (λ (b : Bool). eqb o.number number || b) (used_any number os)

-- and as a fold over places finds it
pub used_fold :
    (number : ℕ) (used : Bool) (places : List (List ℕ))
    → fold (λ (b : Bool) (p : List ℕ). b || eqb (order_in p).number number) used places
    ≡ used || list_any (λ (o : Order). eqb o.number number) (map order_in places)
used_fold number used [] = sym (or-false used)
used_fold number used (p ∷ ps) =
    let test : Order → Bool = λ o. eqb o.number number in
    used_fold number (used || test (order_in p)) ps ∙ or_assoc used (test (order_in p)) (list_any test (map order_in ps))
