-- Orders in another order: as many, with the same numbers, and the same one counts at every tick. Assumes nothing.
use mathlib.Core.Bool.{Bool, true, false, ◌||◌, or_comm, or_assoc, or-false}
use mathlib.Core.List.{List, [], ◌∷◌, ◌++◌}
use mathlib.Core.Path.{◌≡◌, refl, sym, ap, ◌∙◌}
use Prim.Native.Nat.{ℕ, ◌+◌}
use native.Mathlib.Omega.{arith}
use lib.Dec.{leb, eqb}
use lib.ListN.{length, length-append}
use borrow.Author.Tests.{le-leb, lt-leb, leb-true, leb-false}
use Rattle.orders.specs.Places.{is_used}
use Rattle.orders.specs.Allowances.{covers, chosen, choose}
use Rattle.orders.specs.declared.places.Order.{Order}
use Rattle.orders.specs.declared.allowances.Choice.{Choice}

pub record Alike (a b : List Order) : Type 0 where
  pub long : length a ≡ length b
  pub used : (n : ℕ) → is_used n a ≡ is_used n b
  pub counts : (tick : ℕ) (c : Choice) → choose tick c a ≡ choose tick c b

pub alike_same : (a : List Order) → Alike a a
alike_same a = record { long = refl; used = λ n. refl; counts = λ tick c. refl }

pub alike_join : {a b c : List Order} → Alike a b → Alike b c → Alike a c
alike_join p q =
    record { long = p.long ∙ q.long; used = λ n. p.used n ∙ q.used n; counts = λ tick c. p.counts tick c ∙ q.counts tick c }

pub used_append : (n : ℕ) (a : List Order) (o : Order) → is_used n (a ++ (o ∷ [])) ≡ (is_used n a || eqb o.number n)
used_append n [] o = or-false (eqb o.number n)
used_append n (p ∷ a) o =
    ap (λ (b : Bool). eqb p.number n || b) (used_append n a o) ∙ sym (or_assoc (eqb p.number n) (is_used n a) (eqb o.number n))

choose_append : (tick : ℕ) (c : Choice) (a b : List Order) → choose tick c (a ++ b) ≡ choose tick (choose tick c a) b
choose_append tick c [] b = refl
choose_append tick c (o ∷ a) b = choose_append tick (chosen tick c o) a b

pub alike_more : {a b : List Order} (o : Order) → Alike a b → Alike (a ++ (o ∷ [])) (b ++ (o ∷ []))
alike_more {a} {b} o p =
    record {
      long = length-append a (o ∷ []) ∙ ap (λ (n : ℕ). n + 1) p.long ∙ sym (length-append b (o ∷ []));
      used = λ n. used_append n a o ∙ ap (λ (x : Bool). x || eqb o.number n) (p.used n) ∙ sym (used_append n b o);
      counts =
          λ tick c.
          choose_append tick c a (o ∷ [])
          ∙ ap (λ (x : Choice). chosen tick x o) (p.counts tick c)
          ∙ sym (choose_append tick c b (o ∷ []));
    }

-- two orders with different numbers
module _ (tick : ℕ) (o p : Order) (differ : o.number ≡ p.number → ⊥) where
  both_cover :
      (c : Choice)
      → covers tick o ≡ true
      → covers tick p ≡ true
      → (x : Bool)
      → leb c.least o.number ≡ x
      → (y : Bool)
      → leb c.least p.number ≡ y
      → (z : Bool)
      → leb (o.number + 1) p.number ≡ z
      → chosen tick (chosen tick c o) p ≡ chosen tick (chosen tick c p) o
  unfolding chosen
  both_cover c eo ep true ex true ey true ez = rw (eo, ep, ex, ey, ez, lt-leb (p.number + 1) o.number (omega (arith, leb-true (o.number + 1) p.number ez)))
  both_cover c eo ep true ex true ey false ez =
      rw (eo, ep, ex, ey, ez, le-leb (p.number + 1) o.number (omega (arith, leb-false (o.number + 1) p.number ez, differ)))
  both_cover c eo ep true ex false ey z ez =
      rw (eo, ep, ex, ey, ex, lt-leb (o.number + 1) p.number (omega (arith, leb-true c.least o.number ex, leb-false c.least p.number ey)))
  both_cover c eo ep false ex true ey z ez =
      rw (eo, ep, ex, ey, lt-leb (p.number + 1) o.number (omega (arith, leb-false c.least o.number ex, leb-true c.least p.number ey)))
  both_cover c eo ep false ex false ey z ez = rw (eo, ep, ex, ey, ex)

  chosen_swap : (c : Choice) → chosen tick (chosen tick c o) p ≡ chosen tick (chosen tick c p) o
  unfolding chosen
  chosen_swap c = go (covers tick o) refl (covers tick p) refl
    where
      go : (x : Bool) → covers tick o ≡ x → (y : Bool) → covers tick p ≡ y → chosen tick (chosen tick c o) p ≡ chosen tick (chosen tick c p) o
      go true eo true ep = both_cover c eo ep (leb c.least o.number) refl (leb c.least p.number) refl (leb (o.number + 1) p.number) refl
      go true eo false ep = rw (eo, ep)
      go false eo y ep = rw eo

pub alike_swap :
    (a : List Order) (o p : Order)
    → (o.number ≡ p.number → ⊥)
    → Alike (a ++ (o ∷ []) ++ (p ∷ [])) (a ++ (p ∷ []) ++ (o ∷ []))
alike_swap a o p differ =
    let more : (x y : Order) → length (a ++ (x ∷ []) ++ (y ∷ [])) ≡ length a + 1 + 1 =
    λ x y. length-append (a ++ (x ∷ [])) (y ∷ []) ∙ ap (λ (n : ℕ). n + 1) (length-append a (x ∷ [])) in
    let both : (n : ℕ) (x y : Order) → is_used n (a ++ (x ∷ []) ++ (y ∷ [])) ≡ (is_used n a || eqb x.number n || eqb y.number n) =
    λ n x y. used_append n (a ++ (x ∷ [])) y ∙ ap (λ (b : Bool). b || eqb y.number n) (used_append n a x) in
    let turn : (tick : ℕ) (c : Choice) (x y : Order) → choose tick c (a ++ (x ∷ []) ++ (y ∷ [])) ≡ chosen tick (chosen tick (choose tick c a) x) y =
    λ tick c x y.
    choose_append tick c (a ++ (x ∷ [])) (y ∷ []) ∙ ap (λ (d : Choice). chosen tick d y) (choose_append tick c a (x ∷ [])) in
    record {
      long = more o p ∙ sym (more p o);
      used =
          λ n.
          both n o p
          ∙ or_assoc (is_used n a) (eqb o.number n) (eqb p.number n)
          ∙ ap (λ (b : Bool). is_used n a || b) (or_comm (eqb o.number n) (eqb p.number n))
          ∙ sym (or_assoc (is_used n a) (eqb p.number n) (eqb o.number n))
          ∙ sym (both n p o);
      counts = λ tick c. turn tick c o p ∙ chosen_swap tick o p differ (choose tick c a) ∙ sym (turn tick c p o);
    }
