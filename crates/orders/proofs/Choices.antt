-- Which order counts: an unused place never does, the orders in places count as the orders themselves, and of those that cover the tick the highest
-- number counts. Assumes nothing.
use mathlib.Core.Bool.{Bool, true, false, cond, ◌&&◌}
use mathlib.Core.List.{List, [], ◌∷◌}
use mathlib.Core.Path.{◌≡◌, refl, ap, ◌∙◌}
use Prim.Native.Nat.{ℕ, zero, suc, ◌+◌, ◌≤◌, ◌<◌}
use native.Mathlib.Omega.{arith}
use lib.Dec.{leb}
use lib.ListN.{length, take, drop}
use Rattle.std.specs.List.{fold}
use Rattle.std.specs.Simd.{first_chunks}
use borrow.Author.Tests.{le-leb, lt-leb, leb-true}
use Rattle.orders.specs.Places.{place_count, place_size, unused, order_in, orders_in, orders_bytes}
use Rattle.orders.specs.Allowances.{covers, chosen, choose, watts_of, allowance_of}
use Rattle.orders.specs.Claims.{place_at, Counts}
use Rattle.orders.specs.declared.places.Order.{Order}
use Rattle.orders.specs.declared.allowances.Choice.{Choice}
use Rattle.orders.proofs.PlaceBytes.{place_back, place_rest, places_length}

module _ (tick : ℕ) where
  -- an unused place counts for nothing
  unused_covers : covers tick unused ≡ false
  unfolding covers
  unused_covers = go (leb 1 tick) refl
    where
      go : (b : Bool) → leb 1 tick ≡ b → (b && leb tick 0) ≡ false
      go true e = lt-leb tick 0 (omega (arith, leb-true 1 tick e))
      go false e = refl

  unused_counts : (c : Choice) → chosen tick c unused ≡ c
  unfolding chosen
  unused_counts c = rw unused_covers

  -- the orders in the places count as the orders themselves
  choose_back : (c : Choice) (n : ℕ) (os : List Order) → length os ≤ n → choose tick c (orders_in n (orders_bytes n os)) ≡ choose tick c os
  choose_back c zero [] h = refl
  choose_back c zero (o ∷ os) h = absurd (omega arith)
  choose_back c (suc n) [] h =
      rw (place_back unused (orders_bytes n []), place_rest unused (orders_bytes n []), unused_counts c) (choose_back c n [] (omega arith))
  choose_back c (suc n) (o ∷ os) h =
      rw (place_back o (orders_bytes n os), place_rest o (orders_bytes n os)) (choose_back (chosen tick c o) n os (omega arith))

  pub by_orders : (os : List Order) (watts : ℕ) → length os ≤ place_count → allowance_of (orders_bytes place_count os) tick watts ≡ watts_of tick watts os
  unfolding allowance_of
  by_orders os watts h =
      rw (places_length place_count os) (ap (λ (c : Choice). c.watts) (choose_back (record { least = 0; watts = watts }) place_count os h))

  -- as `fold` goes through them
  pub choose_places :
      (c : Choice) (n : ℕ) (s : List ℕ)
      → fold (λ (x : Choice) (place : List ℕ). chosen tick x (order_in place)) c (first_chunks place_size n s) ≡ choose tick c (orders_in n s)
  choose_places c zero s = refl
  choose_places c (suc n) s = choose_places (chosen tick c (order_in (take place_size s))) n (drop place_size s)

  -- an order that does not cover the tick, or has no higher number, leaves the choice
  chosen_stays : (c : Choice) (o : Order) → (covers tick o ≡ true → o.number < c.least) → chosen tick c o ≡ c
  unfolding chosen
  chosen_stays c o h = go (covers tick o) h
    where
      go :
          (b : Bool)
          → (b ≡ true → o.number < c.least)
          → cond (b && leb c.least o.number) (record { least = o.number + 1; watts = o.watts }) c ≡ c
      go true h = rw (lt-leb c.least o.number (h refl))
      go false h = refl

  pub stays :
      (c : Choice) (os : List Order)
      → ((j : ℕ) → j < length os → covers tick (place_at os j) ≡ true → (place_at os j).number < c.least)
      → choose tick c os ≡ c
  stays c [] h = refl
  stays c (o ∷ os) h = rw (chosen_stays c o (h 0 (omega arith))) (stays c os (λ j g. h (suc j) (omega arith)))

  chosen_first :
      (c : Choice) (o : Order) → covers tick o ≡ true → c.least ≤ o.number → chosen tick c o ≡ record { least = o.number + 1; watts = o.watts }
  unfolding chosen
  chosen_first c o e h = rw (e, le-leb c.least o.number h)

  least_after : (c : Choice) (o : Order) (m : ℕ) → c.least ≤ m → (covers tick o ≡ true → o.number < m) → (chosen tick c o).least ≤ m
  unfolding chosen
  least_after c o m h g = go (covers tick o) g (leb c.least o.number)
    where
      go : (b : Bool) → (b ≡ true → o.number < m) → (d : Bool) → (cond (b && d) (record { least = o.number + 1; watts = o.watts }) c).least ≤ m
      go true g true = omega (arith, g refl)
      go true g false = h
      go false g d = h

  pub highest_chosen :
      (c : Choice) (os : List Order) (k : ℕ) → Counts tick os k → c.least ≤ (place_at os k).number → (choose tick c os).watts ≡ (place_at os k).watts
  highest_chosen c [] k n h = absurd (omega (arith, n.inside))
  highest_chosen c (o ∷ os) zero n h =
      ap (λ (x : Choice). (choose tick x os).watts) (chosen_first c o n.covered h)
      ∙ ap (λ (x : Choice). x.watts)
      (stays (record { least = o.number + 1; watts = o.watts }) os (λ j g e. omega (arith, n.highest (suc j) (omega arith) e)))
  highest_chosen c (o ∷ os) (suc k) n h =
      highest_chosen (chosen tick c o) os k
      (record {
        inside = omega (arith, n.inside);
        covered = n.covered;
        highest = λ j g e. n.highest (suc j) (omega arith) e;
        earliest = λ j g e. n.earliest (suc j) (omega arith) e;
      })
      (least_after c o (place_at os k).number h (n.earliest 0 (omega arith)))
