-- A part of a buffer lent to a call, its beginning or what stands behind a place: what the call leaves there, and what stays as it is.
-- Assumes nothing.
use mathlib.Core.Bool.{Bool, true, false}
use mathlib.Core.List.{List, ◌++◌}
use mathlib.Core.Path.{◌≡◌, refl, sym, ◌∙◌}
use Prim.Native.Nat.{ℕ, ◌+◌, ◌≤◌, ◌<◌, min}
use native.Mathlib.Omega.{arith}
use lib.Dec.{leb}
use lib.ListN.{length, take, drop}
use lib.Seq.{length-take-le, take_all, take_at, drop_at, take-append-add, take-append-le}
use borrow.Author.Tests.{leb-true, leb-false}
use Rattle.post.specs.Calls.{SetUp, setup_of, Ticked, tick_of}
use Rattle.post.specs.declared.head.Head.{Head}

-- n elements of d were lent, and came back as other ones
module _ (d returned : List ℕ) {n m : ℕ} (e : n ≡ m) (fits : n ≤ length d) (long : length returned ≡ length (take n d)) where
  pub front_taken : take m (returned ++ drop n d) ≡ returned
  front_taken = rw (← e) (take_at returned (drop n d) n (long ∙ length-take-le n d fits))

  pub front_kept : drop m (returned ++ drop n d) ≡ drop m d
  front_kept = rw (← e) (drop_at returned (drop n d) n (long ∙ length-take-le n d fits))

  pub setup_front :
      (h : Head) {r : ℕ}
      → ◌≡◌ {A = SetUp} (record { number = r; state = returned }) (setup_of h (take n d))
      → ◌≡◌ {A = SetUp} (record { number = r; state = take m (returned ++ drop n d) }) (setup_of h (take m d))
      × (drop m (returned ++ drop n d) ≡ drop m d)
  setup_front h done = (rw (front_taken, ← e) done, front_kept)

-- a part that goes to the end at most
pub as_much : (i : List ℕ) (m : ℕ) {n : ℕ} → n ≡ min m (length i) → take n i ≡ take m i
as_much i m {n = n} e = go (leb m (length i)) refl
  where
    go : (b : Bool) → leb m (length i) ≡ b → take n i ≡ take m i
    go true f = let all : n ≡ m = omega (arith, leb-true m (length i) f) in rw all
    go false f =
        let past : length i < m = leb-false m (length i) f in
        take_all n i (omega arith) ∙ sym (take_all m i (omega arith))

-- what stands behind the first a elements was lent, and came back as other ones, of which the first n count
pub behind_taken :
    (d mid rest : List ℕ) (a n : ℕ) → a ≤ length d → n ≤ length mid → take (a + n) (take a d ++ (mid ++ rest)) ≡ take a d ++ take n mid
behind_taken d mid rest a n h g =
    let whole : take (length (take a d) + n) (take a d ++ (mid ++ rest)) ≡ take a d ++ take n (mid ++ rest) =
    take-append-add (take a d) (mid ++ rest) n in
    rw (length-take-le a d h, take-append-le n mid rest g) at whole

-- the tick's three slices
pub tick_front :
    (state input output returned shown : List ℕ) (j : ℕ) {r n m i o p : ℕ}
    → n ≡ m
    → n ≤ length state
    → length returned ≡ length (take n state)
    → i ≡ min j (length input)
    → o ≡ p
    → o ≤ length output
    → length shown ≡ length (take o output)
    → ◌≡◌ {A = Ticked} (record { number = r; state = returned; output = shown }) (tick_of (take n state) (take i input) (take o output))
    → ◌≡◌ {A = Ticked} (record { number = r; state = take m (returned ++ drop n state); output = take p (shown ++ drop o output) })
    (tick_of (take m state) (take j input) (take p output))
tick_front state input output returned shown j e fits long much g room wide done =
    rw (front_taken state returned e fits long, front_taken output shown g room wide, ← as_much input j much, ← e, ← g) done
