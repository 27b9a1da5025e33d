-- Wants put in order: the same wants, none above its next; that a sort makes this order, and five pairs of four. Assumes nothing.
use mathlib.Core.Bool.{Bool, true, false}
use mathlib.Core.List.{List, [], ◌∷◌}
use mathlib.Core.Path.{◌≡◌, refl, sym, ap, ◌∙◌}
use Prim.Native.Nat.{ℕ, zero, suc, ◌+◌, ◌-◌, ◌≤◌, ◌<◌, min, max}
use native.Mathlib.Nat.{le_antisymm}
use native.Mathlib.Omega.{arith}
use borrow.Author.Tests.{leb-true, leb-false}
use lib.Dec.{leb}
use lib.ListN.{length, get_or}
use Rattle.std.specs.List.{sum_by}
use Rattle.std.specs.List.Sorted.{IsPermutation, IsSorted}
use Rattle.std.specs.Ordering.{nat_cmp}
use Rattle.std.proofs.lemmas.List.Sums.{sum_by-cons}
use Rattle.std.proofs.lemmas.List.Sorted.{IsNonDecreasingBy-from_sort, sum_by-IsPermutation}
use Rattle.sharing.specs.Level.{places, want_of}
use Rattle.sharing.specs.Way.{insert, in_order}
use Rattle.sharing.proofs.Sums.{sum_of_each}

-- two numbers come to the same sum as their smaller and their larger
pair_sum : (f : ℕ → ℕ) (a b : ℕ) → f (min a b) + f (max a b) ≡ f a + f b
pair_sum f a b = go (leb a b) refl
  where
    go : (t : Bool) → leb a b ≡ t → f (min a b) + f (max a b) ≡ f a + f b
    go true e =
        let h : a ≤ b = leb-true a b e in
        let low : min a b ≡ a = omega arith in
        let high : max a b ≡ b = omega arith in
        rw (low, high)
    go false e =
        let h : b < a = leb-false a b e in
        let low : min a b ≡ b = omega arith in
        let high : max a b ≡ a = omega arith in
        rw (low, high) (omega arith)

insert_sum : (f : ℕ → ℕ) (want : ℕ) (order : List ℕ) → sum_of_each f (insert want order) ≡ f want + sum_of_each f order
unfolding insert
insert_sum f want [] = refl
insert_sum f want (next ∷ more) =
    omega (arith, insert_sum f (max want next) more, pair_sum f want next)

-- whatever is summed over the wants is the same in order
pub in_order_sum : (f : ℕ → ℕ) (wants : List ℕ) → sum_of_each f (in_order wants) ≡ sum_of_each f wants
unfolding in_order
in_order_sum f [] = refl
in_order_sum f (want ∷ more) = insert_sum f want (in_order more) ∙ ap (λ (x : ℕ). f want + x) (in_order_sum f more)

-- from a number on, none is above its next
abbrev pub Rises : ℕ → List ℕ → Type 0
Rises least [] = Unit {0}
Rises least (want ∷ more) = (least ≤ want) × Rises want more

pub rises_from_less : (less least : ℕ) (order : List ℕ) → less ≤ least → Rises least order → Rises less order
rises_from_less less least [] h up = tt
rises_from_less less least (want ∷ more) h up = (omega arith, up.1)

insert_rises : (least want : ℕ) (order : List ℕ) → least ≤ want → Rises least order → Rises least (insert want order)
unfolding insert
insert_rises least want [] h up = (h, tt)
insert_rises least want (next ∷ more) h up =
    (omega arith, insert_rises (min want next) (max want next) more (omega arith) (rises_from_less (min want next) next more (omega arith) up.1))

pub in_order_rises : (wants : List ℕ) → Rises 0 (in_order wants)
unfolding in_order
in_order_rises [] = tt
in_order_rises (want ∷ more) = insert_rises 0 want (in_order more) (omega arith) (in_order_rises more)

pub rises_next : (least : ℕ) (order : List ℕ) → Rises least order → (k : ℕ) → suc k < length order → want_of order k ≤ want_of order (suc k)
rises_next least [] up k h = absurd (omega arith)
rises_next least (want ∷ []) up k h = absurd (omega arith)
rises_next least (want ∷ next ∷ more) up zero h = up.1.0
rises_next least (want ∷ next ∷ more) up (suc k) h = rises_next want (next ∷ more) up.1 k (omega arith)

-- below the least of them no want is
none_below : (n least : ℕ) (order : List ℕ) → n ≤ least → Rises least order → sum_of_each (λ want. n - want) order ≡ 0
none_below n least [] h up = refl
none_below n least (want ∷ more) h up = omega (arith, none_below n want more (omega (arith, up.0)) up.1)

abbrev SameSums : List ℕ → List ℕ → Type 0
SameSums order other = (f : ℕ → ℕ) → sum_of_each f order ≡ sum_of_each f other

first_least : (want next : ℕ) (more rest : List ℕ) → Rises want more → SameSums (want ∷ more) (next ∷ rest) → want ≤ next
first_least want next more rest up same = omega (arith, none_below want want more (omega arith) up, same (λ k. want - k))

-- there is one order: where whatever is summed is the same over both, they are the same
one_order : (least from : ℕ) (order other : List ℕ) → Rises least order → Rises from other → SameSums order other → order ≡ other
one_order least from [] [] up rise same = refl
one_order least from [] (next ∷ rest) up rise same = absurd (omega (arith, same (λ k. 1)))
one_order least from (want ∷ more) [] up rise same = absurd (omega (arith, same (λ k. 1)))
one_order least from (want ∷ more) (next ∷ rest) up rise same =
    let first : want ≡ next
    = le_antisymm (first_least want next more rest up.1 same) (first_least next want rest more rise.1 (λ f. sym (same f))) in
    ap (λ (n : ℕ). n ∷ more) first
    ∙ ap (λ (l : List ℕ). next ∷ l) (one_order want next more rest up.1 rise.1 (λ f. omega (arith, same f, ap f first)))

sum_by_lem : (f : ℕ → ℕ) (wants : List ℕ) → sum_of_each f wants ≡ sum_by f wants
sum_by_lem f [] = refl
sum_by_lem f (want ∷ more) = ap (λ (x : ℕ). f want + x) (sum_by_lem f more) ∙ sym (sum_by-cons f want more)

sorted_rises :
    (least : ℕ) (order : List ℕ)
    → ((k : ℕ) → k < length order → least ≤ want_of order k)
    → ((i j d : ℕ) → i ≤ j → j < length order → get_or order i d ≤ get_or order j d)
    → Rises least order
sorted_rises least [] low up = tt
sorted_rises least (want ∷ more) low up = (
  low 0 (omega arith),
  sorted_rises want more (λ k h. up 0 (suc k) 0 (omega arith) (omega arith)) (λ i j d g h. up (suc i) (suc j) d (omega arith) (omega arith)),
)

-- the same wants sorted are the wants in order
pub sorted_in_order : (wants sorted : List ℕ) → IsPermutation wants sorted → IsSorted nat_cmp sorted → sorted ≡ in_order wants
sorted_in_order wants sorted same up =
    one_order 0 0 sorted (in_order wants) (sorted_rises 0 sorted (λ k h. omega arith) (IsNonDecreasingBy-from_sort (λ n. n) sorted up))
    (in_order_rises wants)
    (λ f. sum_by_lem f sorted ∙ sum_by-IsPermutation f wants sorted same ∙ sym (sum_by_lem f wants) ∙ sym (in_order_sum f wants))

-- The order of four by five pairs: the first two wants, the last two, the smaller ones of these, their larger ones, and what is left between.
module _ (a b c d : ℕ) where
  abbrev lowest : ℕ
  lowest = min (min a b) (min c d)

  abbrev highest : ℕ
  highest = max (max a b) (max c d)

  abbrev between : ℕ
  between = max (min a b) (min c d)

  abbrev other : ℕ
  other = min (max a b) (max c d)

  abbrev by_pairs : List ℕ
  by_pairs = lowest ∷ min between other ∷ max between other ∷ highest ∷ []

  pairs_rise : Rises lowest by_pairs
  pairs_rise = (omega arith, (omega arith, (omega arith, (omega arith, tt))))

  pub four_in_order : in_order (a ∷ b ∷ c ∷ d ∷ []) ≡ lowest ∷ min between other ∷ max between other ∷ highest ∷ []
  four_in_order =
      one_order 0 lowest (in_order (a ∷ b ∷ c ∷ d ∷ [])) by_pairs (in_order_rises (a ∷ b ∷ c ∷ d ∷ [])) pairs_rise
      (λ f.
      in_order_sum f (a ∷ b ∷ c ∷ d ∷ [])
      ∙ omega (arith, pair_sum f a b, pair_sum f c d, pair_sum f (min a b) (min c d), pair_sum f (max a b) (max c d), pair_sum f between other))

-- an array of four has these members
pub four_members : (wants : List ℕ) → length wants ≡ places → wants ≡ want_of wants 0 ∷ want_of wants 1 ∷ want_of wants 2 ∷ want_of wants 3 ∷ []
four_members [] e = absurd (omega arith)
four_members (a ∷ []) e = absurd (omega arith)
four_members (a ∷ b ∷ []) e = absurd (omega arith)
four_members (a ∷ b ∷ c ∷ []) e = absurd (omega arith)
four_members (a ∷ b ∷ c ∷ d ∷ []) e = refl
four_members (a ∷ b ∷ c ∷ d ∷ more ∷ wants) e = absurd (omega arith)
