-- What is kept of an accepted text: at most 64 orders, those of its lines, and none of an empty line. Assumes nothing.
use mathlib.Core.Bool.{Bool, true, false, cond}
use mathlib.Core.List.{List, [], ◌∷◌, ◌++◌, map, map-append, append_assoc, append-nil}
use Rattle.std.specs.Prelude.{Option, Some, None}
use mathlib.Core.Path.{◌≡◌, refl, sym, ap, ◌∙◌}
use Prim.Native.Nat.{ℕ, zero, suc, ◌+◌, ◌-◌, ◌*◌, ◌≤◌, ◌<◌}
use native.Mathlib.Omega.{arith}
use lib.Dec.{leb}
use lib.ListN.{length, length-append, drop, replicate}
use lib.Seq.{drop-append-add}
use borrow.Author.Tests.{leb-false}
use Rattle.orders.specs.Numbers.{number_of}
use Rattle.orders.specs.Lines.{lines_of, order_of}
use Rattle.orders.specs.Places.{place_count, place_size, unused, order_bytes, orders_in, orders_bytes, is_used}
use Rattle.orders.specs.Texts.{Answer, Accepted, Refused, with_order, read_from, answer_to}
use Rattle.orders.specs.declared.places.Order.{Order}
use Rattle.orders.proofs.PlaceBytes.{place_back, place_rest, bytes_length}
use Rattle.orders.proofs.Spelled.{Every, Filled}

empty_line : order_of [] ≡ None
unfolding order_of number_of
empty_line = refl

-- an answer to lines behind some orders
abbrev pub Sound : List Order → List (List ℕ) → Answer → Type 0
Sound k ls (Accepted os) = (length os ≤ place_count) × (map Some os ≡ map Some k ++ map order_of ls) × Every Filled ls
Sound k ls (Refused number line) = 0 < number

pub sound : (k : List Order) (ls : List (List ℕ)) → length k ≤ place_count → Sound k ls (read_from k ls)
sound k [] h = (h, sym (append-nil (map Some k)), tt)
sound k (l ∷ ls) h = go (leb place_count (length k)) refl (order_of l) refl (λ o g. sound (k ++ (o ∷ [])) ls g)
  where
    filled : (l : List ℕ) (o : Order) → order_of l ≡ Some o → Filled l
    filled [] o e = absurd (let q : None ≡ Some o = sym empty_line ∙ e in let z : ◌≡◌ {A = ℕ} 0 1 = cc in omega arith)
    filled (c ∷ l) o e = tt

    more : (o : Order) → order_of l ≡ Some o → (x : Answer) → Sound (k ++ (o ∷ [])) ls x → Sound k (l ∷ ls) x
    more o e (Accepted os) (few, these, every) = (
      few,
      these
          ∙ ap (λ (r : List (Option Order)). r ++ map order_of ls) (map-append Some k (o ∷ []))
          ∙ append_assoc (map Some k) (Some o ∷ []) (map order_of ls)
          ∙ ap (λ (x : Option Order). map Some k ++ (x ∷ map order_of ls)) (sym e),
      (filled l o e, every),
    )
    more o e (Refused number line) p = p

    last :
        (u : Bool) (o : Order)
        → Sound k (l ∷ ls) (read_from (k ++ (o ∷ [])) ls)
        → Sound k (l ∷ ls) (cond u (Refused 34 (length k + 1)) (read_from (k ++ (o ∷ [])) ls))
    last true o s = omega arith
    last false o s = s

    go :
        (b : Bool)
        → leb place_count (length k) ≡ b
        → (x : Option Order)
        → order_of l ≡ x
        → ((o : Order) → length (k ++ (o ∷ [])) ≤ place_count → Sound (k ++ (o ∷ [])) ls (read_from (k ++ (o ∷ [])) ls))
        → Sound k (l ∷ ls)
        (cond b (Refused 35 (length k + 1))
        (with_order x (Refused 33 (length k + 1)) (λ o. cond (is_used o.number k) (Refused 34 (length k + 1)) (read_from (k ++ (o ∷ [])) ls))))
    go true eb x ex ih = omega arith
    go false eb None ex ih = omega arith
    go false eb (Some o) ex ih =
        last (is_used o.number k) o
        (more o ex (read_from (k ++ (o ∷ [])) ls) (ih o (omega (arith, leb-false place_count (length k) eb, length-append k (o ∷ [])))))

pub answer_sound : (text : List ℕ) → Sound [] (lines_of text) (answer_to text)
unfolding answer_to
answer_sound text = sound [] (lines_of text) (omega arith)

-- the places behind the orders
pub places_unused :
    (n : ℕ) (os : List Order) → length os ≤ n → orders_in (n - length os) (drop (place_size * length os) (orders_bytes n os)) ≡ replicate (n - length os) unused
places_unused n [] h = let e : n - 0 ≡ n = omega arith in rw e (go n)
  where
    go : (n : ℕ) → orders_in n (orders_bytes n []) ≡ replicate n unused
    go zero = refl
    go (suc n) = rw (place_back unused (orders_bytes n []), place_rest unused (orders_bytes n []), go n)
places_unused zero (o ∷ os) h = absurd (omega arith)
places_unused (suc n) (o ∷ os) h =
    let e : suc n - suc (length os) ≡ n - length os = omega arith in
    let f : place_size * suc (length os) ≡ length (order_bytes o) + place_size * length os = omega (arith, bytes_length o) in
    rw (e, f, drop-append-add (order_bytes o) (orders_bytes n os) (place_size * length os)) (places_unused n os (omega arith))
