-- The lines of an accepted text in another order are accepted, and their orders are alike. Assumes nothing.
use mathlib.Core.Bool.{Bool, true, false, cond, ◌||◌}
use mathlib.Core.List.{List, [], ◌∷◌, ◌++◌, Permᴰ}
use Rattle.std.specs.Prelude.{Option, Some, None}
use mathlib.Core.Path.{◌≡◌, refl, sym, ap, subst, ◌∙◌}
use Prim.Native.Nat.{ℕ, ◌+◌}
use native.Mathlib.Omega.{arith}
use lib.Dec.{leb, eqb}
use lib.ListN.{length, length-append}
use borrow.Author.Tests.{eqb-false, ne_eqb}
use Rattle.orders.specs.Lines.{order_of}
use Rattle.orders.specs.Places.{place_count, is_used}
use Rattle.orders.specs.Texts.{Answer, Accepted, Refused, with_order, read_from}
use Rattle.orders.specs.declared.places.Order.{Order}
use Rattle.orders.proofs.Spelled.{Every}
use Rattle.orders.proofs.Alike.{Alike, alike_same, alike_join, alike_more, alike_swap, used_append}

-- two neighbours exchanged, as often as wanted
pub data Reordered : List (List ℕ) → List (List ℕ) → Type 0 where
  same : {ls : List (List ℕ)} → Reordered ls ls
  keep : {l : List ℕ} {ls ms : List (List ℕ)} → Reordered ls ms → Reordered (l ∷ ls) (l ∷ ms)
  swap : {a b : List ℕ} {ls : List (List ℕ)} → Reordered (a ∷ b ∷ ls) (b ∷ a ∷ ls)
  join : {ls ms ns : List (List ℕ)} → Reordered ls ms → Reordered ms ns → Reordered ls ns

-- every permutation of lines, as the library has it, is that
pub permuted : {ls ms : List (List ℕ)} → Permᴰ ls ms → Reordered ls ms
permuted Permᴰ.nil = same
permuted (Permᴰ.cons {a} {b} {l₁} {l₂} e p) = subst (λ (x : List ℕ). Reordered (a ∷ l₁) (x ∷ l₂)) e (keep (permuted p))
permuted (Permᴰ.swap {a} {b} {a'} {b'} {l} e f) =
    subst (λ (x : List ℕ). Reordered (a ∷ b ∷ l) (x ∷ b' ∷ l)) f (subst (λ (y : List ℕ). Reordered (a ∷ b ∷ l) (b ∷ y ∷ l)) e swap)
permuted (Permᴰ.trans p q) = join (permuted p) (permuted q)

-- what holds of every line holds in another order
pub every_reordered : (Q : List ℕ → Type 0) {ls ms : List (List ℕ)} → Reordered ls ms → Every Q ls → Every Q ms
every_reordered Q same e = e
every_reordered Q (keep r) (q, e) = (q, every_reordered Q r e)
every_reordered Q swap (p, (q, e)) = (q, (p, e))
every_reordered Q (join r s) e = every_reordered Q s (every_reordered Q r e)

-- if the first is accepted, so is the second, with orders that are alike
abbrev pub Agrees : Answer → Answer → Type 0
Agrees (Accepted a) (Accepted b) = Alike a b
Agrees (Accepted a) (Refused number line) = ⊥
Agrees (Refused number line) y = Unit {0}

agrees_same : (x : Answer) → Agrees x x
agrees_same (Accepted a) = alike_same a
agrees_same (Refused number line) = tt

agrees_join : (x y z : Answer) → Agrees x y → Agrees y z → Agrees x z
agrees_join (Accepted a) (Accepted b) (Accepted c) p q = alike_join p q
agrees_join (Accepted a) (Accepted b) (Refused number line) p q = q
agrees_join (Accepted a) (Refused number line) z p q = absurd p
agrees_join (Refused number line) y z p q = tt

-- one line, read behind the orders kept
abbrev step : List Order → Option Order → (Order → Answer) → Answer
step kept x next =
    cond (leb place_count (length kept)) (Refused 35 (length kept + 1))
    (with_order x (Refused 33 (length kept + 1)) (λ o. cond (is_used o.number kept) (Refused 34 (length kept + 1)) (next o)))

-- what has to be shown of a line is shown where it is accepted
if_taken :
    (kept : List Order) (x : Option Order) (next : Order → Answer) (y : Answer)
    → ((o : Order) → leb place_count (length kept) ≡ false → x ≡ Some o → is_used o.number kept ≡ false → Agrees (next o) y)
    → Agrees (step kept x next) y
if_taken kept x next y h = go (leb place_count (length kept)) x h
  where
    last :
        (u : Bool) (o : Order)
        → (u ≡ false → Agrees (next o) y)
        → Agrees (cond u (Refused 34 (length kept + 1)) (next o)) y
    last true o h = tt
    last false o h = h refl

    go :
        (b : Bool) (x : Option Order)
        → ((o : Order) → b ≡ false → x ≡ Some o → is_used o.number kept ≡ false → Agrees (next o) y)
        → Agrees
        (cond b (Refused 35 (length kept + 1))
        (with_order x (Refused 33 (length kept + 1)) (λ o. cond (is_used o.number kept) (Refused 34 (length kept + 1)) (next o))))
        y
    go true x h = tt
    go false None h = tt
    go false (Some o) h = last (is_used o.number kept) o (h o refl refl)

step_taken :
    (kept : List Order) (x : Option Order) (o : Order) (next : Order → Answer)
    → leb place_count (length kept) ≡ false
    → x ≡ Some o
    → is_used o.number kept ≡ false
    → step kept x next ≡ next o
step_taken kept x o next room e u = rw (room, e, u)

-- orders that are alike decide alike about further lines
further : {a b : List Order} → Alike a b → (ls : List (List ℕ)) → Agrees (read_from a ls) (read_from b ls)
further p [] = p
further {a} {b} p (l ∷ ls) =
    if_taken a (order_of l) (λ o. read_from (a ++ (o ∷ [])) ls) (read_from b (l ∷ ls))
    (λ o room e u.
    subst (Agrees (read_from (a ++ (o ∷ [])) ls))
    (sym
    (step_taken b (order_of l) o (λ o. read_from (b ++ (o ∷ [])) ls) (ap (leb place_count) (sym p.long) ∙ room) e (sym (p.used o.number) ∙ u)))
    (further (alike_more o p) ls))

-- a line kept in its place
kept_place :
    (k : List Order) (l : List ℕ) (ls ms : List (List ℕ))
    → ((o : Order) → Agrees (read_from (k ++ (o ∷ [])) ls) (read_from (k ++ (o ∷ [])) ms))
    → Agrees (read_from k (l ∷ ls)) (read_from k (l ∷ ms))
kept_place k l ls ms h =
    if_taken k (order_of l) (λ o. read_from (k ++ (o ∷ [])) ls) (read_from k (l ∷ ms))
    (λ o room e u.
    subst (Agrees (read_from (k ++ (o ∷ [])) ls)) (sym (step_taken k (order_of l) o (λ o. read_from (k ++ (o ∷ [])) ms) room e u)) (h o))

or_first : (a b : Bool) → (a || b) ≡ false → a ≡ false
or_first false b e = refl
or_first true b e = e

or_second : (a b : Bool) → (a || b) ≡ false → b ≡ false
or_second false b e = e
or_second true b e = absurd (let z : ◌≡◌ {A = ℕ} 0 1 = cc in omega arith)

-- two lines exchanged
exchanged : (k : List Order) (a b : List ℕ) (ls : List (List ℕ)) → Agrees (read_from k (a ∷ b ∷ ls)) (read_from k (b ∷ a ∷ ls))
exchanged k a b ls =
    if_taken k (order_of a) (λ o. read_from (k ++ (o ∷ [])) (b ∷ ls)) (read_from k (b ∷ a ∷ ls))
    (λ o room e u.
    if_taken (k ++ (o ∷ [])) (order_of b) (λ p. read_from (k ++ (o ∷ []) ++ (p ∷ [])) ls) (read_from k (b ∷ a ∷ ls))
    (λ p room' f w. both o p room e u room' f w))
  where
    both :
        (o p : Order)
        → leb place_count (length k) ≡ false
        → order_of a ≡ Some o
        → is_used o.number k ≡ false
        → leb place_count (length (k ++ (o ∷ []))) ≡ false
        → order_of b ≡ Some p
        → is_used p.number (k ++ (o ∷ [])) ≡ false
        → Agrees (read_from (k ++ (o ∷ []) ++ (p ∷ [])) ls) (read_from k (b ∷ a ∷ ls))
    both o p room e u room' f w =
        let parts : (is_used p.number k || eqb o.number p.number) ≡ false = sym (used_append p.number k o) ∙ w in
        let fresh : is_used p.number k ≡ false = or_first _ (eqb o.number p.number) parts in
        let differ : o.number ≡ p.number → ⊥ = eqb-false _ _ (or_second (is_used p.number k) _ parts) in
        let room'' : leb place_count (length (k ++ (p ∷ []))) ≡ false =
        ap (leb place_count) (length-append k (p ∷ []) ∙ sym (length-append k (o ∷ []))) ∙ room' in
        let free : is_used o.number (k ++ (p ∷ [])) ≡ false =
        used_append o.number k p ∙ rw (u) (ne_eqb p.number o.number (λ q. differ (sym q))) in
        subst (Agrees (read_from (k ++ (o ∷ []) ++ (p ∷ [])) ls))
        (sym
        (step_taken k (order_of b) p (λ p. read_from (k ++ (p ∷ [])) (a ∷ ls)) room f fresh
        ∙ step_taken (k ++ (p ∷ [])) (order_of a) o (λ o. read_from (k ++ (p ∷ []) ++ (o ∷ [])) ls) room'' e free))
        (further (alike_swap k o p differ) ls)

pub reordered : {ls ms : List (List ℕ)} → Reordered ls ms → (k : List Order) → Agrees (read_from k ls) (read_from k ms)
reordered {ls} same k = agrees_same (read_from k ls)
reordered (keep {l} {ls} {ms} r) k = kept_place k l ls ms (λ o. reordered r (k ++ (o ∷ [])))
reordered (swap {a} {b} {ls}) k = exchanged k a b ls
reordered (join {ls} {ms} {ns} r q) k = agrees_join (read_from k ls) (read_from k ms) (read_from k ns) (reordered r k) (reordered q k)
