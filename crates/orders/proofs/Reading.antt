-- A text read line by line, and what the call makes of its answer. Assumes nothing.
use mathlib.Core.Bool.{true, false, cond}
use mathlib.Core.List.{List, [], ◌∷◌, ◌++◌}
use mathlib.Core.Path.{◌≡◌, refl, sym, ap, ◌∙◌}
use Prim.Native.Nat.{ℕ, ◌+◌, ◌≤◌, ◌<◌}
use native.Mathlib.Omega.{arith}
use lib.ListN.{length}
use borrow.Author.Tests.{eq-eqb, eqb-true, le-leb, lt-leb}
use Rattle.std.specs.Borrow.{Bor}
use Rattle.std.specs.Option.{ok_or}
use Rattle.std.specs.Prelude.{Option, Some, None, option_map, Result, Ok, Err, ⊤}
use Rattle.std.specs.Result.{IsErrAnd}
use Rattle.orders.specs.Places.{place_count, orders_length, orders_bytes, is_used}
use Rattle.orders.specs.Refusals.{number}
use Rattle.common.specs.Refusals.{number_of}
use Rattle.common.proofs.Asked.{yes, turned_down}
use Rattle.orders.specs.Lines.{lines_of, order_of}
use Rattle.orders.specs.Scans.{first_line, behind_line, order_read, Adds, order_alone, AddsFirst, refused_at, answer_in}
use Rattle.orders.proofs.Cuts.{line_first, behind_shorter}
use Rattle.orders.specs.declared.refusals.Refusal.{Refusal}
use Rattle.orders.specs.declared.refusals.Refusal.TheVariants.{OrdersLength}
use lib.Dec.{eqb}
use Rattle.orders.specs.Texts.{Answer, Accepted, Refused, read_from, answer_to, outcome_of, bytes_after, Taken, taken_of, refused_line_of}
use Rattle.orders.specs.declared.places.Order.{Order}
use Rattle.orders.specs.declared.texts.RefusedLine.{RefusedLine}

abbrev read_as : Order → List ℕ → Option (Order × List ℕ)
read_as o r = Some (o, r)

abbrev read_none : Option (Order × List ℕ)
read_none = None

-- what is read of the first line is its order, or that it is none
order_there : (text : List ℕ) (o : Order) (r : List ℕ) → Some (o, r) ≡ order_read text → (order_of (first_line text) ≡ Some o) × (behind_line text ≡ r)
unfolding order_read
order_there text o r e = go (order_of (first_line text)) e
  where
    go : (x : Option Order) → read_as o r ≡ option_map (λ q. (q, behind_line text)) x → (x ≡ Some o) × (behind_line text ≡ r)
    go (Some q) e =
        let same : ◌≡◌ {A = Order × List ℕ} (o, r) (q, behind_line text) = cc in
        (ap (λ p. Some (p.0)) (sym same), ap (λ p. p.1) (sym same))
    go None e = absurd cc

order_not : (text : List ℕ) → None ≡ order_read text → order_of (first_line text) ≡ None
unfolding order_read
order_not text e = go (order_of (first_line text)) e
  where
    go : (x : Option Order) → read_none ≡ option_map (λ q. (q, behind_line text)) x → x ≡ None
    go (Some q) e = absurd cc
    go None e = refl

-- what becomes of the first line behind some orders, whatever lines follow
module _ (kept : List Order) (text : List ℕ) where
  pub first_65 : place_count ≤ length kept → (lines : List (List ℕ)) → read_from kept (first_line text ∷ lines) ≡ Refused 35 (length kept + 1)
  first_65 h lines = rw (le-leb place_count (length kept) h)

  module _ (h : length kept < place_count) where
    pub first_not : None ≡ order_read text → (lines : List (List ℕ)) → read_from kept (first_line text ∷ lines) ≡ Refused 33 (length kept + 1)
    first_not e lines = rw (lt-leb place_count (length kept) h, order_not text e)

    module _ (o : Order) (r : List ℕ) (e : Some (o, r) ≡ order_read text) where
      pub first_used :
          is_used o.number kept ≡ true → (lines : List (List ℕ)) → read_from kept (first_line text ∷ lines) ≡ Refused 34 (length kept + 1)
      first_used u lines = rw (lt-leb place_count (length kept) h, (order_there text o r e).0, u)

      pub first_taken :
          is_used o.number kept ≡ false
          → (lines : List (List ℕ))
          → read_from kept (first_line text ∷ lines) ≡ read_from (kept ++ (o ∷ [])) lines
      first_taken u lines = rw (lt-leb place_count (length kept) h, (order_there text o r e).0, u)

-- and where those behind it follow
module _ (kept : List Order) (text : List ℕ) (some : 0 < length text) where
  lines : lines_of text ≡ first_line text ∷ lines_of (behind_line text)
  lines = go text some
    where
      go : (s : List ℕ) → 0 < length s → lines_of s ≡ first_line s ∷ lines_of (behind_line s)
      go [] h = absurd (omega arith)
      go (c ∷ s) h = line_first c s

  pub line_65 : place_count ≤ length kept → read_from kept (lines_of text) ≡ Refused 35 (length kept + 1)
  line_65 h = ap (read_from kept) lines ∙ first_65 kept text h _

  pub line_not : length kept < place_count → None ≡ order_read text → read_from kept (lines_of text) ≡ Refused 33 (length kept + 1)
  line_not h e = ap (read_from kept) lines ∙ first_not kept text h e _

  module _ (h : length kept < place_count) (o : Order) (r : List ℕ) (e : Some (o, r) ≡ order_read text) where
    pub line_used : is_used o.number kept ≡ true → read_from kept (lines_of text) ≡ Refused 34 (length kept + 1)
    line_used u = ap (read_from kept) lines ∙ first_used kept text h o r e u _

    pub line_taken : is_used o.number kept ≡ false → read_from kept (lines_of text) ≡ read_from (kept ++ (o ∷ [])) (lines_of r)
    line_taken u =
        ap (read_from kept) lines
        ∙ first_taken kept text h o r e u _
        ∙ ap (λ s. read_from (kept ++ (o ∷ [])) (lines_of s)) (order_there text o r e).1

    pub line_shorter : length r < length text
    line_shorter = go text some (order_there text o r e).1
      where
        go : (s : List ℕ) → 0 < length s → behind_line s ≡ r → length r < length s
        go [] h b = absurd (omega arith)
        go (c ∷ s) h b = omega (arith, behind_shorter c s, ap length b)

-- what `ok_or` was given
module _ {A E : Type 0} (d : E) where
  pub given_none : (x : Option A) (r : E) → Err r ≡ ok_or x d → (x ≡ None) × (r ≡ d)
  given_none None r e = (refl, cc)
  given_none (Some y) r e = absurd cc

  pub given_some : (x : Option A) (y : A) → Ok y ≡ ok_or x d → x ≡ Some y
  given_some None y e = absurd cc
  given_some (Some z) y e = ap Some (cc)

-- a refusal handed on
pub refused_with :
    {E : Type 0} (answer : E → Answer) (kept : List Order) (text : List ℕ) (out : Result (Order × Bor (List ℕ)) E) (r : E)
    → IsErrAnd out (λ o. o ≡ r)
    → read_from kept (lines_of text) ≡ answer r
    → AddsFirst answer kept text out
refused_with answer kept text (Ok p) r h e = absurd h
refused_with answer kept text (Err o) r h e = e ∙ ap answer (sym h)

-- and of a line, whatever lines follow
pub refused_first :
    {E : Type 0} (answer : E → Answer) (kept : List Order) (line : List ℕ) (out : Result (Order × Bor (List ℕ)) E) (r : E)
    → IsErrAnd out (λ o. o ≡ r)
    → ((lines : List (List ℕ)) → read_from kept (line ∷ lines) ≡ answer r)
    → Adds answer kept line (order_alone out)
refused_first answer kept line (Ok p) r h e = absurd h
refused_first answer kept line (Err o) r h e = λ lines. e lines ∙ ap answer (sym h)

module _ (text orders : List ℕ) where
  taken_is :
      length orders ≡ orders_length
      → (a : Answer)
      → a ≡ answer_to text
      → ◌≡◌ {A = Taken} (record { number = (outcome_of a).number; orders = bytes_after a orders }) (taken_of text orders)
  unfolding taken_of
  taken_is h a e = rw (eq-eqb (length orders) orders_length h, e)

  -- bytes of another length
  pub taken_short :
      (outcome : Result ⊤ Refusal) (r : Refusal)
      → Err r ≡ cond (eqb (length orders) orders_length) (Ok (tt {0})) (Err OrdersLength)
      → outcome ≡ Err r
      → ◌≡◌ {A = Taken} (record { number = number_of number outcome; orders = orders }) (taken_of text orders)
  unfolding taken_of
  taken_short outcome r asked told =
      let no = turned_down (eqb (length orders) orders_length) OrdersLength asked refl in
      let n : number_of number outcome ≡ 43 = ap (number_of number) (told ∙ ap Err no.1) in
      rw (n, no.0)

  -- the lines are read into orders of which there were none
  module _
      (begun kept : List Order) (done : ⊤) (e : Refusal) (read : Result ⊤ RefusedLine)
      (asked : Ok done ≡ cond (eqb (length orders) orders_length) (Ok (tt {0})) (Err e))
      (empty : begun ≡ [])
      (known : answer_in kept read ≡ read_from begun (lines_of text)) where
    pub right : length orders ≡ orders_length
    right = eqb-true (length orders) orders_length (yes (eqb (length orders) orders_length) e asked refl)

    answered : answer_in kept read ≡ answer_to text
    unfolding answer_to
    answered = known ∙ ap (λ os. read_from os (lines_of text)) empty

    pub taken_refused :
        (outcome : Result ⊤ Refusal) (refused : RefusedLine)
        → read ≡ Err refused
        → outcome ≡ Err refused.refusal
        → ◌≡◌ {A = Taken} (record { number = number_of number outcome; orders = orders }) (taken_of text orders)
    taken_refused outcome refused was told =
        let n : number_of number outcome ≡ number refused.refusal = ap (number_of number) told in
        rw n (taken_is right (refused_at refused) (ap (answer_in kept) (sym was) ∙ answered))

    pub taken_accepted :
        (after bytes : List ℕ)
        → read ≡ Ok (tt {0})
        → after ≡ bytes
        → bytes ≡ orders_bytes place_count kept
        → ◌≡◌ {A = Taken} (record { number = 0; orders = after }) (taken_of text orders)
    taken_accepted after bytes was copied there =
        rw (copied, there) (taken_is right (Accepted kept) (ap (answer_in kept) (sym was) ∙ answered))

pub line_read : (text : List ℕ) (a : Answer) → a ≡ answer_to text → (outcome_of a).line ≡ refused_line_of text
unfolding refused_line_of
line_read text a e = ap (λ x. (outcome_of x).line) e
