-- The claims of 2026-09 about texts and allowances. Assumes nothing.
use mathlib.Core.Bool.{Bool, true, false, cond, false≢true}
use mathlib.Core.List.{List, [], map}
use mathlib.Core.Logic.{inl, inr}
use Rattle.std.specs.Prelude.{Some}
use mathlib.Core.Path.{◌≡◌, refl, sym, ap, subst, ◌∙◌}
use Prim.Native.Nat.{ℕ, ◌≤◌, ◌<◌}
use native.Mathlib.Omega.{arith}
use lib.Dec.{eqb}
use lib.ListN.{length, length-map}
use borrow.Author.Tests.{eq-eqb, eqb-true}
use Rattle.orders.specs.Lines.{lines_of, order_of}
use Rattle.orders.specs.Places.{place_count, orders_length, places_of, orders_bytes}
use Rattle.orders.specs.Allowances.{allowance_of}
use Rattle.orders.specs.Texts.{Answer, Accepted, Refused, answer_to, outcome_of, bytes_after, Taken, taken_of}
use Rattle.orders.specs.Claims.{Spells, SpelledByItsLines, IsAccepted, SameAllowance, AnyOrder, RoundTrip, NoLines, NoOrders, HighestCounts, ElseInput}
use Rattle.orders.specs.declared.places.Order.{Order}
use Rattle.orders.specs.declared.allowances.Choice.{Choice}
use Rattle.orders.proofs.PlaceBytes.{places_length, places_back}
use Rattle.orders.proofs.Spelled.{Every, Whole, Filled, lines_whole, lines_closed, lines_opened, text_spelled}
use Rattle.orders.proofs.Accepted.{Sound, answer_sound, places_unused}
use Rattle.orders.proofs.Choices.{by_orders, stays, highest_chosen}
use Rattle.orders.proofs.Reordered.{Agrees, Reordered, permuted, reordered, every_reordered}

pub spelled_by_its_lines : SpelledByItsLines
spelled_by_its_lines = text_spelled

-- what an accepted text says
record Accepting (text orders : List ℕ) : Type 0 where
  os : List Order
  answer : answer_to text ≡ Accepted os
  length_right : length orders ≡ orders_length
  sound_there : Sound [] (lines_of text) (Accepted os)
  taken : taken_of text orders ≡ record { number = 0; orders = orders_bytes place_count os }

taken_accepted :
    (text orders : List ℕ) (os : List Order)
    → answer_to text ≡ Accepted os
    → length orders ≡ orders_length
    → taken_of text orders ≡ record { number = 0; orders = orders_bytes place_count os }
unfolding taken_of
taken_accepted text orders os e h = rw (eq-eqb (length orders) orders_length h, e)

accepting : (text orders : List ℕ) → IsAccepted text orders → Accepting text orders
unfolding taken_of
accepting text orders p = go (eqb (length orders) orders_length) refl (answer_to text) refl p
  where
    go :
        (b : Bool)
        → eqb (length orders) orders_length ≡ b
        → (a : Answer)
        → answer_to text ≡ a
        → (cond {A = Taken} b (record { number = (outcome_of a).number; orders = bytes_after a orders }) (record { number = 43; orders = orders })).number ≡ 0
        → Accepting text orders
    go true eb (Accepted os) ea p =
        let h : length orders ≡ orders_length = eqb-true (length orders) orders_length eb in
        record {
          os = os;
          answer = ea;
          length_right = h;
          sound_there = subst (Sound [] (lines_of text)) ea (answer_sound text);
          taken = taken_accepted text orders os ea h;
        }
    go true eb (Refused number line) ea p =
        let s : 0 < number = subst (Sound [] (lines_of text)) ea (answer_sound text) in absurd (omega arith)
    go false eb a ea p = absurd (omega arith)

-- for any text with these lines in another order
same_lines :
    (text other orders : List ℕ) → IsAccepted text orders → Reordered (lines_of text) (lines_of other) → SameAllowance text other orders
unfolding answer_to
same_lines text other orders p r =
    let a = accepting text orders p in
    go a (answer_to other) refl (subst (λ (x : Answer). Agrees x (answer_to other)) a.answer (reordered r []))
  where
    go : (a : Accepting text orders) (y : Answer) → answer_to other ≡ y → Agrees (Accepted a.os) y → SameAllowance text other orders
    go a (Accepted os) e alike =
        let t = taken_accepted other orders os e a.length_right in
        let few : length os ≤ place_count = omega (arith, a.sound_there.0, alike.long) in
        record {
          accepted = ap (λ (x : Taken). x.number) t;
          allowance =
              λ tick watts.
              ap (λ (x : Taken). allowance_of x.orders tick watts) t
              ∙ by_orders tick os watts few
              ∙ ap (λ (c : Choice). c.watts) (sym (alike.counts tick (record { least = 0; watts = watts })))
              ∙ sym (by_orders tick a.os watts a.sound_there.0)
              ∙ ap (λ (x : Taken). allowance_of x.orders tick watts) (sym a.taken);
        }
    go a (Refused number line) e agrees = absurd agrees

pub any_order : AnyOrder
any_order text orders lines other p perm s =
    same_lines text other orders p (subst (Reordered (lines_of text)) (sym (there s)) r)
  where
    r : Reordered (lines_of text) lines
    r = permuted perm

    whole : Every Whole lines
    whole = every_reordered Whole r (lines_whole text)

    filled : Every Filled lines
    filled = every_reordered Filled r (accepting text orders p).sound_there.2

    there : Spells lines other → lines_of other ≡ lines
    there (inl e) = ap lines_of e ∙ lines_closed lines whole
    there (inr e) = ap lines_of e ∙ lines_opened lines whole filled

pub round_trip : RoundTrip
round_trip text orders p =
    let a = accepting text orders p in
    let many : length a.os ≡ length (lines_of text) =
    sym (length-map a.os Some) ∙ ap length a.sound_there.1 ∙ length-map (lines_of text) order_of in
    let few : length a.os ≤ place_count = a.sound_there.0 in
    rw a.taken
    (record {
      whole = places_length place_count a.os;
      few = rw (← many) few;
      used = rw (← many) (ap (map Some) (places_back place_count a.os few) ∙ a.sound_there.1);
      rest = rw (← many) (places_unused place_count a.os few);
    })

pub no_lines : NoLines
unfolding answer_to
no_lines orders h = taken_accepted [] orders [] refl h

pub no_orders_lem : NoOrders
no_orders_lem tick watts = by_orders tick [] watts (omega arith)

pub highest_counts : HighestCounts
unfolding allowance_of
highest_counts orders tick watts k n = highest_chosen tick (record { least = 0; watts = watts }) (places_of orders) k n (omega arith)

pub else_input : ElseInput
unfolding allowance_of
else_input orders tick watts h =
    ap (λ (x : Choice). x.watts)
    (stays tick (record { least = 0; watts = watts }) (places_of orders) (λ j g e. absurd (false≢true (sym (h j g) ∙ e))))
