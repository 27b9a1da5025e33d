-- The claims of request 2026-07. By induction over the calls, on every state that keeps a bool. Assumes nothing.
use mathlib.Core.Bool.{Bool, true, false, not, cond}
use mathlib.Core.List.{List, [], ◌∷◌, map}
use mathlib.Core.Path.{◌≡◌, refl, ap, ◌∙◌}
use Prim.Native.Nat.{ℕ, zero, suc, ◌≤◌, ◌<◌}
use native.Mathlib.Omega.{arith}
use borrow.Author.Tests.{eq-eqb, ne_eqb}
use lib.Dec.{T_not, eqb}
use lib.ListN.{length, get_or}
use Rattle.common.proofs.Bools.{holds, between_lo, above}
use Rattle.common.proofs.Refused.{number_passes, either_way}
use Rattle.little_endian.specs.Flags.{bit_value}
use Rattle.plug_sensing.specs.Sensing.{is_middle, is_lowest, sensed}
use Rattle.plug_sensing.specs.Calls.{keeping, fresh_state, is_taken, has_room, rows, Answer, telling, answer}
use Rattle.plug_sensing.specs.Lists.{Call, answer_to, numbers, accepted_values, accepted_plugs, value_at, closed_at}
use Rattle.plug_sensing.specs.Claims.{ClosedExactly, own_refusal, RefusedByItself, NeverUnusable, RuleSays}

-- A call on a state that keeps a bool: refused by itself, or carried out.
module _ (call : Call) (P : Answer → Type 0) where
  answered :
      (b : Bool)
      → ((own_refusal call ≡ 0 → ⊥) → P (record { number = own_refusal call; state = keeping b; plug = call.plug }))
      → (own_refusal call ≡ 0 → P (telling (sensed b call.millivolts)))
      → P (answer_to (keeping b) call)
  unfolding rows answer
  answered true away out = either_way _ _ P (own_refusal call) away out
  answered false away out = either_way _ _ P (own_refusal call) away out

-- bits by the rule, where one value v came before
abbrev Following : ℕ → List (List ℕ) → List ℕ → Type 0
Following v bits values =
    (length bits ≡ length values)
    × ((i : ℕ) → i < length values → get_or bits i [] ≡ bit_value (closed_at (v ∷ values) (suc i)) ∷ [])

one_more :
    (v w : ℕ) (bits : List (List ℕ)) (values : List ℕ)
    → Following w bits values
    → Following v ((bit_value (sensed (is_lowest v) w).closed ∷ []) ∷ bits) (w ∷ values)
unfolding sensed closed_at
one_more v w bits values rest = (ap suc rest.0, at)
  where
    at :
        (i : ℕ)
        → i < length (w ∷ values)
        → get_or ((bit_value (sensed (is_lowest v) w).closed ∷ []) ∷ bits) i [] ≡ bit_value (closed_at (v ∷ w ∷ values) (suc i)) ∷ []
    at zero h = refl
    at (suc i) h = rest.1 i (omega arith)

following : (calls : List Call) (v : ℕ) → Following v (accepted_plugs (keeping (is_lowest v)) calls) (accepted_values (keeping (is_lowest v)) calls)
unfolding sensed
following [] v = (refl, λ i h. absurd (omega arith))
following (call ∷ calls) v =
    let w = call.millivolts in
    answered call
    (λ a.
    Following v (cond (eqb a.number 0) (a.plug ∷ accepted_plugs a.state calls) (accepted_plugs a.state calls))
    (cond (eqb a.number 0) (w ∷ accepted_values a.state calls) (accepted_values a.state calls)))
    (is_lowest v)
    (λ n. rw (ne_eqb (own_refusal call) 0 n) (following calls v))
    (λ e. one_more v w (accepted_plugs (keeping (is_lowest w)) calls) (accepted_values (keeping (is_lowest w)) calls) (following calls w))

-- A fresh state is as if 0 millivolts had come before.
pub closed_exactly : ClosedExactly
unfolding closed_at
closed_exactly calls = record { as_many = all.0; each = λ i h. all.1 i h ∙ ap (λ (b : Bool). bit_value b ∷ []) (same i) }
  where
    all : Following 0 (accepted_plugs fresh_state calls) (accepted_values fresh_state calls)
    all = following calls 0

    same : (i : ℕ) → closed_at (0 ∷ accepted_values fresh_state calls) (suc i) ≡ closed_at (accepted_values fresh_state calls) i
    same zero = refl
    same (suc i) = refl

refused_by_itself_from : (calls : List Call) (b : Bool) → numbers (keeping b) calls ≡ map own_refusal calls
unfolding sensed
refused_by_itself_from [] b = refl
refused_by_itself_from (call ∷ calls) b =
    answered call (λ a. a.number ∷ numbers a.state calls ≡ map own_refusal (call ∷ calls)) b
    (λ n. ap (λ rest. own_refusal call ∷ rest) (refused_by_itself_from calls b))
    (λ e. rw e (ap (λ rest. 0 ∷ rest) (refused_by_itself_from calls (is_lowest call.millivolts))))

pub refused_by_itself : RefusedByItself
refused_by_itself calls = refused_by_itself_from calls false

own_never_6 : (calls : List Call) (i : ℕ) → get_or (map own_refusal calls) i 0 ≡ 6 → ⊥
own_never_6 [] i = λ e. omega arith
own_never_6 (call ∷ calls) zero = λ e.
    T_not (eqb (own_refusal call) 6)
    (number_passes (λ n. not (eqb n 6)) (is_taken call.millivolts ∷ has_room call.plug ∷ []) tt tt)
    (holds (eq-eqb (own_refusal call) 6 e))
own_never_6 (call ∷ calls) (suc i) = own_never_6 calls i

pub never_unusable : NeverUnusable
never_unusable calls i = rw (refused_by_itself calls) (own_never_6 calls i)

-- the ranges do not meet
middle_not_lowest : (v : ℕ) → is_middle v ≡ true → is_lowest v ≡ false
middle_not_lowest v e =
    let h : 5200 ≤ v = between_lo 5200 6800 v (holds e) in
    above 3200 4800 v (omega arith)

pub rule_says : RuleSays
unfolding closed_at
rule_says vs i = record {
  lowest = λ l. rw l;
  just_after = λ l m. rw (middle_not_lowest (value_at vs (suc i)) m, m, l);
  only_then = λ l m. rw (middle_not_lowest (value_at vs (suc i)) m, m, l);
  at_first = λ m. rw (middle_not_lowest (value_at vs zero) m, m);
  second_in_a_row = λ m n. rw (middle_not_lowest (value_at vs (suc i)) n, n, middle_not_lowest (value_at vs i) m);
  all_else = λ l m. rw (l, m);
  twelve_volts = λ t.
      let h : 11200 ≤ value_at vs i = between_lo 11200 12800 (value_at vs i) (holds t) in
      rw (above 3200 4800 (value_at vs i) (omega arith), above 5200 6800 (value_at vs i) (omega arith));
}
