-- `orders::numbers::number` meets its contract. Digits, and no needless zero before them. Assumes nothing.
use mathlib.Core.Path.{◌≡◌, sym, ap, ◌∙◌}
use mathlib.Core.List.{List}
use Prim.Native.Nat.{ℕ, ◌≤◌}
use native.Mathlib.Omega.{arith}
use lib.ListN.{length, take}
use Rattle.std.specs.Prelude.{Some}
use Rattle.std.proofs.lemmas.List.{length-take-le}
use Rattle.orders.specs.Numbers.{is_plain}
use Rattle.orders.specs.Scans.{first_field, digits_from}
use Rattle.orders.proofs.Cuts.{field_inside, field_taken}
use Rattle.orders.proofs.Digits.{digits_length, number_plain, number_not_plain, number_none}
use Rattle.orders.proofs.numbers.number.Goals as goal

-- the digits are the field
module _ (s : List ℕ) (v k : ℕ) (e : Some (v, k) ≡ digits_from 0 0 s) where
  inside : k ≤ length s
  inside = omega (arith, digits_length s v k e, field_inside s)

  plain : is_plain (take k s) ≡ is_plain (first_field s)
  plain = ap is_plain (ap (λ n. take n s) (digits_length s v k e) ∙ field_taken s)

pub returns-in_err-value-clause-number : goal.returns-in_err-value-clause-number
returns-in_err-value-clause-number c =
    c.from_residual.ensures ∙ number_none c.args.text.now (sym c.in_err-value.was ∙ c.digits.ensures)

pub slice_bounds-is_plain-end : goal.slice_bounds-is_plain-end
slice_bounds-is_plain-end c =
    let s = c.args.text.now in
    sym (length-take-le c.in_ok-value.length s (inside s _ _ (sym c.in_ok-value.was ∙ c.digits.ensures)))

pub returns-then-not-is_plain-clause-number : goal.returns-then-not-is_plain-clause-number
returns-then-not-is_plain-clause-number c =
    let s = c.args.text.now in
    number_not_plain s (sym (plain s _ _ (sym c.in_ok-value.was ∙ c.digits.ensures)) ∙ sym c.is_plain.ensures ∙ c.if-not-is_plain.true)

pub returns-clause-number : goal.returns-clause-number
returns-clause-number c =
    let s = c.args.text.now in
    number_plain s _ (sym c.in_ok-value.was ∙ c.digits.ensures)
    (sym (plain s _ _ (sym c.in_ok-value.was ∙ c.digits.ensures)) ∙ sym c.is_plain.ensures ∙ c.if-not-is_plain.false)

pub returns-clause-inside : goal.returns-clause-inside
returns-clause-inside c =
    inside c.args.text.now _ _ (sym c.in_ok-value.was ∙ c.digits.ensures)
