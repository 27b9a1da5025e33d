-- `orders::numbers::digits` meets its contract. The loop's invariant: the digits left decide, behind the number so far. Assumes nothing.
use Rattle.std.proofs.Common.{◌≡◌, ◌≤◌, drop}
use Rattle.orders.specs.Numbers.{most}
use Rattle.orders.specs.Scans.{digits_from}
use Rattle.orders.proofs.numbers.digits.Given as goal

abbrev pub invariant-loop-i : goal.invariant-loop-i
invariant-loop-i l =
    (l.value ≤ most) × (digits_from 0 0 l.text ≡ digits_from l.value l.i (drop l.i l.text))
