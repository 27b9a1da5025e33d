-- `common::number_in` meets its contract. The loop's invariant: what the digits left say behind the others. Assumes nothing.
use mathlib.Core.Path.{◌≡◌}
use Prim.Native.Nat.{◌≤◌}
use lib.ListN.{drop}
use Rattle.common.specs.Texts.{number_in}
use Rattle.common.proofs.Texts.{number_from}
use Rattle.common.proofs.number_in.Given as goal

abbrev pub invariant-loop-character : goal.invariant-loop-character
invariant-loop-character l =
    (l.value ≤ l.most) × (number_in l.base l.most l.digits ≡ number_from l.base l.most l.value (drop l.character-index l.digits))
