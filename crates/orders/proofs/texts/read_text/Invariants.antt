-- `orders::texts::read_text` meets its contract. The loop's invariant: the lines left decide, behind the orders kept. Assumes nothing.
use mathlib.Core.Path.{◌≡◌}
use lib.ListN.{length}
use Rattle.orders.specs.Lines.{lines_of}
use Rattle.orders.specs.Texts.{read_from}
use Rattle.orders.proofs.texts.read_text.Given as goal

abbrev pub invariant-loop-rest : goal.invariant-loop-rest
invariant-loop-rest l = read_from l.initial.kept (lines_of l.text) ≡ read_from l.kept (lines_of l.rest)

abbrev pub decreases-loop-rest : goal.decreases-loop-rest
decreases-loop-rest l = length l.rest
