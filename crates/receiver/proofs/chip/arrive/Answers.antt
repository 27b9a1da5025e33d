-- `receiver::chip::arrive` meets its contract. By the turn's mailbox, which is empty there. Assumes nothing.
use mathlib.Core.Path.{sym, ◌∙◌}
use Rattle.std.proofs.Common.{arith}
use Rattle.receiver.specs.Registers.{turn}
use Rattle.receiver.proofs.Coded.{copied_in, frame_kept}
use Rattle.receiver.proofs.chip.arrive.Goals as goal

pub returns : goal.returns
returns c =
    let s = c.args.receiver.now in
    rw c.from.ensures (
    frame_kept s c.args.frame.now _ _ (sym c.is_full.ensures ∙ c.if-is_full.false)
    (copied_in s c.args.frame.now _ (turn s) (omega arith) (omega arith) (omega arith) c.put.ensures)
    c.with_full.ensures
    )
