-- `receiver::chip::is_up` meets its contract. By the bits that status and mask share. Assumes nothing.
use native.Mathlib.Omega.{arith}
use Rattle.receiver.proofs.Coded.{up_is}
use Rattle.receiver.proofs.chip.is_up.Goals as goal

pub returns : goal.returns
returns c = up_is c.args.receiver.now (omega arith)
