-- `receiver::status::with_full` meets its contract. By the bits of every status. Assumes nothing.
use Rattle.receiver.proofs.Bits.{with_bit}
use Rattle.receiver.proofs.status.with_full.Goals as goal

pub returns : goal.returns
returns c = with_bit c.args.status c.args.mailbox c.ranges.status.fits c.requires
