-- `receiver::status::without_one` meets its contract. By the bits of every status. Assumes nothing.
use Rattle.receiver.proofs.Bits.{without_bit}
use Rattle.receiver.proofs.status.without_one.Goals as goal

pub returns : goal.returns
returns c = without_bit c.args.status c.args.mailbox c.ranges.status.fits c.requires
