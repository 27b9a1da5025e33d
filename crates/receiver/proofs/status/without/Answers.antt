-- `receiver::status::without` meets its contract. Bit by bit. Assumes nothing.
use Rattle.receiver.proofs.Bits.{without_bits}
use Rattle.receiver.proofs.status.without.Goals as goal

pub returns : goal.returns
returns c = without_bits c.args.status c.args.emptied c.ranges.status.fits c.ranges.emptied.fits
