-- `orders::places::Order::read` meets its contract. By the numbers that are read. Assumes nothing.
use Rattle.orders.specs.Places.{order_in}
use Rattle.orders.proofs.places.Order.read.Goals as goal

pub returns : goal.returns
unfolding order_in
returns c = rw (c.u32_at-4.ensures, c.u32_at-3.ensures, c.u32_at-2.ensures, c.u32_at.ensures)
