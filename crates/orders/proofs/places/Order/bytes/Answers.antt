-- `orders::places::Order::bytes` meets its contract. By the bytes of its numbers. Assumes nothing.
use Rattle.orders.specs.Places.{order_bytes}
use Rattle.orders.proofs.places.Order.bytes.Goals as goal

pub returns : goal.returns
unfolding order_bytes
returns c =
    rw (
      c.copy_from_slice.ensures.after,
      c.as_flattened.ensures.value,
      c.u32_bytes-4.ensures,
      c.u32_bytes-3.ensures,
      c.u32_bytes-2.ensures,
      c.u32_bytes.ensures,
    )
