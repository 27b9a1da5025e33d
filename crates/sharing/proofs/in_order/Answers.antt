-- `sharing::in_order` meets its contract: a sort makes the order (`sorted_in_order`). Assumes nothing.
use Rattle.sharing.proofs.Order.{sorted_in_order}
use Rattle.sharing.proofs.in_order.Goals as goal

pub returns : goal.returns
returns c =
    let sort = c.sort_unstable in
    sorted_in_order c.args.wants sort.new.self sort.ensures.permutation sort.ensures.sorted
