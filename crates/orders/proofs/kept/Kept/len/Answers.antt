-- `orders::kept::Kept::len` meets its contract. The count is the length of the orders seen. Assumes nothing.
use Rattle.std.proofs.Common.{sym, arith}
use Rattle.orders.proofs.PlaceBytes.{seen_length}
use Rattle.orders.proofs.kept.Kept.len.Goals as goal

pub returns-clause-len : goal.returns-clause-len
returns-clause-len c = sym (seen_length _ _ _ (omega (arith, c.self.invariant.0, c.self.invariant.1)) c.self.view_is)
