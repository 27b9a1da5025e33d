-- `orders::kept::Kept::push` meets its contract. One order more, one unused place less. Assumes nothing.
use Rattle.std.proofs.Common.{◌<◌, ◌+◌, ◌++◌, ◌∷◌, [], take, set, map, ap, ◌∙◌, arith}
use Rattle.orders.specs.Places.{place_count, order_in}
use Rattle.orders.proofs.PlaceBytes.{seen_length, orders_more, kept_more}
use Rattle.orders.proofs.kept.Kept.push.Goals as goal

pub invariant_of-self : goal.invariant_of-self
invariant_of-self c =
    let k = c.self.inside in
    let known = c.self.invariant in
    let left : k.count < place_count = omega (arith, c.requires, seen_length _ _ _ (omega (arith, known.0, known.1)) c.self.view_is) in
    kept_more k.count k.places c.args.order c.bytes.result left known.0 known.2 known.3 c.bytes.ensures

pub returns : goal.returns
returns c =
    let k = c.self.inside in
    let known = c.self.invariant in
    let left : k.count < place_count = omega (arith, c.requires, seen_length _ _ _ (omega (arith, known.0, known.1)) c.self.view_is) in
    ap (λ b. map order_in (take (k.count + 1) (set k.places k.count b))) c.bytes.ensures
    ∙ orders_more k.count k.places c.args.order (omega (arith, left, known.0))
    ∙ ap (λ os. os ++ (c.args.order ∷ [])) c.self.view_is
