-- `orders::kept::Kept::is_used` meets its contract. What the fold finds is what the rule finds. Assumes nothing.
use Rattle.std.proofs.Common.{Bool, false, ◌||◌, List, ℕ, take, map, eqb, ap, ◌∙◌, rules, tests}
use Rattle.std.proofs.lemmas.Iterator.{YieldsList-from_slice}
use Rattle.std.proofs.lemmas.Iterator.Consumers.{fold_from_yields_List}
use Rattle.orders.specs.Places.{order_in, is_used}
use Rattle.orders.proofs.PlaceBytes.{used_any, used_fold}
use Rattle.orders.proofs.kept.Kept.is_used.Goals as goal

pub returns : goal.returns
returns c =
    let a = c.args in
    let k = c.self.inside in
    let used : Bool → List ℕ → Bool = λ b p. b || eqb (order_in p).number a.number in
    fold_from_yields_List _ used false c.fold.result c.fold.ensures.ran (YieldsList-from_slice (take k.count k.places) c.iter.ensures.rest) (λ x b r q h. search (rules, tests))
    ∙ used_fold a.number false (take k.count k.places)
    ∙ used_any a.number (map order_in (take k.count k.places))
    ∙ ap (is_used a.number) c.self.view_is
