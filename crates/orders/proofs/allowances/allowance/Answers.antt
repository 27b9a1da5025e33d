-- `orders::allowances::allowance` meets its contract. The fold chooses of the places, one after the other. Assumes nothing.
use mathlib.Core.List.{List}
use mathlib.Core.Path.{ap, ◌∙◌}
use Prim.Native.Nat.{ℕ, ◌/◌}
use lib.ListN.{length}
use Rattle.std.proofs.Common.{rules, tests}
use Rattle.std.specs.List.{fold}
use Rattle.std.proofs.lemmas.Iterator.{YieldsList-from_slice}
use Rattle.std.proofs.lemmas.Iterator.Consumers.{fold_from_yields_List}
use Rattle.orders.specs.Places.{place_size, order_in}
use Rattle.orders.specs.Allowances.{chosen, allowance_of}
use Rattle.orders.specs.declared.allowances.Choice.{Choice}
use Rattle.orders.proofs.Choices.{choose_places}
use Rattle.orders.proofs.allowances.allowance.Goals as goal

pub returns : goal.returns
unfolding allowance_of
returns c =
    let a = c.args in
    let s = a.orders.now in
    let start : Choice = record { least = 0; watts = a.watts } in
    let next : Choice → List ℕ → Choice = λ x place. chosen a.tick x (order_in place) in
    let folded = fold_from_yields_List _ next start c.fold-choice.result c.fold-choice.ensures.ran (YieldsList-from_slice c.as_chunks.result.0.now cc) (λ x p r q k. search (rules, tests)) in
    ap (λ (x : Choice). x.watts)
    (folded ∙ ap (λ (ps : List (List ℕ)). fold next start ps) c.as_chunks.ensures.front ∙ choose_places a.tick start (length s / place_size) s)
