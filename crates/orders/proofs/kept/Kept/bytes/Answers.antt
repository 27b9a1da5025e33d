-- `orders::kept::Kept::bytes` meets its contract. The bytes of the orders, then those of unused places. Assumes nothing.
use Rattle.std.proofs.Common.{◌≡◌, ◌-◌, List, ◌++◌, ℕ, map, drop, replicate, sym, ap, ◌∙◌, arith}
use Rattle.std.specs.List.{flat_map}
use Rattle.std.proofs.lemmas.List.{take-append-drop}
use Rattle.orders.specs.Places.{place_count, unused, order_bytes}
use Rattle.orders.proofs.PlaceBytes.{seen_length, places_flat}
use Rattle.orders.proofs.kept.Kept.bytes.Goals as goal

pub returns : goal.returns
returns c =
    let k = c.self.inside in
    let known = c.self.invariant in
    let seen = c.args.self.now in
    let parts : k.places ≡ map order_bytes seen ++ replicate (place_count - k.count) (order_bytes unused) =
    sym (take-append-drop k.count k.places)
    ∙ ap (λ (ps : List (List ℕ)). ps ++ drop k.count k.places) (known.2 ∙ ap (map order_bytes) c.self.view_is)
    ∙ ap (λ (ps : List (List ℕ)). map order_bytes seen ++ ps) known.3 in
    c.as_flattened.ensures.value
    ∙ ap (flat_map (λ (place : List ℕ). place)) parts
    ∙ places_flat place_count (place_count - k.count) seen (omega (arith, known.0, known.1, seen_length _ _ _ (omega (arith, known.0, known.1)) c.self.view_is))
