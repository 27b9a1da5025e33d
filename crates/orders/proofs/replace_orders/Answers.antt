-- `orders::replace_orders` meets its contract. An accepted text's orders are copied. Assumes nothing.
use Rattle.std.proofs.Common.{sym, ap, ◌∙◌}
use lib.ListN.{length}
use Rattle.orders.specs.Places.{place_count}
use Rattle.orders.proofs.PlaceBytes.{places_length}
use Rattle.orders.proofs.Reading.{right, taken_accepted}
use Rattle.orders.proofs.replace_orders.Goals as goal

pub copy_from_slice-requires : goal.copy_from_slice-requires
copy_from_slice-requires c =
    right c.args.text.now _ _ _ _ _ _ c.in_ok-unless.ensures c.new-kept.ensures c.read_text-outcome.ensures ∙ sym (ap length c.bytes.ensures ∙ places_length place_count _)

pub returns : goal.returns
returns c =
    taken_accepted _ _ _ _ _ _ _ c.in_ok-unless.ensures c.new-kept.ensures c.read_text-outcome.ensures _ _ c.in_ok-outcome.was c.copy_from_slice.ensures.after c.bytes.ensures
