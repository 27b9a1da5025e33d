-- `orders::places::no_orders` meets its contract. As many bytes as the places have. Assumes nothing.
use Rattle.std.proofs.Common.{sym, ap, ◌∙◌}
use lib.ListN.{length}
use Rattle.orders.specs.Places.{place_count}
use Rattle.orders.proofs.PlaceBytes.{places_length}
use Rattle.orders.proofs.places.no_orders.Goals as goal

pub copy_from_slice-requires : goal.copy_from_slice-requires
copy_from_slice-requires c = sym (ap length c.bytes.ensures ∙ places_length place_count _)
