-- `lead_records::states::is_spare_zero` meets its contract. By `four_zero`, of the spare bytes one by one. Assumes nothing.
use mathlib.Core.Bool.{and_assoc, and-true}
use mathlib.Core.List.{List}
use Prim.Native.Nat.{ℕ, ◌-◌, ◌≤◌}
use native.Mathlib.Omega.{arith}
use lib.ListN.{length, drop_of_length-le}
use Rattle.common.proofs.Spelled.{spelled_is}
use Rattle.little_endian.specs.Numbers.{byte_at}
use Rattle.lead_records.proofs.Zeros.{four_zero}
use Rattle.lead_records.specs.States.{state_size, spare_from}
use Rattle.lead_records.proofs.states.is_spare_zero.Goals as goal

pub returns : goal.returns
returns c =
    let b : List ℕ = c.args.bytes.now in
    let none : length b ≤ state_size = omega arith in
    rw (
      c.u32_at.ensures,
      ← spelled_is 0 b (state_size - spare_from) spare_from (omega arith),
      drop_of_length-le b none,
      four_zero (byte_at b 28) (byte_at b 29) (byte_at b 30) (byte_at b 31),
    )
    (simp (and_assoc, and-true))
