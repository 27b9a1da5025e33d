-- `lead_records::states::StateRecord::bytes` meets its contract. By the numbers that are written. Assumes nothing.
use Rattle.lead_records.specs.States.{encode}
use Rattle.lead_records.proofs.states.StateRecord.bytes.Goals as goal

pub returns : goal.returns
unfolding encode
returns c =
    rw (
      c.copy_from_slice-3.ensures.after,
      c.copy_from_slice-2.ensures.after,
      c.copy_from_slice.ensures.after,
      c.u64_bytes.ensures,
      c.u32_bytes.ensures,
      c.u16_bytes.ensures,
      c.car_bytes-bytes.ensures,
    )
