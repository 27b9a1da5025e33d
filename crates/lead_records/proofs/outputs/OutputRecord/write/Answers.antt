-- `lead_records::outputs::OutputRecord::write` meets its contract. The bytes before the frames are copied, the frames are written behind them. Assumes nothing.
use mathlib.Core.List.{append_assoc}
use mathlib.Core.Path.{ap, ◌∙◌}
use lib.ListN.{length}
use Prim.Native.Nat.{◌-◌}
use Rattle.lead_records.specs.Outputs.{output_size, frames_size, shown_bytes, output_of}
use Rattle.common.proofs.Copied.{written_both}
use Rattle.lead_records.proofs.outputs.OutputRecord.write.Goals as goal

pub returns : goal.returns
unfolding shown_bytes output_of
returns c =
    let a = c.args in
    let q = c.write_frames.new.frames in
    written_both c.copy_from_slice.new.self a.output.now q (output_size - frames_size) (ap length c.copy_from_slice.ensures.after)
    ∙ rw (
      c.copy_from_slice.ensures.after,
      c.write_frames.ensures,
      c.u16_bytes.ensures,
      c.switches.ensures,
      c.test_volts.ensures,
      append_assoc,
    )
