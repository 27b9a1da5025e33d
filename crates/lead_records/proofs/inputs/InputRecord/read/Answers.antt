-- `lead_records::inputs::InputRecord::read` meets its contract. By what it calls; a number read in its part is that of the whole. Assumes nothing.
use Rattle.lead_records.specs.Inputs.{input_of}
use Rattle.lead_records.proofs.Parts.{u32_part}
use Rattle.lead_records.proofs.inputs.InputRecord.read.Goals as goal

pub returns : goal.returns
unfolding input_of
returns c =
    let b = c.args.bytes.now in
    rw (
      c.reading_from.ensures,
      c.judge.ensures,
      c.contacts.ensures,
      c.newest.ensures,
      c.reading_from-amperes.ensures,
      c.reading_from-volts.ensures,
      u32_part b 4,
      u32_part b 8,
      u32_part b 12,
    )
