-- `lead_records::outputs::OutputRecord::write_frames` meets its contract. Zeros, or both frames copied one behind the other. Assumes nothing.
use mathlib.Core.Path.{sym, ap, ◌∙◌}
use lib.ListN.{length}
use Rattle.frames.specs.Sent.{offer_bytes, report_bytes}
use Rattle.lead_records.specs.Outputs.{frame_size}
use Rattle.common.proofs.Copied.{written_both}
use Rattle.lead_records.proofs.outputs.OutputRecord.write_frames.Goals as goal

pub returns-then-sending : goal.returns-then-sending
unfolding offer_bytes report_bytes
returns-then-sending c =
    let first = c.copy_from_slice.ensures.after ∙ c.offer-offer.ensures in
    let second = c.copy_from_slice-then-sending.ensures.after ∙ c.report-report.ensures in
    written_both c.copy_from_slice.new.self c.args.frames.now c.copy_from_slice-then-sending.new.self frame_size (ap length first)
    ∙ rw (sym c.is_between-sending.ensures ∙ c.if-sending.true, first, second)

pub returns : goal.returns
returns c = c.copy_from_slice-2.ensures.after ∙ rw (sym c.is_between-sending.ensures ∙ c.if-sending.false)
