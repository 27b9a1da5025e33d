-- `bench_line::answers::write_characters` meets its contract. The characters are copied, if they fit. Assumes nothing.
use lib.Seq.{take-length}
use Rattle.std.proofs.Common.{refl, arith}
use Rattle.bench_line.proofs.Filled.{not_written, written_copied}
use Rattle.bench_line.proofs.answers.write_characters.Goals as goal

pub returns-then-text-count : goal.returns-then-text-count
returns-then-text-count c = not_written c.args.characters.now c.args.text.now (omega arith)

pub returns : goal.returns
returns c =
    let t = c.args.characters.now in
    written_copied t c.args.text.now (omega arith) refl (rw (take-length t, c.copy_from_slice.ensures.after))
