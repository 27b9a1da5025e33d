-- `bench_line::lines::tick_line` meets its contract. Hex in pairs is the whole rest of the line. Assumes nothing.
use mathlib.Core.Path.{sym, ◌∙◌}
use Rattle.bench_line.proofs.Rests.{tick_pairs, tick_not}
use Rattle.bench_line.proofs.lines.tick_line.Goals as goal

pub returns-then-not-are_pairs : goal.returns-then-not-are_pairs
returns-then-not-are_pairs c =
    let a = c.args in
    tick_not a.fields.now a.input.now (sym c.are_pairs.ensures ∙ c.if-not-are_pairs.true)

pub write_bytes-requires : goal.write_bytes-requires
write_bytes-requires c = sym c.are_pairs.ensures ∙ c.if-not-are_pairs.false

pub returns : goal.returns
returns c =
    let a = c.args in
    rw c.write_bytes.ensures
    (tick_pairs a.fields.now a.input.now (sym c.are_pairs.ensures ∙ c.if-not-are_pairs.false))
