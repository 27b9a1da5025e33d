-- `bench_line::numbers::are_pairs` meets its contract. An even number of characters, each a digit. Assumes nothing.
use borrow.Author.Tests.{eq-eqb, ne_eqb}
use Rattle.bench_line.specs.Digits.{is_pairs}
use Rattle.bench_line.proofs.Pairs.{all_are}
use Rattle.bench_line.proofs.numbers.are_pairs.Goals as goal

pub returns-then-hex-eq0 : goal.returns-then-hex-eq0
unfolding is_pairs
returns-then-hex-eq0 c = rw (c.are_digits.ensures, all_are 16 c.args.hex.now, eq-eqb _ _ c.if-hex-eq0.true)

pub returns-else-hex-eq0 : goal.returns-else-hex-eq0
unfolding is_pairs
returns-else-hex-eq0 c = rw (ne_eqb _ _ c.if-hex-eq0.false)
