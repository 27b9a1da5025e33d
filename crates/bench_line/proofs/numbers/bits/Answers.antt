-- `bench_line::numbers::bits` meets its contract. The test of the length, and the call. Assumes nothing.
use borrow.Author.Tests.{eq-eqb, ne_eqb}
use Rattle.bench_line.specs.Digits.{bits_of}
use Rattle.bench_line.proofs.numbers.bits.Goals as goal

pub returns-then-field-ne8 : goal.returns-then-field-ne8
unfolding bits_of
returns-then-field-ne8 c = rw (ne_eqb _ _ c.if-field-ne8.true)

pub returns : goal.returns
unfolding bits_of
returns c = rw (eq-eqb _ _ c.if-field-ne8.false) c.number_in.ensures
