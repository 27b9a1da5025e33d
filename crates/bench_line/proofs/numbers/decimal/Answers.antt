-- `bench_line::numbers::decimal` meets its contract. The test of the length, and the call. Assumes nothing.
use mathlib.Core.Path.{sym, ◌∙◌}
use Rattle.bench_line.specs.Digits.{decimal_of}
use Rattle.bench_line.proofs.numbers.decimal.Goals as goal

pub returns-then-is_empty : goal.returns-then-is_empty
unfolding decimal_of
returns-then-is_empty c = rw (sym c.is_empty.ensures ∙ c.if-is_empty.true)

pub returns : goal.returns
unfolding decimal_of
returns c = rw (sym c.is_empty.ensures ∙ c.if-is_empty.false) c.number_in.ensures
