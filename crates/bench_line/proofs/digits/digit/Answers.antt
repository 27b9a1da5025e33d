-- `bench_line::digits::digit` meets its contract. Each branch decides the test of the definition. Assumes nothing.
use native.Mathlib.Omega.{arith}
use borrow.Author.Tests.{lt-ltb, le-ltb}
use Rattle.bench_line.specs.Digits.{digit}
use Rattle.bench_line.proofs.digits.digit.Goals as goal

pub returns-then-value-lt10 : goal.returns-then-value-lt10
unfolding digit
returns-then-value-lt10 c = rw (lt-ltb _ _ c.if-value-lt10.true)

pub returns-else-value-lt10 : goal.returns-else-value-lt10
unfolding digit
returns-else-value-lt10 c = rw (le-ltb _ _ c.if-value-lt10.false) (omega arith)
