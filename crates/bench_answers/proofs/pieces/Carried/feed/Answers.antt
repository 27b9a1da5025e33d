-- `bench_answers::pieces::Carried::feed` meets its contract. The loop's invariant: what the piece comes to is what is written, and then
-- what its rest comes to. Assumes nothing.
use borrow.Author.Rules.{rules}
use mathlib.Core.Logic.{inl, inr}
use mathlib.Core.Path.{refl, ◌∙◌}
use native.Mathlib.Omega.{arith}
use Rattle.bench_answers.specs.Progress.{comes_to}
use Rattle.bench_answers.proofs.ReadOn.{begins}
use Rattle.bench_answers.proofs.pieces.Carried.feed.Goals as goal

pub loop-at-init : goal.loop-at-init
loop-at-init c =
    let a = c.args in (
      (search rules, search rules),
      refl,
      search rules,
      search rules,
      begins a.self.now a.piece.now a.text.now,
    )

pub loop-at-preserved : goal.loop-at-preserved
loop-at-preserved c =
    let n = c.next_line-at in
    let k = c.loop-at in
    let a = c.args in (
      (search rules, search rules),
      search rules,
      search rules,
      omega (arith, n.ensures.fits.1),
      ◌∙◌ {a = comes_to n.new.self n.result a.piece.now n.new.text}
          {b = comes_to k.self k.at a.piece.now k.text} n.ensures.answered k.invariant.4,
    )

-- the text has no room for another answer, so something is written, and so something was read
pub returns-then-text-at-lt-ANSWER : goal.returns-then-text-at-lt-ANSWER
returns-then-text-at-lt-ANSWER c =
    record { fits = (search rules, search rules); to_end = inr (search rules); answered = c.loop-at.invariant.4 }

pub returns : goal.returns
returns c = record { fits = (search rules, search rules); to_end = inl (search rules); answered = c.loop-at.invariant.4 }
