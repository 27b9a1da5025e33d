-- `bench_line::lines::parse` meets its contract. Each return is a line by its length, its fields and its first word. Assumes nothing.
use mathlib.Core.Bool.{true, false}
use mathlib.Core.Path.{refl, ◌∙◌}
use native.Mathlib.Omega.{arith}
use Rattle.bench_line.proofs.Words.{parsed_long, parsed_one, parsed_word, told}
use Rattle.bench_line.specs.Lines.{tick_word, setup_word}
use Rattle.bench_line.proofs.lines.parse.Goals as goal

pub returns-then-line-gt-LONGEST : goal.returns-then-line-gt-LONGEST
returns-then-line-gt-LONGEST c = parsed_long c.args.line.now c.args.input.now c.if-line-gt-LONGEST.true

pub returns-in_err-word : goal.returns-in_err-word
returns-in_err-word c =
    rw c.from_residual.ensures (parsed_one c.args.line.now c.args.input.now (omega arith) c.in_err-word.ensures)

pub returns-then-eq : goal.returns-then-eq
returns-then-eq c =
    let w = c.in_ok-word.word.now in
    c.tick_line.ensures
    ∙ parsed_word c.args.line.now c.args.input.now w _ true _ (omega arith) c.in_ok-word.ensures
    (told w tick_word c.eq.ensures c.as_slice.ensures c.if-eq.true)
    refl

pub returns-then-eq-2 : goal.returns-then-eq-2
returns-then-eq-2 c =
    let w = c.in_ok-word.word.now in
    rw c.setup_line.ensures
    (parsed_word c.args.line.now c.args.input.now w _ false true (omega arith) c.in_ok-word.ensures
    (told w tick_word c.eq.ensures c.as_slice.ensures c.if-eq.false)
    (told w setup_word c.eq-2.ensures c.as_slice-2.ensures c.if-eq-2.true))

pub returns : goal.returns
returns c =
    let w = c.in_ok-word.word.now in
    parsed_word c.args.line.now c.args.input.now w _ false false (omega arith) c.in_ok-word.ensures
    (told w tick_word c.eq.ensures c.as_slice.ensures c.if-eq.false)
    (told w setup_word c.eq-2.ensures c.as_slice-2.ensures c.if-eq-2.false)
