-- `orders::refused_line` meets its contract. By what reading the text answers. Assumes nothing.
use Rattle.std.proofs.Common.{◌≡◌, subst, ap, ◌∙◌}
use Rattle.orders.specs.Lines.{lines_of}
use Rattle.orders.specs.Scans.{answer_in}
use Rattle.orders.specs.Texts.{read_from, answer_to}
use Rattle.orders.proofs.Reading.{line_read}
use Rattle.orders.proofs.refused_line.Goals as goal

pub returns-in-Ok : goal.returns-in-Ok
unfolding answer_to
returns-in-Ok c =
    let s = c.args.text.now in
    let known = subst (λ r. answer_in c.read_text.new.kept r ≡ read_from c.new.result (lines_of s)) c.in-Ok.is c.read_text.ensures in
    line_read s _ (known ∙ ap (λ os. read_from os (lines_of s)) c.new.ensures)

pub returns-in-Err : goal.returns-in-Err
unfolding answer_to
returns-in-Err c =
    let s = c.args.text.now in
    let known = subst (λ r. answer_in c.read_text.new.kept r ≡ read_from c.new.result (lines_of s)) c.in-Err.is c.read_text.ensures in
    line_read s _ (known ∙ ap (λ os. read_from os (lines_of s)) c.new.ensures)
