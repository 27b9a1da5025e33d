-- `bench_line::fields::part` meets its contract. By where the first tab is, or that there is none. Assumes nothing.
use mathlib.Core.Path.{sym, ◌∙◌}
use Rattle.bench_line.proofs.Cuts.{cut_at}
use Rattle.bench_line.proofs.fields.part.Goals as goal

pub returns-in_err-tab : goal.returns-in_err-tab
returns-in_err-tab c = rw c.from_residual.ensures (cut_at c.args.line.now _ (sym c.first_tab.ensures ∙ c.in_err-tab.was))

pub returns : goal.returns
returns c = (cut_at c.args.line.now _ (sym c.first_tab.ensures ∙ c.in_ok-tab.was)).1
