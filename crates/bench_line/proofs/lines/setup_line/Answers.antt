-- `bench_line::lines::setup_line` meets its contract. The last field is the whole rest of the line. Assumes nothing.
use mathlib.Core.Path.{sym, ◌∙◌}
use Rattle.bench_line.proofs.Rests.{decimal_last_lem}
use Rattle.bench_line.proofs.lines.setup_line.Goals as goal

pub returns-in_err-decimal-2 : goal.returns-in_err-decimal-2
returns-in_err-decimal-2 c =
    rw (
      c.from_residual-in_err-decimal-2.ensures,
      c.in_ok-field.ensures,
      c.in_ok-field-2.ensures,
      c.in_ok-field-3.ensures,
      c.in_ok-field-4.ensures,
      c.in_ok-field-5.ensures,
      ← c.in_ok-leads.ensures,
      ← c.in_ok-volts.ensures,
      ← c.in_ok-amperes.ensures,
      ← c.in_ok-resistance.ensures,
      ← c.in_ok-decimal.ensures,
    )
    (decimal_last_lem c.in_ok-field-5.last.now _ _ (sym c.decimal-5.ensures ∙ c.in_err-decimal-2.was))

pub returns : goal.returns
returns c =
    rw (
      c.in_ok-field.ensures,
      c.in_ok-field-2.ensures,
      c.in_ok-field-3.ensures,
      c.in_ok-field-4.ensures,
      c.in_ok-field-5.ensures,
      ← c.in_ok-leads.ensures,
      ← c.in_ok-volts.ensures,
      ← c.in_ok-amperes.ensures,
      ← c.in_ok-resistance.ensures,
      ← c.in_ok-decimal.ensures,
    )
    (decimal_last_lem c.in_ok-field-5.last.now _ _ (sym c.decimal-5.ensures ∙ c.in_ok-decimal-2.was))
