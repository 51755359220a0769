-- `directions::fill` meets its contract: what is not refused is as long as the table, and every number of the table is then copied.
use native.Mathlib.Omega.{arith}
use mathlib.Core.Path.{◌∙◌}
use Rattle.directions.proofs.FilledLaws.{fill_refused, table_filled}
use Rattle.directions.proofs.fill.Goals as goal

pub returns-then-out-ne1728 : goal.returns-then-out-ne1728
returns-then-out-ne1728 c = fill_refused _ (λ e. omega (arith, c.if-out-ne1728.true))

pub returns : goal.returns
returns c = table_filled _ _ c.if-out-ne1728.false (c.copy_from_slice.ensures.after ∙ c.table.ensures)
