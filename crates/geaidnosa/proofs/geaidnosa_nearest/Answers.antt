-- `geaidnosa::geaidnosa_nearest` meets its contract: the struct holds the values of the enum, and those are the paper's.
use mathlib.Core.Path.{◌∙◌}
use Rattle.geaidnosa.proofs.geaidnosa_nearest.Goals as goal

pub returns : goal.returns
returns c = record { values = c.found_told.ensures ∙ c.nearest.ensures.values }
