-- `geaidnosa::geaidnosa_meet` meets its contract: the struct holds the values of the enum, and those are the paper's.
use mathlib.Core.Path.{◌∙◌}
use Rattle.geaidnosa.proofs.geaidnosa_meet.Goals as goal

pub returns : goal.returns
returns c = record { values = c.met_told.ensures ∙ c.meet.ensures.values }
