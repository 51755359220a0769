-- `geaidnosa::met_told` meets its contract: each arm is a clause of the definition of an enum's values.
use mathlib.Core.Path.{◌∙◌}
use Rattle.rays.specs.Rays.{values_of_met}
use Rattle.geaidnosa.proofs.met_told.Goals as goal

pub returns-in-Refused : goal.returns-in-Refused
unfolding values_of_met
returns-in-Refused c = c.no_hit.ensures ∙ cc

pub returns-in-Miss : goal.returns-in-Miss
unfolding values_of_met
returns-in-Miss c = c.no_hit-in-Miss.ensures ∙ cc

pub returns-in-Hit : goal.returns-in-Hit
unfolding values_of_met
returns-in-Hit c = rw c.in-Hit.is c.hit_at.ensures
