-- `geaidnosa::found_told` meets its contract: each arm is a clause of the definition of an enum's values.
use mathlib.Core.Path.{◌∙◌}
use Rattle.rays.specs.Rays.{values_of_found}
use Rattle.geaidnosa.proofs.found_told.Goals as goal

pub returns-in-Refused : goal.returns-in-Refused
unfolding values_of_found
returns-in-Refused c = c.no_hit.ensures ∙ cc

pub returns-in-Nothing : goal.returns-in-Nothing
unfolding values_of_found
returns-in-Nothing c = c.no_hit-in-Nothing.ensures ∙ cc

pub returns-in-Hit : goal.returns-in-Hit
unfolding values_of_found
returns-in-Hit c = rw c.in-Hit.is c.hit_at.ensures
