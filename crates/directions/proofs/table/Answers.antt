-- `directions::table` meets its contract: the constant's literals are the recorded patterns, number for number, by computation.
use mathlib.Core.Path.{refl}
use Rattle.directions.specs.Table.{patterns, directions}
use Rattle.directions.proofs.table.Goals as goal

pub returns : goal.returns
unfolding patterns directions
returns c = refl
