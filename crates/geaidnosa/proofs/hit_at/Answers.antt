-- `geaidnosa::hit_at` meets its contract: the struct holds the values, the side as a number.
use Rattle.geaidnosa.proofs.hit_at.Goals as goal

pub returns : goal.returns
returns c = rw c.as_number-side.ensures
