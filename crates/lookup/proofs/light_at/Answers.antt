-- `lookup::light_at` meets its contract: what both lookups promise, as C is told it.
use Rattle.lookup.proofs.Answers.{light_told}
use Rattle.lookup.proofs.light_at.Goals as goal

pub returns : goal.returns
returns c = light_told _ _ _ _ _ c.look_up.ensures
