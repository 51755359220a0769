-- `lookup::coefficients_at` meets its contract: what both lookups promise, as C is told it.
use Rattle.lookup.proofs.Answers.{coefficients_told}
use Rattle.lookup.proofs.coefficients_at.Goals as goal

pub returns : goal.returns
returns c = coefficients_told _ _ _ _ _ c.look_up.ensures
