-- `tree::inner::bad_pair`: a half that is not bad lies in the list, also once the other half is marked.
use Rattle.std.proofs.Common.{arith}
use Rattle.std.proofs.lemmas.Grind.{common_steps}
use Rattle.tree.proofs.TestLaws.{half_out}
use Rattle.tree.proofs.inner.bad_pair.Goals as goal

pub bounds-depths-right : goal.bounds-depths-right
bounds-depths-right c = grind (arith, common_steps, half_out)
