-- `hits::inner::one_by_one` meets its contract: at the end none is left to insert.
use Rattle.std.proofs.Common.{arith}
use Rattle.std.proofs.lemmas.Grind.{common_steps}
use Rattle.hits.specs.Merge.{insert_all}
use Rattle.hits.proofs.Lists.{rest_none}
use Rattle.hits.proofs.inner.one_by_one.Goals as goal

pub returns : goal.returns
unfolding insert_all
returns c = grind (arith, common_steps, rest_none)
