-- `tree_build::inner::put_node` meets its contract: three numbers written one after another.
use Rattle.std.proofs.Common.{arith}
use Rattle.tree_build.specs.WriteLaws.{node_put}
use Rattle.tree_build.proofs.inner.put_node.Goals as goal

pub returns : goal.returns
returns c = node_put _ _ _ _ _ (omega arith)
