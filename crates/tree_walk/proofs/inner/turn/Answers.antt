-- `tree_walk::inner::turn` meets its contract. The loop's invariant: the numbers of the first k triangles are there.
use native.Mathlib.Omega.{arith}
use Rattle.tree_walk.proofs.Turning.{turned_whole}
use Rattle.tree_walk.proofs.inner.turn.Goals as goal

pub returns : goal.returns
returns c = turned_whole _ _ _ (omega arith) (λ k h. c.loop-k.invariant k (omega arith))
