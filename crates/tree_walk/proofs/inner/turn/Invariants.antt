use Prim.Native.Nat.{◌*◌}
use Rattle.tree_walk.specs.Turned.{TurnedTo}
use Rattle.tree_walk.proofs.inner.turn.Given as goal

abbrev pub invariant-loop-k : goal.invariant-loop-k
invariant-loop-k l = TurnedTo l.points l.order l.turned (l.k * 9)
