use Prim.Native.Nat.{◌-◌, ◌≤◌}
use lib.ListN.{get_or}
use Rattle.triangle.specs.Missed.{AllMiss}
use Rattle.tree_walk.specs.Boxed.{boxed_at}
use Rattle.tree_walk.proofs.inner.span_hit.Given as goal

abbrev pub invariant-loop-k : goal.invariant-loop-k
invariant-loop-k l = (l.from ≤ l.k) × (l.k ≤ l.end) × AllMiss (λ p. boxed_at l.points l.uses l.kinds l.ray (get_or l.order p 0)) l.from l.k

abbrev pub decreases-loop-k : goal.decreases-loop-k
decreases-loop-k l = l.end - l.k
