use Prim.Native.Nat.{◌≤◌, ◌<◌, ◌*◌, ◌+◌}
use Rattle.floats.proofs.roots.down.Given as goal

abbrev pub invariant-loop-r : goal.invariant-loop-r
invariant-loop-r l = (l.r < 33554432) × (l.n ≤ l.r * l.r + l.r)

abbrev pub decreases-loop-r : goal.decreases-loop-r
decreases-loop-r l = l.r
