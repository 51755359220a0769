use Prim.Native.Nat.{◌<◌, ◌*◌, ◌+◌, ◌-◌}
use Rattle.floats.proofs.roots.up.Given as goal

abbrev pub invariant-loop-r : goal.invariant-loop-r
invariant-loop-r l = l.r * l.r < l.n + l.r

abbrev pub decreases-loop-r : goal.decreases-loop-r
decreases-loop-r l = 16777216 - l.r
