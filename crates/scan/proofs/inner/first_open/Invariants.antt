use Prim.Native.Nat.{◌-◌, ◌≤◌}
use Rattle.triangle.specs.Missed.{Missed}
use Rattle.scan.proofs.inner.first_open.Given as goal

abbrev pub invariant-loop-i : goal.invariant-loop-i
invariant-loop-i l = (l.from ≤ l.i) × (l.i ≤ l.n) × Missed l.points l.ray l.from l.i

abbrev pub decreases-loop-i : goal.decreases-loop-i
decreases-loop-i l = l.n - l.i
