use mathlib.Core.Bool.{false}
use Prim.Native.Nat.{◌-◌, ◌≤◌}
use Rattle.triangle.specs.Missed.{AllMiss}
use Rattle.panels.specs.Panels.{met_by}
use Rattle.scan.proofs.inner.first_hit.Given as goal

abbrev pub invariant-loop-i : goal.invariant-loop-i
invariant-loop-i l = (l.from ≤ l.i) × (l.i ≤ l.n) × AllMiss (met_by false l.points l.uses l.kinds l.ray) l.from l.i

abbrev pub decreases-loop-i : goal.decreases-loop-i
decreases-loop-i l = l.n - l.i
