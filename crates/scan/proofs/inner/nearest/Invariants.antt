use mathlib.Core.Path.{◌≡◌}
use Prim.Native.Nat.{◌≤◌, ◌-◌}
use Rattle.names.specs.Scene.{scene_of}
use Rattle.scan.specs.Nearest.{nearest_to}
use Rattle.scan.proofs.inner.nearest.Given as goal

abbrev pub invariant-loop-met : goal.invariant-loop-met
invariant-loop-met l =
    (l.i ≤ l.n) × (l.best ≡ nearest_to (scene_of l.points l.uses l.kinds l.numbers) l.ray l.i)

abbrev pub decreases-loop-met : goal.decreases-loop-met
decreases-loop-met l = l.n - l.i
