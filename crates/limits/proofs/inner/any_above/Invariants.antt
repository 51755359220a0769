use mathlib.Core.Path.{◌≡◌}
use mathlib.Core.Bool.{◌||◌}
use Prim.Native.Nat.{◌≤◌, ◌-◌}
use lib.ListN.{length, drop}
use lib.Dec.{ltb}
use Rattle.lists.specs.Some.{some}
use Rattle.limits.proofs.inner.any_above.Given as goal

abbrev pub invariant-loop-i : goal.invariant-loop-i
invariant-loop-i l = (l.i ≤ length l.l) × (some (ltb l.most) l.l ≡ l.any || some (ltb l.most) (drop l.i l.l))

abbrev pub decreases-loop-i : goal.decreases-loop-i
decreases-loop-i l = length l.l - l.i
