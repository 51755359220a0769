use mathlib.Core.Path.{◌≡◌}
use mathlib.Core.Bool.{◌||◌}
use Prim.Native.Nat.{◌≤◌, ◌-◌}
use lib.ListN.{length, drop}
use Rattle.lists.specs.Some.{some}
use Rattle.limits.specs.Limits.{outside}
use Rattle.limits.proofs.inner.any_out_of.Given as goal

abbrev pub invariant-loop-i : goal.invariant-loop-i
invariant-loop-i l = (l.i ≤ length l.l) × (some (outside l.b) l.l ≡ l.any || some (outside l.b) (drop l.i l.l))

abbrev pub decreases-loop-i : goal.decreases-loop-i
decreases-loop-i l = length l.l - l.i
