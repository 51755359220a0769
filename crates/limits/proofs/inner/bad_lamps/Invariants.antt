use mathlib.Core.Path.{◌≡◌}
use Prim.Native.Nat.{◌≤◌, ◌-◌}
use Rattle.lists.specs.Any.{any}
use Rattle.limits.specs.Limits.{bad_lamp_at}
use Rattle.limits.proofs.inner.bad_lamps.Given as goal

abbrev pub invariant-loop-j : goal.invariant-loop-j
invariant-loop-j l = (l.j ≤ l.n) × (any (bad_lamp_at l.lamps) l.n 0 ≡ any (bad_lamp_at l.lamps) (l.n - l.j) l.j)

abbrev pub decreases-loop-j : goal.decreases-loop-j
decreases-loop-j l = l.n - l.j
