use mathlib.Core.Path.{◌≡◌}
use Prim.Native.Nat.{◌*◌, ◌^◌, ◌≤◌, ◌<◌}
use Rattle.floats.proofs.roots.of_small.Given as goal

abbrev pub invariant-loop-m : goal.invariant-loop-m
invariant-loop-m l = (l.m * 2 ^ l.e ≡ l.t * 2 ^ 24) × (l.m < 16777216) × (l.e ≤ 24)

abbrev pub decreases-loop-m : goal.decreases-loop-m
decreases-loop-m l = l.e
