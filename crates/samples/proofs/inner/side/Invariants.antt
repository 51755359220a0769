use Rattle.std.proofs.Common.{◌≡◌, ◌-◌, ◌≤◌}
use Rattle.samples.specs.Samples.{side_from, side_of}
use Rattle.samples.proofs.inner.side.Given as goal

abbrev pub invariant-loop-n : goal.invariant-loop-n
invariant-loop-n l = (l.n ≤ l.s) × (side_of l.s ≡ side_from l.s (l.s - l.n) l.n)

abbrev pub decreases-loop-n : goal.decreases-loop-n
decreases-loop-n l = l.s - l.n
