use Rattle.std.proofs.Common.{◌≡◌, ◌-◌}
use Rattle.tree_build.specs.Built.{run_bounds}
use Rattle.tree_build.proofs.inner.run_bounds.Given as goal

abbrev pub invariant-loop-k : goal.invariant-loop-k
invariant-loop-k l = l.b ≡ run_bounds l.points l.order l.first (l.k - 1)
