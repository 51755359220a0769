use mathlib.Core.Path.{◌≡◌}
use Prim.Native.Nat.{◌≤◌, ◌-◌}
use Rattle.std.specs.Prelude.{None}
use Rattle.tree_walk.specs.Boxed.{nearest_step}
use Rattle.tree_walk.specs.FoldLaws.{fold_of}
use Rattle.tree_rows.specs.Rows.{places_to}
use Rattle.row_walk.proofs.inner.nearest.Given as goal

abbrev pub invariant-loop-k : goal.invariant-loop-k
invariant-loop-k l =
    (l.k ≤ l.n) × (l.held ≡ fold_of (nearest_step l.points l.uses l.kinds l.ray) None (places_to l.order l.rows l.k))

abbrev pub decreases-loop-k : goal.decreases-loop-k
decreases-loop-k l = l.n - l.k
