use mathlib.Core.Path.{◌≡◌}
use Prim.Native.Nat.{◌≤◌, ◌-◌}
use Rattle.tree_walk.specs.Boxed.{nearest_step}
use Rattle.tree_walk.specs.FoldLaws.{fold_of}
use Rattle.tree_walk.specs.Spans.{span_places}
use Rattle.tree_walk.proofs.inner.span_nearest.Given as goal

abbrev pub invariant-loop-j : goal.invariant-loop-j
invariant-loop-j l =
    (l.first ≤ l.k) × (l.k ≤ l.end) × (l.held ≡ fold_of (nearest_step l.points l.uses l.kinds l.ray) l.initial.held (span_places l.order l.first (l.k - l.first)))

abbrev pub decreases-loop-j : goal.decreases-loop-j
decreases-loop-j l = l.end - l.k
