use mathlib.Core.Path.{◌≡◌}
use Prim.Native.Nat.{◌+◌, ◌≤◌, ◌-◌}
use Rattle.std.specs.Prelude.{Some}
use lib.ListN.{length}
use Rattle.tree_walk.specs.FoldLaws.{fold_of}
use Rattle.tree_walk.specs.Spans.{span_places}
use Rattle.tree_walk.specs.Collect.{collect_step}
use Rattle.tree_walk.specs.Kept.{collected_by}
use Rattle.tree_walk.proofs.inner.span_collect.Given as goal

abbrev pub invariant-loop-j : goal.invariant-loop-j
invariant-loop-j l = record {
  from : l.first ≤ l.k;
  to : l.k ≤ l.end;
  few : l.m + l.first ≤ l.held + l.k;
  distances : l.m ≤ length l.distances;
  places : l.m ≤ length l.places;
  met : collected_by (Some l.m) l.distances l.places
      ≡ fold_of (collect_step l.points l.uses l.kinds l.ray) (collected_by (Some l.held) l.initial.distances l.initial.places) (span_places l.order l.first (l.k - l.first));
}

abbrev pub decreases-loop-j : goal.decreases-loop-j
decreases-loop-j l = l.end - l.k
