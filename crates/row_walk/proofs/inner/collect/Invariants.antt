use mathlib.Core.Path.{◌≡◌}
use mathlib.Core.List.{[]}
use Prim.Native.Nat.{◌≤◌, ◌-◌}
use lib.ListN.{length}
use Rattle.std.specs.Prelude.{Some}
use Rattle.tree_walk.specs.FoldLaws.{fold_of}
use Rattle.tree_walk.specs.Collect.{came, collect_step}
use Rattle.tree_walk.specs.Kept.{collected_by}
use Rattle.tree_rows.specs.Rows.{places_to}
use Rattle.row_walk.proofs.inner.collect.Given as goal

abbrev pub invariant-loop-k : goal.invariant-loop-k
invariant-loop-k l = record {
  to : l.k ≤ l.n;
  few : l.m ≤ length (places_to l.order l.rows l.k);
  distances : l.m ≤ length l.distances;
  places : l.m ≤ length l.places;
  met : collected_by (Some l.m) l.distances l.places ≡ fold_of (collect_step l.points l.uses l.kinds l.ray) (came []) (places_to l.order l.rows l.k);
}

abbrev pub decreases-loop-k : goal.decreases-loop-k
decreases-loop-k l = l.n - l.k
