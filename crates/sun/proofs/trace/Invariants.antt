-- Voxel i is active, unless it is past the last, and every voxel has its figure but the active ones from i on.
use mathlib.Core.Path.{◌≡◌}
use mathlib.Core.Bool.{true}
use Prim.Native.Nat.{◌-◌, ◌<◌}
use lib.ListN.{length}
use Rattle.names.specs.Scene.{scene_for}
use Rattle.grid.specs.Grid.{voxels}
use Rattle.marks.specs.Marks.{is_marked}
use Rattle.words.specs.Words.{entries_of}
use Rattle.sun.proofs.Lit.{Right}
use Rattle.sun.proofs.trace.Given as goal

abbrev pub invariant-loop-i : goal.invariant-loop-i
invariant-loop-i l = record {
  all : l.n ≡ voxels l.axes;
  before_long : length l.before ≡ l.n;
  distances_long : length l.distances ≡ length l.initial.distances;
  places_long : length l.places ≡ length l.initial.places;
  active : l.i < l.n → is_marked (entries_of l.active l.n) l.i ≡ true;
  figures : Right l.axes l.low l.edges l.l l.ahead (scene_for l.boxed l.points l.uses l.kinds l.numbers l.boxes l.nodes l.order) (entries_of l.active l.n) l.n l.before l.i;
}

abbrev pub decreases-loop-i : goal.decreases-loop-i
decreases-loop-i l = l.n - l.i
