use Rattle.std.proofs.Common.{◌≡◌, ◌-◌, ◌/◌, length}
use Rattle.lists.specs.Fold.{fold}
use Rattle.grid.specs.Grid.{voxels}
use Rattle.words.specs.Words.{entries_of, Tidy}
use Rattle.occupy.specs.Marking.{mark_place, mark_all}
use Rattle.occupy.proofs.inner.mark_all.Given as goal

abbrev pub invariant-loop-k : goal.invariant-loop-k
invariant-loop-k l =
    Tidy l.occupied (voxels l.axes)
    × (mark_all l.axes l.low l.edges l.e l.points (entries_of l.initial.occupied (voxels l.axes)) ≡ fold (mark_place l.axes l.low l.edges l.e l.points) (length l.points / 9 - l.k) l.k (entries_of l.occupied (voxels l.axes)))
