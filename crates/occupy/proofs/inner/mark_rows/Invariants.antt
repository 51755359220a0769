use Rattle.std.proofs.Common.{◌≡◌, ◌-◌}
use Rattle.lists.specs.Fold.{fold}
use Rattle.grid.specs.Grid.{voxels}
use Rattle.words.specs.Words.{entries_of, Tidy}
use Rattle.occupy.specs.Marking.{mark_row, mark_rows}
use Rattle.occupy.proofs.inner.mark_rows.Given as goal

abbrev pub invariant-loop-iu : goal.invariant-loop-iu
invariant-loop-iu l =
    Tidy l.occupied (voxels l.axes)
    × (mark_rows l.axes l.low l.edges l.t l.n (entries_of l.initial.occupied (voxels l.axes)) ≡ fold (mark_row l.axes l.low l.edges l.t l.n) (l.n - l.iu) l.iu (entries_of l.occupied (voxels l.axes)))
