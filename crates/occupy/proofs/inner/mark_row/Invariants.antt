use Rattle.std.proofs.Common.{◌≡◌, ◌-◌}
use Rattle.lists.specs.Fold.{fold}
use Rattle.grid.specs.Grid.{voxels}
use Rattle.words.specs.Words.{entries_of, Tidy}
use Rattle.occupy.specs.Marking.{mark_sample, mark_row}
use Rattle.occupy.proofs.inner.mark_row.Given as goal

abbrev pub invariant-loop-iv : goal.invariant-loop-iv
invariant-loop-iv l =
    Tidy l.occupied (voxels l.axes)
    × (mark_row l.axes l.low l.edges l.t l.n l.iu (entries_of l.initial.occupied (voxels l.axes)) ≡ fold (mark_sample l.axes l.low l.edges l.t l.n l.iu) (l.n - l.iu - l.iv) l.iv (entries_of l.occupied (voxels l.axes)))
