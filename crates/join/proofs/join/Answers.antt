-- `join::join` meets its contract: what is not refused fits the grid, and then the voxels of the share are copied. Assumes nothing.
use mathlib.Core.Path.{sym}
use Rattle.names.specs.AnswersLaws.{told_on}
use Rattle.grid.specs.GridLaws.{voxels_most}
use Rattle.join.specs.JoinLaws.{join_fitting, join_refused, join_done}
use Rattle.join.proofs.join.Goals as goal

pub returns-in_err-judge : goal.returns-in_err-judge
returns-in_err-judge c =
    let h = told_on _ _ _ c.from_residual.ensures c.in_err-judge.ensures in
    join_refused _ _ _ _ _ h.number h.refused

pub voxel_count-n-requires : goal.voxel_count-n-requires
voxel_count-n-requires c = (join_fitting _ _ _ _ (sym c.in_ok-judge.ensures)).axes_within

pub copy_marked-requires : goal.copy_marked-requires
copy_marked-requires c =
    let f = join_fitting _ _ _ _ (sym c.in_ok-judge.ensures) in
    rw c.voxel_count-n.ensures (record { tidy = (f.share_tidy, voxels_most _ f.axes_within); from_len = (f.unblurred_fits, f.joined_fits) })

pub returns : goal.returns
returns c = join_done _ _ _ _ _ c.in_ok-judge.ensures (rw (← c.voxel_count-n.ensures) c.copy_marked.ensures)
