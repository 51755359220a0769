-- `lookup::voxel_refusal` meets its contract: the rows are tested in their order.
use Rattle.std.proofs.Common.{sym, ◌∙◌, arith, le-leb}
use borrow.Author.Tests.{lt-leb}
use Rattle.names.specs.Refusals.{row_holds, row_passed, rows_passed}
use Rattle.grid.specs.GridLaws.{voxels_most}
use Rattle.limits.specs.LimitsLaws.{axes_row}
use Rattle.lookup.proofs.voxel_refusal.Goals as goal
use Rattle.lookup.proofs.voxel_refusal.Goals.{Else-bad_axes, Else-volume-n}

pub returns-then-bad_axes : goal.returns-then-bad_axes
returns-then-bad_axes c = record { answer = row_holds _ _ _ (sym c.bad_axes.ensures ∙ c.if-bad_axes.true) }

pub voxel_count-n-requires : goal.voxel_count-n-requires
voxel_count-n-requires c = (axes_row _).0 (sym c.bad_axes.ensures ∙ c.if-bad_axes.false)

pub overflow_mul-n : goal.overflow_mul-n
overflow_mul-n c = omega (arith, c.voxel_count-n.ensures, voxels_most _ ((axes_row _).0 (sym c.bad_axes.ensures ∙ c.if-bad_axes.false)))

pub overflow_mul-n-2 : goal.overflow_mul-n-2
overflow_mul-n-2 c = omega (arith, c.voxel_count-n.ensures, voxels_most _ ((axes_row _).0 (sym c.bad_axes.ensures ∙ c.if-bad_axes.false)))

pub returns-then-volume-n : goal.returns-then-volume-n
returns-then-volume-n c = record { answer = row_passed _ _ _ _ (sym c.bad_axes.ensures ∙ c.if-bad_axes.false) (row_holds _ _ _ (rw (← c.voxel_count-n.ensures) c.if-volume-n.true)) }

pub returns-then-n-index : goal.returns-then-n-index
returns-then-n-index c = record { answer = row_passed _ _ _ _ (sym c.bad_axes.ensures ∙ c.if-bad_axes.false) (row_passed _ _ _ _ (rw (← c.voxel_count-n.ensures) c.if-volume-n.false) (row_holds _ _ _ (rw (← c.voxel_count-n.ensures) (le-leb _ _ c.if-n-index.true)))) }

pub returns : goal.returns
returns c = record { answer = row_passed _ _ _ _ (sym c.bad_axes.ensures ∙ c.if-bad_axes.false) (row_passed _ _ _ _ (rw (← c.voxel_count-n.ensures) c.if-volume-n.false) (row_passed _ _ _ _ (rw (← c.voxel_count-n.ensures) (lt-leb _ _ c.if-n-index.false)) rows_passed)) }
