-- The tests in the rows' order, and each return is the first that holds.
use mathlib.Core.Path.{refl, sym, ◌∙◌}
use Rattle.names.specs.Refusals.{first_of}
use Rattle.limits.specs.LimitsLaws.{either}
use Rattle.volume.specs.Volume.{write_refusal}
use Rattle.volume.specs.VolumeLaws.{lists_row}
use Rattle.volume.proofs.Calls.{within, few}
use Rattle.volume.proofs.judge_volume.Goals as goal

pub returns-then-bad_axes : goal.returns-then-bad_axes
unfolding write_refusal first_of
returns-then-bad_axes c = rw (← c.if-bad_axes.ensures) refl

pub bad_grid-requires : goal.bad_grid-requires
bad_grid-requires c = within _ c.if-bad_axes.ensures

pub returns-then-bad_grid : goal.returns-then-bad_grid
unfolding write_refusal first_of
returns-then-bad_grid c = rw (← c.if-bad_axes.ensures, ← c.if-bad_grid.ensures) refl

pub voxel_count-n-requires : goal.voxel_count-n-requires
voxel_count-n-requires c = within _ c.if-bad_axes.ensures

pub wrong_lists-wrong-requires : goal.wrong_lists-wrong-requires
wrong_lists-wrong-requires c = few _ _ (within _ c.if-bad_axes.ensures) c.voxel_count-n.ensures

pub wrong_bytes-requires : goal.wrong_bytes-requires
wrong_bytes-requires c = few _ _ (within _ c.if-bad_axes.ensures) c.voxel_count-n.ensures

pub returns-then-wrong-wrong_bytes : goal.returns-then-wrong-wrong_bytes
unfolding write_refusal first_of
returns-then-wrong-wrong_bytes c =
    rw (← c.if-bad_axes.ensures, ← c.if-bad_grid.ensures, ← c.voxel_count-n.ensures, ← c.wrong_lists-wrong.ensures, ← c.wrong_bytes.ensures, c.if-wrong-wrong_bytes.true) refl

pub bad_lists-requires : goal.bad_lists-requires
bad_lists-requires c =
    let right = (either c.wrong_lists-wrong.result c.wrong_bytes.result).0 c.if-wrong-wrong_bytes.false in
    let q = lists_row _ _ _ _ _ (sym c.wrong_lists-wrong.ensures ∙ right.0) in (q.2, q.3)

pub returns-then-bad_lists : goal.returns-then-bad_lists
unfolding write_refusal first_of
returns-then-bad_lists c =
    rw (← c.if-bad_axes.ensures, ← c.if-bad_grid.ensures, ← c.voxel_count-n.ensures, ← c.wrong_lists-wrong.ensures, ← c.wrong_bytes.ensures, c.if-wrong-wrong_bytes.false, ← c.if-bad_lists.ensures) refl

pub returns : goal.returns
unfolding write_refusal first_of
returns c =
    rw (← c.if-bad_axes.ensures, ← c.if-bad_grid.ensures, ← c.voxel_count-n.ensures, ← c.wrong_lists-wrong.ensures, ← c.wrong_bytes.ensures, c.if-wrong-wrong_bytes.false, ← c.if-bad_lists.ensures) refl
