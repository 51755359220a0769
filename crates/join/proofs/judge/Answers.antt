-- `join::judge` tests the rows in their order, and each return is the first that holds. Assumes nothing.
use mathlib.Core.Path.{sym, ◌∙◌}
use Rattle.names.specs.Refusals.{refusals}
use Rattle.grid.specs.GridLaws.{voxels_most}
use Rattle.limits.specs.LimitsLaws.{axes_row}
use Rattle.join.specs.Join.{join_refusal}
use Rattle.join.specs.JoinLaws.{wrong_lists_long}
use Rattle.join.proofs.judge.Goals as goal

pub returns-then-bad_axes : goal.returns-then-bad_axes
unfolding join_refusal
returns-then-bad_axes c = search (refusals, ← c.bad_axes.ensures) depth 8

pub voxel_count-n-requires : goal.voxel_count-n-requires
voxel_count-n-requires c = (axes_row _).0 (sym c.bad_axes.ensures ∙ c.if-bad_axes.false)

pub wrong_lists-requires : goal.wrong_lists-requires
wrong_lists-requires c = rw c.voxel_count-n.ensures (voxels_most _ ((axes_row _).0 (sym c.bad_axes.ensures ∙ c.if-bad_axes.false)))

pub returns-then-wrong_lists : goal.returns-then-wrong_lists
unfolding join_refusal
returns-then-wrong_lists c =
    rw (← c.voxel_count-n.ensures)
    (search (refusals, ← c.bad_axes.ensures, ← c.wrong_lists.ensures) depth 8)

pub bad_share-requires : goal.bad_share-requires
bad_share-requires c = wrong_lists_long _ _ _ _ (sym c.wrong_lists.ensures ∙ c.if-wrong_lists.false)

pub returns-then-bad_share : goal.returns-then-bad_share
unfolding join_refusal
returns-then-bad_share c =
    rw (← c.voxel_count-n.ensures)
    (search (refusals, ← c.bad_axes.ensures, ← c.wrong_lists.ensures, ← c.bad_share.ensures) depth 12)

pub returns : goal.returns
unfolding join_refusal
returns c =
    rw (← c.voxel_count-n.ensures)
    (search (refusals, ← c.bad_axes.ensures, ← c.wrong_lists.ensures, ← c.bad_share.ensures) depth 12)
