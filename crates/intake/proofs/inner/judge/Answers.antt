-- Rows 9 and 13 need the mask's length, which row 3 has tested. The last rows lie behind more tests than the check looks through.
use mathlib.Core.Path.{sym, ◌∙◌}
use Rattle.names.specs.Refusals.{refusals}
use Rattle.grid.specs.GridLaws.{voxels_most}
use Rattle.limits.specs.LimitsLaws.{either, axes_row, lamps_row}
use Rattle.intake.specs.Intake.{bake_refusal, bake_rows, wrong_bake_lists}
use Rattle.intake.specs.IntakeLaws.{long}
use Rattle.intake.proofs.inner.judge.Goals as goal

pub bad_progress-requires : goal.bad_progress-requires
bad_progress-requires c = (
  rw c.voxel_count-n.ensures (voxels_most _ ((axes_row _).0 (sym c.bad_axes.ensures ∙ c.if-bad_axes.false))),
  (long (sym c.wrong_lengths-lengths.ensures ∙ ((either c.wrong_scene-scene.result _).0 c.if-scene-lengths.false).1)).active,
  ((lamps_row _).0 (sym c.bad_lamps.ensures ∙ c.if-bad_lamps.false)).0,
)

pub returns-then-below_cost : goal.returns-then-below_cost
unfolding bake_refusal bake_rows wrong_bake_lists
returns-then-below_cost c =
    rw (
      ← c.bad_axes.ensures,
      ← c.bad_grid.ensures,
      ← c.voxel_count-n.ensures,
      ← c.wrong_scene-scene.ensures,
      ← c.wrong_lengths-lengths.ensures,
      ← c.too_many.ensures,
      ← c.bad_points.ensures,
      ← c.bad_materials_for.ensures,
      ← c.bad_lighting.ensures,
      ← c.bad_lamps.ensures,
      ← c.not_accepted.ensures,
      ← c.bad_progress.ensures,
      ← c.below_cost.ensures,
    )
    (search refusals depth 26)

pub bad_contents-requires : goal.bad_contents-requires
bad_contents-requires c = (long (sym c.wrong_lengths-lengths.ensures ∙ ((either c.wrong_scene-scene.result _).0 c.if-scene-lengths.false).1)).active

pub returns-then-bad_contents : goal.returns-then-bad_contents
unfolding bake_refusal bake_rows wrong_bake_lists
returns-then-bad_contents c =
    rw (
      ← c.bad_axes.ensures,
      ← c.bad_grid.ensures,
      ← c.voxel_count-n.ensures,
      ← c.wrong_scene-scene.ensures,
      ← c.wrong_lengths-lengths.ensures,
      ← c.too_many.ensures,
      ← c.bad_points.ensures,
      ← c.bad_materials_for.ensures,
      ← c.bad_lighting.ensures,
      ← c.bad_lamps.ensures,
      ← c.not_accepted.ensures,
      ← c.bad_progress.ensures,
      ← c.below_cost.ensures,
      ← c.bad_contents.ensures,
    )
    (search refusals depth 26)

pub returns : goal.returns
unfolding bake_refusal bake_rows wrong_bake_lists
returns c =
    rw (
      ← c.bad_axes.ensures,
      ← c.bad_grid.ensures,
      ← c.voxel_count-n.ensures,
      ← c.wrong_scene-scene.ensures,
      ← c.wrong_lengths-lengths.ensures,
      ← c.too_many.ensures,
      ← c.bad_points.ensures,
      ← c.bad_materials_for.ensures,
      ← c.bad_lighting.ensures,
      ← c.bad_lamps.ensures,
      ← c.not_accepted.ensures,
      ← c.bad_progress.ensures,
      ← c.below_cost.ensures,
      ← c.bad_contents.ensures,
    )
    (search refusals depth 26)
