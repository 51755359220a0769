-- The tests that have passed show that the lists fit each other and that the axes are within the limits.
use mathlib.Core.Path.{sym, ◌∙◌}
use Rattle.limits.specs.LimitsLaws.{axes_row, sound}
use Rattle.replay_fired.proofs.listed.Goals as goal

pub invariant_of-bake : goal.invariant_of-bake
invariant_of-bake c = record {
  sound = sound _ (sym c.wrong_scene.ensures ∙ c.if-wrong_scene.false) (sym c.too_many.ensures ∙ c.if-too_many.false) (sym c.bad_materials_for.ensures ∙ c.if-bad_materials_for.false);
  axes_within = (axes_row _).0 (sym c.bad_axes.ensures ∙ c.if-bad_axes.false);
}
