-- `rays::scene_refusal` meets its contract: the first test that holds gives its row's number. The tree is asked once rows 3 and 4 have passed.
use mathlib.Core.Path.{sym, ◌∙◌}
use Rattle.names.specs.Refusals.{refusals}
use Rattle.limits.specs.LimitsLaws.{few_points}
use Rattle.rays.proofs.scene_refusal.Goals as goal

pub returns-then-wrong : goal.returns-then-wrong
returns-then-wrong c = search refusals depth 6

pub returns-then-too_many : goal.returns-then-too_many
returns-then-too_many c =
    rw (← c.too_many.ensures)
    (search refusals depth 14)

pub returns-then-bad_points : goal.returns-then-bad_points
returns-then-bad_points c =
    rw (← c.too_many.ensures, ← c.bad_points.ensures)
    (search refusals depth 14)

pub returns-then-bad_materials_for : goal.returns-then-bad_materials_for
returns-then-bad_materials_for c =
    rw (← c.too_many.ensures, ← c.bad_points.ensures, ← c.bad_materials_for.ensures)
    (search refusals depth 14)

pub not_accepted-requires : goal.not_accepted-requires
not_accepted-requires c =
    few_points _ _ _ _ (c.requires c.if-wrong.false) (sym c.too_many.ensures ∙ c.if-too_many.false)

pub returns-then-not_accepted : goal.returns-then-not_accepted
returns-then-not_accepted c =
    rw (← c.too_many.ensures, ← c.bad_points.ensures, ← c.bad_materials_for.ensures, ← c.not_accepted.ensures)
    (search refusals depth 14)

pub returns-then-bad_ray : goal.returns-then-bad_ray
returns-then-bad_ray c =
    rw (← c.too_many.ensures, ← c.bad_points.ensures, ← c.bad_materials_for.ensures, ← c.not_accepted.ensures, ← c.bad_ray.ensures)
    (search refusals depth 14)

pub returns : goal.returns
returns c =
    rw (← c.too_many.ensures, ← c.bad_points.ensures, ← c.bad_materials_for.ensures, ← c.not_accepted.ensures, ← c.bad_ray.ensures)
    (search refusals depth 14)
