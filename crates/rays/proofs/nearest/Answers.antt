-- `rays::nearest` meets its contract: the rows that passed show that the lists fit each other, and the scan answers; a refused call answers its
-- number.
use Rattle.names.specs.Scene.{scene_of}
use Rattle.names.specs.Refusals.{kept, given}
use Rattle.rays.specs.Rays.{found_of}
use Rattle.rays.specs.RaysLaws.{nearest_answered}
use Rattle.rays.proofs.Judged.{nearest_judged, nearest_sound_of}
use Rattle.rays.proofs.nearest.Goals as goal

pub nearest-requires : goal.nearest-requires
nearest-requires c = (nearest_sound_of (scene_of _ _ _ _) _ _ _ c.wrong_scene-wrong.ensures c.scene_refusal-refusal.ensures c.if-refusal-eq0.true).0

pub returns-then-refusal-eq0 : goal.returns-then-refusal-eq0
unfolding found_of
returns-then-refusal-eq0 c =
    let judged = nearest_judged (scene_of c.args.points.now c.args.uses.now c.args.kinds.now c.args.numbers.now) c.args.ray _ _ c.wrong_scene-wrong.ensures c.scene_refusal-refusal.ensures in
    nearest_answered _ _ _ (rw (← judged, ← c.nearest.ensures, ← c.as_found.ensures) (given c.scene_refusal-refusal.result c.as_found.result _ c.if-refusal-eq0.true))

pub returns : goal.returns
unfolding found_of
returns c =
    let judged = nearest_judged (scene_of c.args.points.now c.args.uses.now c.args.kinds.now c.args.numbers.now) c.args.ray _ _ c.wrong_scene-wrong.ensures c.scene_refusal-refusal.ensures in
    nearest_answered _ _ _ (rw (← judged) (kept c.scene_refusal-refusal.result _ _ c.if-refusal-eq0.false))
