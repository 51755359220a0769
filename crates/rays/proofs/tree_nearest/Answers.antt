-- `rays::tree_nearest` meets its contract: the rows that passed show that the lists fit each other and that the tree is accepted, and the walk answers; a refused
-- call answers its number.
use mathlib.Core.Path.{refl}
use native.Mathlib.Omega.{arith}
use Rattle.names.specs.Scene.{tree_scene}
use Rattle.names.specs.Refusals.{kept, given}
use Rattle.tree.proofs.TreesLaws.{few_triangles}
use Rattle.rays.specs.Rays.{found_of}
use Rattle.rays.specs.RaysLaws.{nearest_answered}
use Rattle.rays.proofs.Judged.{nearest_judged, nearest_sound_of}
use Rattle.rays.proofs.tree_nearest.Goals as goal

-- the order is no longer than the triangles are many, and they are no more than the limit
pub turn-requires : goal.turn-requires
turn-requires c =
    let k = nearest_sound_of (tree_scene c.args.points.now c.args.uses.now c.args.kinds.now c.args.numbers.now c.args.boxes.now c.args.nodes.now c.args.order.now) c.args.ray _ _ c.wrong_scene-wrong.ensures c.scene_refusal-refusal.ensures c.if-refusal-eq0.true in
    let t = k.1 refl in
    omega (arith, t.order_fits, few_triangles _ k.0)

pub nearest-requires-clause-sound : goal.nearest-requires-clause-sound
nearest-requires-clause-sound c = (nearest_sound_of (tree_scene _ _ _ _ _ _ _) _ _ _ c.wrong_scene-wrong.ensures c.scene_refusal-refusal.ensures c.if-refusal-eq0.true).0

pub nearest-requires-clause-accepted_tree : goal.nearest-requires-clause-accepted_tree
nearest-requires-clause-accepted_tree c = (nearest_sound_of (tree_scene c.args.points.now c.args.uses.now c.args.kinds.now c.args.numbers.now c.args.boxes.now c.args.nodes.now c.args.order.now) c.args.ray _ _ c.wrong_scene-wrong.ensures c.scene_refusal-refusal.ensures c.if-refusal-eq0.true).1 refl

pub returns-then-refusal-eq0 : goal.returns-then-refusal-eq0
unfolding found_of
returns-then-refusal-eq0 c =
    let judged = nearest_judged (tree_scene c.args.points.now c.args.uses.now c.args.kinds.now c.args.numbers.now c.args.boxes.now c.args.nodes.now c.args.order.now) c.args.ray _ _ c.wrong_scene-wrong.ensures c.scene_refusal-refusal.ensures in
    nearest_answered _ _ _ (rw (← judged, ← c.nearest.ensures, ← c.as_found.ensures) (given c.scene_refusal-refusal.result c.as_found.result _ c.if-refusal-eq0.true))

pub returns : goal.returns
unfolding found_of
returns c =
    let judged = nearest_judged (tree_scene c.args.points.now c.args.uses.now c.args.kinds.now c.args.numbers.now c.args.boxes.now c.args.nodes.now c.args.order.now) c.args.ray _ _ c.wrong_scene-wrong.ensures c.scene_refusal-refusal.ensures in
    nearest_answered _ _ _ (rw (← judged) (kept c.scene_refusal-refusal.result _ _ c.if-refusal-eq0.false))
