-- `rays::tree_transmittance` meets its contract: the rows that passed show that the lists fit each other, that the scratch lists are long enough and the tree is
-- accepted, and the walk answers; a refused call answers its number and leaves the scratch lists alone.
use mathlib.Core.Path.{refl, sym, ◌∙◌}
use native.Mathlib.Omega.{arith}
use Rattle.names.specs.Scene.{tree_scene}
use Rattle.names.specs.Refusals.{unless_refused, kept}
use Rattle.tree.proofs.TreesLaws.{few_triangles}
use Rattle.rays.proofs.Judged.{judged, ready_of}
use Rattle.rays.proofs.tree_transmittance.Goals as goal

-- the order is no longer than the triangles are many, and they are no more than the limit
pub turn-requires : goal.turn-requires
turn-requires c =
    let r = ready_of (tree_scene c.args.points.now c.args.uses.now c.args.kinds.now c.args.numbers.now c.args.boxes.now c.args.nodes.now c.args.order.now) c.args.ray _ _ c.wrong_scene-lists.ensures c.args.distances.now c.args.places.now _ c.short_hits.ensures c.scene_refusal-refusal.ensures c.if-refusal-eq0.true in
    let t = r.tree_stands refl in
    omega (arith, t.order_fits, few_triangles _ r.scene_fits)

pub transmittance-passed-requires-clause-sound : goal.transmittance-passed-requires-clause-sound
transmittance-passed-requires-clause-sound c = (ready_of (tree_scene c.args.points.now c.args.uses.now c.args.kinds.now c.args.numbers.now c.args.boxes.now c.args.nodes.now c.args.order.now) c.args.ray _ _ c.wrong_scene-lists.ensures c.args.distances.now c.args.places.now _ c.short_hits.ensures c.scene_refusal-refusal.ensures c.if-refusal-eq0.true).scene_fits

pub transmittance-passed-requires-clause-accepted_tree : goal.transmittance-passed-requires-clause-accepted_tree
transmittance-passed-requires-clause-accepted_tree c = (ready_of (tree_scene c.args.points.now c.args.uses.now c.args.kinds.now c.args.numbers.now c.args.boxes.now c.args.nodes.now c.args.order.now) c.args.ray _ _ c.wrong_scene-lists.ensures c.args.distances.now c.args.places.now _ c.short_hits.ensures c.scene_refusal-refusal.ensures c.if-refusal-eq0.true).tree_stands refl

pub transmittance-passed-requires-clause-hits_fit : goal.transmittance-passed-requires-clause-hits_fit
transmittance-passed-requires-clause-hits_fit c = (ready_of (tree_scene c.args.points.now c.args.uses.now c.args.kinds.now c.args.numbers.now c.args.boxes.now c.args.nodes.now c.args.order.now) c.args.ray _ _ c.wrong_scene-lists.ensures c.args.distances.now c.args.places.now _ c.short_hits.ensures c.scene_refusal-refusal.ensures c.if-refusal-eq0.true).hits_fit

pub returns-then-refusal-eq0 : goal.returns-then-refusal-eq0
unfolding unless_refused
returns-then-refusal-eq0 c =
    record {
      answer = sym c.if-refusal-eq0.true ∙ judged (tree_scene c.args.points.now c.args.uses.now c.args.kinds.now c.args.numbers.now c.args.boxes.now c.args.nodes.now c.args.order.now) c.args.ray _ _ c.wrong_scene-lists.ensures c.args.distances.now c.args.places.now _ c.short_hits.ensures c.scene_refusal-refusal.ensures;
      transmittance = c.transmittance-passed.ensures;
      distances_kept = λ n. absurd (n refl);
      places_kept = λ n. absurd (n refl);
      distances_long_is = c.transmittance-passed.auto.distances;
      places_long_lem = c.transmittance-passed.auto.places;
    }

pub returns : goal.returns
returns c =
    record {
      answer = judged (tree_scene c.args.points.now c.args.uses.now c.args.kinds.now c.args.numbers.now c.args.boxes.now c.args.nodes.now c.args.order.now) c.args.ray _ _ c.wrong_scene-lists.ensures c.args.distances.now c.args.places.now _ c.short_hits.ensures c.scene_refusal-refusal.ensures;
      transmittance = kept c.scene_refusal-refusal.result _ _ c.if-refusal-eq0.false;
      distances_kept = λ n. refl;
      places_kept = λ n. refl;
      distances_long_is = refl;
      places_long_lem = refl;
    }
