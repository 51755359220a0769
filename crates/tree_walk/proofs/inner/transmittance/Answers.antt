-- `tree_walk::inner::transmittance` meets its contract: it walks from the root, puts what came in order and takes the product; in an accepted tree that is the transmittance over the boxed triangles
-- (`listed_collected`).
use mathlib.Core.Path.{sym, ◌∙◌}
use lib.Seq.{length-take-le}
use Rattle.names.specs.Scene.{tree_scene}
use Rattle.tree_walk.proofs.WalkLaws.{accepted_fits}
use Rattle.tree_walk.proofs.Came.{root_fits, empty_passes, root_dark, root_numbers, root_below, root_passes}
use Rattle.tree_walk.proofs.inner.transmittance.Goals as goal

pub returns-then-nodes-eq0 : goal.returns-then-nodes-eq0
returns-then-nodes-eq0 c = empty_passes (tree_scene _ _ _ _ _ _ _) c.requires.sound _ _ _ c.requires.accepted_tree _ c.if-nodes-eq0.true

pub node_collect-requires-clause-tree_fits : goal.node_collect-requires-clause-tree_fits
node_collect-requires-clause-tree_fits c = accepted_fits (tree_scene _ _ _ _ _ _ _) c.requires.sound _ _ _ c.requires.accepted_tree _ c.requires.turned

pub node_collect-requires-clause-room_for : goal.node_collect-requires-clause-room_for
node_collect-requires-clause-room_for c = root_fits (tree_scene _ _ _ _ _ _ _) c.requires.sound _ _ _ c.requires.accepted_tree c.if-nodes-eq0.false _ _ c.requires.hits_fit

pub returns-in_default : goal.returns-in_default
returns-in_default c = root_dark (tree_scene _ _ _ _ _ _ _) c.requires.sound _ _ _ c.requires.accepted_tree _ c.if-nodes-eq0.false c.args.distances.now c.args.places.now c.in_default.ensures.0

pub passing-requires-clause-distances_len : goal.passing-requires-clause-distances_len
passing-requires-clause-distances_len c =
    let n = c.node_collect in
    let m = c.in-Some.ensures in (
      length-take-le _ _ (rw n.auto.distances m.1.1) ∙ sym (length-take-le _ _ (rw n.auto.places m.1.2)),
      root_numbers (tree_scene _ _ _ _ _ _ _) c.requires.sound _ _ _ c.requires.accepted_tree _ c.if-nodes-eq0.false c.args.distances.now c.args.places.now _ m.0,
    )

pub passing-requires-clause-by_index_2 : goal.passing-requires-clause-by_index_2
passing-requires-clause-by_index_2 c = root_below (tree_scene _ _ _ _ _ _ _) c.requires.sound _ _ _ c.requires.accepted_tree _ c.if-nodes-eq0.false c.args.distances.now c.args.places.now _ c.in-Some.ensures.0

pub returns : goal.returns
returns c = c.passing.ensures ∙ root_passes (tree_scene _ _ _ _ _ _ _) c.requires.sound _ _ _ c.requires.accepted_tree _ c.if-nodes-eq0.false c.args.distances.now c.args.places.now _ c.in-Some.ensures.0
