-- `row_walk::inner::transmittance` meets its contract: what the rows' triangles come to is put in order, and the product taken; that is the transmittance over the boxed triangles (`listed_collected`).
use mathlib.Core.Path.{sym, ◌∙◌}
use lib.Seq.{length-take-le}
use Rattle.names.specs.Scene.{tree_scene}
use Rattle.tree_walk.proofs.CollectLaws.{dark_passes, came_passes, came_numbers, came_below}
use Rattle.row_walk.proofs.inner.transmittance.Goals as goal

pub returns-in_default : goal.returns-in_default
returns-in_default c = dark_passes (tree_scene _ _ _ _ _ _ _) c.requires.sound _ c.requires.rowed.once _ c.in_default.ensures.0

pub passing-requires-clause-distances_len : goal.passing-requires-clause-distances_len
passing-requires-clause-distances_len c =
    let n = c.collect in
    let m = c.in-Some.ensures in (
      length-take-le _ _ (rw n.auto.distances m.1.1) ∙ sym (length-take-le _ _ (rw n.auto.places m.1.2)),
      came_numbers (tree_scene _ _ _ _ _ _ _) c.requires.sound _ c.requires.rowed.once _ _ m.0,
    )

pub passing-requires-clause-by_index_2 : goal.passing-requires-clause-by_index_2
passing-requires-clause-by_index_2 c = came_below (tree_scene _ _ _ _ _ _ _) c.requires.sound _ c.requires.rowed.once _ _ c.in-Some.ensures.0

pub returns : goal.returns
returns c = c.passing.ensures ∙ came_passes (tree_scene _ _ _ _ _ _ _) c.requires.sound _ c.requires.rowed.once _ _ c.in-Some.ensures.0
