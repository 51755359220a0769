-- `tree_walk::inner::nearest` meets its contract: it walks from the root, and in an accepted tree the walk is the boxed scan (`walk_nearest`).
use mathlib.Core.Path.{◌≡◌, ◌∙◌}
use mathlib.Core.List.{List}
use Prim.Native.Nat.{ℕ, suc}
use borrow.Author.Tests.{eq-eqb, ne_eqb}
use lib.Ieee.{Float}
use Rattle.names.specs.Numbers.{depth_limit}
use Rattle.names.specs.Scene.{Scene, Sound, tree_scene}
use Rattle.vectors.specs.declared.Ray.{Ray}
use Rattle.std.specs.Prelude.{None}
use Rattle.tree.specs.Tree.{box_count, AcceptedTree}
use Rattle.tree_walk.specs.Boxed.{nearest_step, nearest_boxed}
use Rattle.tree_walk.specs.Walk.{node_visit, tree_visit, nearest_through}
use Rattle.tree_walk.proofs.WalkLaws.{accepted_fits, walk_nearest}
use Rattle.tree_walk.proofs.inner.nearest.Goals as goal

module _ (scene : Scene) (sound : Sound scene) (boxes : List Float) (nodes order : List ℕ) (t : AcceptedTree scene.points boxes nodes order) (ray : Ray) where
  empty_tree : box_count nodes ≡ 0 → None ≡ nearest_boxed scene ray
  unfolding nearest_through tree_visit
  empty_tree e = rw (eq-eqb (box_count nodes) 0 e) at (walk_nearest scene sound boxes nodes order t ray)

  from_root : (box_count nodes ≡ 0 → ⊥)
      → node_visit (nearest_step scene.points scene.uses scene.kinds ray) ray boxes nodes order (suc depth_limit) 0 None ≡ nearest_boxed scene ray
  unfolding nearest_through tree_visit
  from_root e = rw (ne_eqb (box_count nodes) 0 e) at (walk_nearest scene sound boxes nodes order t ray)

pub returns-then-nodes-eq0 : goal.returns-then-nodes-eq0
returns-then-nodes-eq0 c = empty_tree (tree_scene _ _ _ _ _ _ _) c.requires.sound _ _ _ c.requires.accepted_tree _ c.if-nodes-eq0.true

pub node_visit-requires-clause-tree_fits : goal.node_visit-requires-clause-tree_fits
node_visit-requires-clause-tree_fits c = accepted_fits (tree_scene _ _ _ _ _ _ _) c.requires.sound _ _ _ c.requires.accepted_tree _ c.requires.turned

pub returns : goal.returns
returns c = c.node_visit.ensures ∙ from_root (tree_scene _ _ _ _ _ _ _) c.requires.sound _ _ _ c.requires.accepted_tree _ c.if-nodes-eq0.false
