-- Row 16 passes exactly when the tree that the scene comes with is accepted; a scene without one always passes.
use Rattle.std.specs.Prelude.{◌≡◌, refl, Bool, true, false, not, ◌&&◌, List, ◌↔◌, ℕ, ◌/◌, ◌≤◌, length, Float}
use Rattle.std.proofs.Common.{sym, arith}
use Rattle.std.proofs.lemmas.Bool.{false≢true}
use Rattle.names.specs.Numbers.{triangle_limit}
use Rattle.names.specs.Scene.{Scene, Sound, tree_scene}
use Rattle.tree.specs.Tree.{AcceptedTree}
use Rattle.tree.specs.Test.{accepted_by}
use Rattle.tree.proofs.TreeLaws.{accepted_exactly}
use Rattle.tree.specs.Trees.{not_accepted, bad_tree, TreeStands}

-- a scene whose lists fit each other has no more triangles than the limit
pub few_triangles : (scene : Scene) → Sound scene → length scene.points / 9 ≤ triangle_limit
few_triangles scene s = omega (arith, s.points, s.triangles)

pub tree_row : (scene : Scene) → length scene.points / 9 ≤ triangle_limit → (bad_tree scene ≡ false) ↔ TreeStands scene
unfolding not_accepted
tree_row scene few = (
  λ e b. exactly.0 (passed scene.boxed (accepted_by scene.points scene.boxes scene.nodes scene.order) e b),
  λ f. stands scene.boxed (accepted_by scene.points scene.boxes scene.nodes scene.order) (λ b. exactly.1 (f b)),
)
  where
    exactly : (accepted_by scene.points scene.boxes scene.nodes scene.order ≡ true) ↔ AcceptedTree scene.points scene.boxes scene.nodes scene.order
    exactly = accepted_exactly scene.points scene.boxes scene.nodes scene.order few

    passed : (a b : Bool) → a && not b ≡ false → a ≡ true → b ≡ true
    passed true true e h = refl
    passed true false e h = absurd (false≢true (sym e))
    passed false b e h = absurd (false≢true h)

    stands : (a b : Bool) → (a ≡ true → b ≡ true) → a && not b ≡ false
    stands true true h = refl
    stands true false h = absurd (false≢true (h refl))
    stands false b h = refl

-- of a scene whose lists fit each other
pub sound_tree : (scene : Scene) → Sound scene → bad_tree scene ≡ false → TreeStands scene
sound_tree scene s e = (tree_row scene (few_triangles scene s)).0 e

-- a scene without a tree passes
pub treeless_row : (scene : Scene) → scene.boxed ≡ false → bad_tree scene ≡ false
unfolding not_accepted
treeless_row scene e = rw e refl

-- of one with a tree the row holds exactly when the tree is not accepted
pub refused_row : (points : List Float) (uses kinds : List ℕ) (numbers boxes : List Float) (nodes order : List ℕ)
    → length points / 9 ≤ triangle_limit → (bad_tree (tree_scene points uses kinds numbers boxes nodes order) ≡ true) ↔ (AcceptedTree points boxes nodes order → ⊥)
unfolding not_accepted
refused_row points uses kinds numbers boxes nodes order few = (
  λ e a. by (accepted_by points boxes nodes order) e ((accepted_exactly points boxes nodes order few).1 a),
  λ f. not_so (accepted_by points boxes nodes order) (λ e. f ((accepted_exactly points boxes nodes order few).0 e)),
)
  where
    by : (b : Bool) → not b ≡ true → b ≡ true → ⊥
    by true e h = false≢true e
    by false e h = false≢true h

    not_so : (b : Bool) → (b ≡ true → ⊥) → not b ≡ true
    not_so true f = absurd (f refl)
    not_so false f = refl
