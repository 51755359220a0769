-- The tree that a scene comes with: when it is refused, and what stands once it is not. A scene without one has none to refuse. Definitions only.
use Rattle.std.specs.Prelude.{◌≡◌, Bool, true, not, ◌&&◌, List, ℕ, Float}
use Rattle.names.specs.Scene.{Scene}
use Rattle.tree.specs.Tree.{AcceptedTree}
use Rattle.tree.specs.Test.{accepted_by}

-- "16, tree not accepted"
unfoldable pub not_accepted : Bool → List Float → List Float → List ℕ → List ℕ → Bool
not_accepted boxed points boxes nodes order = boxed && not (accepted_by points boxes nodes order)

abbrev pub bad_tree : Scene → Bool
bad_tree scene = not_accepted scene.boxed scene.points scene.boxes scene.nodes scene.order

abbrev pub TreeStands : Scene → Type 0
TreeStands scene = scene.boxed ≡ true → AcceptedTree scene.points scene.boxes scene.nodes scene.order
