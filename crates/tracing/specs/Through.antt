-- What the scans of a scene ask besides that its lists fit each other. Definitions only.
use Rattle.std.specs.Prelude.{◌≡◌, true, List, Float}
use Rattle.names.specs.Scene.{Scene}
use Rattle.tree.specs.Tree.{box_count}
use Rattle.tree_rows.specs.Rows.{Rowed}

-- where it comes with a box tree, that stands in rows
abbrev pub Through : Scene → List Float → Type 0
Through scene rows = scene.boxed ≡ true → Rowed scene.points scene.order (box_count scene.nodes) rows
