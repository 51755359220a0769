-- What the laws of proofs/CollectLaws.antt are said with. Definitions only.
use mathlib.Core.List.{List, []}
use Prim.Native.Nat.{ℕ}
use Rattle.names.specs.Scene.{Scene}
use Rattle.vectors.specs.declared.Ray.{Ray}
use Rattle.tree_walk.specs.FoldLaws.{fold_of}
use Rattle.tree_walk.specs.Collect.{Collected, came, collect_step}

-- ---- of a list in which each present triangle stands once

abbrev pub collected_over : Scene → Ray → List ℕ → Collected
collected_over scene ray = fold_of (collect_step scene.points scene.uses scene.kinds ray) (came [])
