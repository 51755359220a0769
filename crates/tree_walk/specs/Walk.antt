-- The walk through a box tree. "Rules for a box and for its two halves refer to each other down to the leaves": a box that is passed over is left out whole;
-- of an inner box its two halves are visited, the left one first; of a leaf its triangles, one after another. A visit takes what is held and says what is held after
-- it, so one walk serves for the nearest hit and for the hits; `step` says what a triangle adds.
use Rattle.std.specs.Prelude.{Option, None, ◌≡◌, true, false, cond, List, [], ℕ, zero, suc, ◌+◌, ◌*◌, ◌≤◌, ◌<◌, eqb, length, get_or, Float}
use Rattle.names.specs.Numbers.{depth_limit}
use Rattle.names.specs.Scene.{Scene}
use Rattle.vectors.specs.declared.Ray.{Ray}
use Rattle.hits.specs.Hits.{Struck}
use Rattle.scan.specs.declared.PlacedHit.{PlacedHit}
use Rattle.boxes.specs.Boxes.{bounds_at, passed_over}
use Rattle.tree.specs.Tree.{box_count, count_at, inner_at, left_at, right_at, first_at, place_at}
use Rattle.tree_walk.specs.Boxed.{nearest_step, hits_step, pass_hits}
use Rattle.tree_walk.specs.Turned.{Turned}

module _ {S : Type 0} (step : S → ℕ → S) where
  -- the first k triangles of leaf i, in its run's order
  unfoldable pub run_visit : List ℕ → List ℕ → ℕ → ℕ → S → S
  run_visit nodes order i zero held = held
  run_visit nodes order i (suc k) held = step (run_visit nodes order i k held) (place_at nodes order i k)

  -- box i, with so many levels left
  unfoldable pub node_visit : Ray → List Float → List ℕ → List ℕ → ℕ → ℕ → S → S
  node_visit ray boxes nodes order zero i held = held
  node_visit ray boxes nodes order (suc levels) i held =
      cond (passed_over ray.origin ray.direction (bounds_at boxes i)) held
      (cond (inner_at nodes i)
      (node_visit ray boxes nodes order levels (right_at nodes i) (node_visit ray boxes nodes order levels (left_at nodes i) held))
      (run_visit nodes order i (count_at nodes i) held))

  -- two halves: what an inner box comes to
  unfoldable pub pair_visit : Ray → List Float → List ℕ → List ℕ → ℕ → ℕ → ℕ → S → S
  pair_visit ray boxes nodes order levels l r held = node_visit ray boxes nodes order levels r (node_visit ray boxes nodes order levels l held)

  -- the whole tree, from the root: with a depth of at most 24 there are 25 levels; the empty tree has no root
  unfoldable pub tree_visit : Ray → List Float → List ℕ → List ℕ → S → S
  tree_visit ray boxes nodes order held = cond (eqb (box_count nodes) 0) held (node_visit ray boxes nodes order (suc depth_limit) 0 held)

-- ---- of a scene

unfoldable pub nearest_through : Scene → List Float → List ℕ → List ℕ → Ray → Option PlacedHit
nearest_through scene boxes nodes order ray = tree_visit (nearest_step scene.points scene.uses scene.kinds ray) ray boxes nodes order None

unfoldable pub hits_through : Scene → List Float → List ℕ → List ℕ → Ray → List Struck
hits_through scene boxes nodes order ray = tree_visit (hits_step scene.points scene.uses scene.kinds ray) ray boxes nodes order []

unfoldable pub transmittance_through : Scene → List Float → List ℕ → List ℕ → Ray → Float
transmittance_through scene boxes nodes order ray = pass_hits scene (hits_through scene boxes nodes order ray)

-- ---- what a walk needs to stay within the lists; an accepted tree of a sound scene has it (`accepted_fits`)
pub record TreeFits (points : List Float) (uses kinds : List ℕ) (boxes : List Float) (nodes order : List ℕ) (turned : List Float) : Type 0 where
  pub points_fit : length points ≡ length uses * 9
  pub use_fits : (p : ℕ) → p < length uses → get_or uses p 0 < length kinds
  pub boxes_fit : length boxes ≡ box_count nodes * 6
  pub left_fits : (i : ℕ) → i < box_count nodes → inner_at nodes i ≡ true → left_at nodes i < box_count nodes
  pub right_fits : (i : ℕ) → i < box_count nodes → inner_at nodes i ≡ true → right_at nodes i < box_count nodes
  pub run_fits : (i : ℕ) → i < box_count nodes → inner_at nodes i ≡ false → first_at nodes i + count_at nodes i ≤ length order
  pub place_fits : (i k : ℕ) → i < box_count nodes → inner_at nodes i ≡ false → k < count_at nodes i → place_at nodes order i k < length uses
  pub turned_fits : Turned points order turned
