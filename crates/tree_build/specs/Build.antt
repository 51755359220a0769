-- The public call that builds a scene's tree. The tree stands at the front of the three lists, and what stands behind it stays.
use Rattle.std.specs.Prelude.{◌≡◌, Bool, not, ◌||◌, List, [], ◌∷◌, ◌++◌, ℕ, ◌*◌, ◌/◌, ◌%◌, ◌<◌, eqb, ltb, length, drop, Result, Ok, Err, Float}
use Rattle.std.specs.Float.{nan}
use Rattle.names.specs.declared.refusal.Refusal.{Refusal}
use Rattle.names.specs.Answers.{number_of}
use Rattle.names.specs.Refusals.{Row, row, first_of, unless_refused}
use Rattle.limits.specs.Limits.{too_many_triangles, bad_points}
use Rattle.tree_order.specs.Order.{order_of}
use Rattle.tree_build.specs.declared.TreeSize.{TreeSize}
use Rattle.tree_build.specs.declared.TreeBuilt.{TreeBuilt}
use Rattle.tree_build.specs.Built.{Built, boxes_for, KeptBeside}

-- the points are not nine for each triangle, or there is no room for as many boxes and places as there are triangles
unfoldable pub wrong_build : ℕ → ℕ → ℕ → ℕ → Bool
wrong_build points boxes nodes order =
    not (eqb (points % 9) 0) || ltb boxes (points / 9 * 6) || ltb nodes (points / 9 * 3) || ltb order (points / 9)

abbrev pub build_rows : List Float → ℕ → ℕ → ℕ → List Row
build_rows points boxes nodes order =
    row 3 (wrong_build (length points) boxes nodes order) ∷ row 4 (too_many_triangles (length points / 9)) ∷ row 5 (bad_points points) ∷ []

unfoldable pub build_refusal : List Float → ℕ → ℕ → ℕ → ℕ
build_refusal points boxes nodes order = first_of (build_rows points boxes nodes order)

-- how many boxes and places the tree has; a refused call counts none
unfoldable pub built_of : List Float → ℕ → ℕ → ℕ → TreeBuilt
built_of points boxes nodes order =
    record {
      refusal = build_refusal points boxes nodes order;
      boxes = unless_refused (build_refusal points boxes nodes order) (boxes_for (length (order_of points))) 0;
      places = unless_refused (build_refusal points boxes nodes order) (length (order_of points)) 0;
    }

-- a call's answer as C is told it
abbrev pub built_from : Result TreeSize Refusal → TreeBuilt
built_from (Ok size) = record { refusal = 0; boxes = size.boxes; places = size.places }
built_from (Err r) = record { refusal = number_of r; boxes = 0; places = 0 }

-- the order, and the boxes of the run of all its places, at the front of the lists; behind them, and so everywhere in a refused call's lists, nothing changed
pub record BuildAnswered (points boxes : List Float) (nodes order : List ℕ) (r : TreeBuilt) (boxes' : List Float) (nodes' order' : List ℕ) : Type 0 where
  pub answer : r ≡ built_of points (length boxes) (length nodes) (length order)
  pub order_after : order' ≡ unless_refused r.refusal (order_of points ++ drop r.places order) order
  pub tree : 0 < r.places → Built points boxes' nodes' order' 0 0 r.places r.boxes
  pub boxes_kept_is : KeptBeside nan boxes boxes' 0 (r.boxes * 6)
  pub nodes_kept_is : KeptBeside 0 nodes nodes' 0 (r.boxes * 3)
