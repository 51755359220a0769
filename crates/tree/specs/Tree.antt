-- A box tree over the triangles of a scene, and when it is accepted. Three lists: boxes, six numbers a box; nodes, three whole numbers a box: 0 and its two
-- halves, or how many triangles stand in it, a leaf, and where their run begins in the third list; order, places of triangles. The first box is the root.
use Rattle.std.specs.Prelude.{◌≡◌, Bool, true, false, cond, not, ◌&&◌, List, ◌↔◌, ℕ, zero, suc, ◌+◌, ◌*◌, ◌/◌, ◌≤◌, ◌<◌, eqb, ltb, length, get_or, Float}
use Rattle.names.specs.Numbers.{depth_limit}
use Rattle.triangle.specs.Meet.{absent_of}
use Rattle.triangle.specs.Places.{triangle_at}
use Rattle.boxes.specs.Boxes.{bounds_at, padded_of, inside_of}

-- ---- what the lists hold

abbrev pub box_count : List ℕ → ℕ
box_count nodes = length nodes / 3

-- how many triangles stand in box i; 0 for an inner box
unfoldable pub count_at : List ℕ → ℕ → ℕ
count_at nodes i = get_or nodes (i * 3) 0

abbrev pub inner_at : List ℕ → ℕ → Bool
inner_at nodes i = eqb (count_at nodes i) 0

-- the two halves of an inner box
unfoldable pub left_at : List ℕ → ℕ → ℕ
left_at nodes i = get_or nodes (i * 3 + 1) 0

unfoldable pub right_at : List ℕ → ℕ → ℕ
right_at nodes i = get_or nodes (i * 3 + 2) 0

-- where a leaf's run begins, and its k th triangle
abbrev pub first_at : List ℕ → ℕ → ℕ
first_at nodes i = left_at nodes i

unfoldable pub place_at : List ℕ → List ℕ → ℕ → ℕ → ℕ
place_at nodes order i k = get_or order (first_at nodes i + k) 0

-- a place of the scene's list whose triangle is not absent
unfoldable pub present_at : List Float → ℕ → Bool
present_at points p = ltb p (length points / 9) && not (absent_of (triangle_at points p))

-- ---- what is counted

abbrev pub sum_to : (ℕ → ℕ) → ℕ → ℕ
sum_to f zero = 0
sum_to f (suc m) = sum_to f m + f m

abbrev pub one : Bool → ℕ
one true = 1
one false = 0

-- how many of the halves of the first m boxes box j is: how many parents it has among them; who is both halves of a box has two
abbrev pub halves_of : List ℕ → ℕ → ℕ → ℕ
halves_of nodes j i = cond (inner_at nodes i) (one (eqb (left_at nodes i) j) + one (eqb (right_at nodes i) j)) 0

unfoldable pub parents_to : List ℕ → ℕ → ℕ → ℕ
parents_to nodes m j = sum_to (halves_of nodes j) m

-- how often triangle p stands among the first m of leaf i, and in the leaves among the first m boxes
unfoldable pub run_to : List ℕ → List ℕ → ℕ → ℕ → ℕ → ℕ
run_to nodes order i m p = sum_to (λ k. one (eqb (place_at nodes order i k) p)) m

abbrev pub leaf_of : List ℕ → List ℕ → ℕ → ℕ → ℕ
leaf_of nodes order p i = cond (inner_at nodes i) 0 (run_to nodes order i (count_at nodes i) p)

unfoldable pub stands_to : List ℕ → List ℕ → ℕ → ℕ → ℕ
stands_to nodes order m p = sum_to (leaf_of nodes order p) m

-- box i has d boxes above it
pub data Deep (nodes : List ℕ) : ℕ → ℕ → Type 0 where
  root : Deep nodes 0 0
  left : {i d : ℕ} → i < box_count nodes → inner_at nodes i ≡ true → Deep nodes i d → Deep nodes (left_at nodes i) (suc d)
  right : {i d : ℕ} → i < box_count nodes → inner_at nodes i ≡ true → Deep nodes i d → Deep nodes (right_at nodes i) (suc d)

-- ---- accepted

-- "Accept such a tree exactly when each box but the first has exactly one parent, every present triangle stands once, in a single leaf, each triangle's box
-- padded by 1e-5 lies inside its leaf's, each box inside the one above, children follow their parent, and depth is at most 24." "A scene with no present
-- triangle has the empty tree, accepted there only."
pub record AcceptedTree (points boxes : List Float) (nodes order : List ℕ) : Type 0 where
  -- the lists fit each other
  pub nodes_fit : length nodes ≡ box_count nodes * 3
  pub boxes_fit : length boxes ≡ box_count nodes * 6
  -- the order is no longer than the triangles are many
  pub order_fits : length order ≤ length points / 9
  pub one_parent : (j : ℕ) → 0 < j → j < box_count nodes → parents_to nodes (box_count nodes) j ≡ 1
  pub stands_once : (p : ℕ) → present_at points p ≡ true → stands_to nodes order (box_count nodes) p ≡ 1
  -- an absent triangle, or a place past the list, stands nowhere
  pub others_nowhere : (p : ℕ) → present_at points p ≡ false → stands_to nodes order (box_count nodes) p ≡ 0
  pub inside_leaf : (i k : ℕ) → i < box_count nodes → inner_at nodes i ≡ false → k < count_at nodes i
      → inside_of (padded_of (triangle_at points (place_at nodes order i k))) (bounds_at boxes i) ≡ true
  pub inside_above : (i : ℕ) → i < box_count nodes → inner_at nodes i ≡ true
      → (inside_of (bounds_at boxes (left_at nodes i)) (bounds_at boxes i) ≡ true) × (inside_of (bounds_at boxes (right_at nodes i)) (bounds_at boxes i) ≡ true)
  pub left_follows : (i : ℕ) → i < box_count nodes → inner_at nodes i ≡ true → (i < left_at nodes i) × (left_at nodes i < box_count nodes)
  pub right_follows : (i : ℕ) → i < box_count nodes → inner_at nodes i ≡ true → (i < right_at nodes i) × (right_at nodes i < box_count nodes)
  -- a leaf's run lies inside the order
  pub run_fits : (i : ℕ) → i < box_count nodes → inner_at nodes i ≡ false → first_at nodes i + count_at nodes i ≤ length order
  pub shallow : (i d : ℕ) → Deep nodes i d → d ≤ depth_limit
  pub empty_there_only : (box_count nodes ≡ 0) ↔ ((p : ℕ) → present_at points p ≡ false)
