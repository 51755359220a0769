-- How the code tests a tree: box by box, with two lists of marks, and then triangle by triangle. Of a box its depth plus 1 is marked, and 0 where no parent was
-- seen yet; of a triangle 1 once it was seen. Each box is asked whether it is bad, with the marks of the boxes before it. Assumes nothing.
use Rattle.std.specs.Prelude.{◌≡◌, Bool, cond, not, ◌&&◌, ◌||◌, List, ℕ, zero, suc, ◌+◌, ◌-◌, ◌*◌, ◌/◌, ◌≤◌, eqb, ltb, leb, length, get_or, set, replicate, Float}
use Rattle.names.specs.Numbers.{depth_limit, triangle_limit}
use Rattle.lists.specs.Any.{any}
use Rattle.triangle.specs.Places.{triangle_at}
use Rattle.boxes.specs.declared.Bounds.{Bounds}
use Rattle.boxes.specs.Boxes.{bounds_at, padded_of, inside_of}
use Rattle.tree.specs.Tree.{box_count, count_at, inner_at, left_at, right_at, first_at, place_at, present_at}

-- every leaf holds a triangle of its own, so an accepted tree has fewer boxes than twice the triangles
abbrev pub box_limit : ℕ
box_limit = triangle_limit * 2 - 1

-- ---- the marks

-- the halves of box i, one deeper than it
unfoldable pub mark_pair : List ℕ → ℕ → List ℕ → List ℕ
mark_pair nodes i depths = set (set depths (left_at nodes i) (get_or depths i 0 + 1)) (right_at nodes i) (get_or depths i 0 + 1)

abbrev pub mark_box : List ℕ → ℕ → List ℕ → List ℕ
mark_box nodes i depths = cond (inner_at nodes i) (mark_pair nodes i depths) depths

-- after m boxes
unfoldable pub depths_to : List ℕ → List ℕ → ℕ → List ℕ
depths_to nodes depths zero = depths
depths_to nodes depths (suc m) = mark_box nodes m (depths_to nodes depths m)

-- the first m triangles of leaf i
unfoldable pub see_run : List ℕ → List ℕ → ℕ → ℕ → List ℕ → List ℕ
see_run nodes order i zero seen = seen
see_run nodes order i (suc m) seen = set (see_run nodes order i m seen) (place_at nodes order i m) 1

abbrev pub see_box : List ℕ → List ℕ → ℕ → List ℕ → List ℕ
see_box nodes order i seen = cond (inner_at nodes i) seen (see_run nodes order i (count_at nodes i) seen)

unfoldable pub seen_to : List ℕ → List ℕ → List ℕ → ℕ → List ℕ
seen_to nodes order seen zero = seen
seen_to nodes order seen (suc m) = see_box nodes order m (seen_to nodes order seen m)

-- ---- what is bad

-- half h of box i, of n boxes: it does not follow, it is past the list, it has a parent, or it does not lie inside
unfoldable pub bad_half : List Float → ℕ → List ℕ → ℕ → ℕ → Bool
bad_half boxes n depths i h = leb h i || leb n h || not (eqb (get_or depths h 0) 0) || not (inside_of (bounds_at boxes h) (bounds_at boxes i))

unfoldable pub bad_pair : List Float → List ℕ → ℕ → List ℕ → Bool
bad_pair boxes nodes i depths =
    bad_half boxes (box_count nodes) depths i (left_at nodes i)
    || bad_half boxes (box_count nodes) depths i (right_at nodes i)
    || eqb (left_at nodes i) (right_at nodes i)
    || ltb depth_limit (get_or depths i 0)

-- triangle p in a leaf's box: it is not present, it was seen, or it does not lie inside
unfoldable pub bad_place : List Float → Bounds → List ℕ → ℕ → Bool
bad_place points b seen p = not (present_at points p) || not (eqb (get_or seen p 0) 0) || not (inside_of (padded_of (triangle_at points p)) b)

abbrev pub bad_place_at : List Float → List Float → List ℕ → List ℕ → ℕ → List ℕ → ℕ → Bool
bad_place_at points boxes nodes order i seen k = bad_place points (bounds_at boxes i) (see_run nodes order i k seen) (place_at nodes order i k)

unfoldable pub bad_run : List Float → List Float → List ℕ → List ℕ → ℕ → List ℕ → Bool
bad_run points boxes nodes order i seen =
    ltb (length order) (first_at nodes i + count_at nodes i) || any (bad_place_at points boxes nodes order i seen) (count_at nodes i) 0

-- box i has no parent, or its halves or its triangles are bad
unfoldable pub bad_box : List Float → List Float → List ℕ → List ℕ → ℕ → List ℕ → List ℕ → Bool
bad_box points boxes nodes order i depths seen =
    eqb (get_or depths i 0) 0 || cond (inner_at nodes i) (bad_pair boxes nodes i depths) (bad_run points boxes nodes order i seen)

abbrev pub bad_box_at : List Float → List Float → List ℕ → List ℕ → List ℕ → List ℕ → ℕ → Bool
bad_box_at points boxes nodes order depths seen i = bad_box points boxes nodes order i (depths_to nodes depths i) (seen_to nodes order seen i)

-- a present triangle that was not seen
unfoldable pub missed : List Float → List ℕ → ℕ → Bool
missed points seen p = present_at points p && eqb (get_or seen p 0) 0

unfoldable pub wrong_lists : List Float → List Float → List ℕ → List ℕ → Bool
wrong_lists points boxes nodes order =
    not (eqb (length nodes) (box_count nodes * 3)) || not (eqb (length boxes) (box_count nodes * 6)) || ltb (length points / 9) (length order)

-- ---- the test

-- no box but the first has a parent yet, and no triangle was seen
unfoldable pub first_depths : List ℕ
first_depths = set (replicate box_limit 0) 0 1

unfoldable pub none_seen : List ℕ
none_seen = replicate triangle_limit 0

unfoldable pub accepted_by : List Float → List Float → List ℕ → List ℕ → Bool
accepted_by points boxes nodes order =
    not
    (ltb box_limit (box_count nodes)
    || wrong_lists points boxes nodes order
    || any (bad_box_at points boxes nodes order first_depths none_seen) (box_count nodes) 0
    || any (missed points (seen_to nodes order none_seen (box_count nodes))) (length points / 9) 0)

-- what the steps of the test ask of the lists: they fit each other, and there is a mark for each box and each triangle
pub record TestFit (points boxes : List Float) (nodes depths seen : List ℕ) : Type 0 where
  pub nodes_fit : length nodes ≡ box_count nodes * 3
  pub boxes_fit : length boxes ≡ box_count nodes * 6
  pub depths_fit : box_count nodes ≤ length depths
  pub seen_fit : length points / 9 ≤ length seen
