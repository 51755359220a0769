-- How a tree is laid out in rows: a box's own row, then the rows of its left half and of all inside that, then those of the right half. So what lies inside a box
-- stands in one piece behind its row, and the row after it all is known once both halves are written.
use Rattle.std.specs.Prelude.{◌≡◌, true, false, cond, List, ℕ, zero, suc, ◌+◌, ◌*◌, ◌<◌, eqb, length, set, Float}
use Rattle.names.specs.Bits.{lit}
use Rattle.names.specs.Numbers.{depth_limit}
use Rattle.vectors.specs.Vectors.{vec}
use Rattle.vectors.specs.declared.Vec3.{Vec3}
use Rattle.boxes.specs.Boxes.{bounds_at}
use Rattle.boxes.specs.declared.Bounds.{Bounds}
use Rattle.tree.specs.Tree.{box_count, count_at, inner_at, left_at, right_at, first_at}
use Rattle.tree_rows.specs.Rows.{row_start}

-- ---- one row

-- below 2^23 a whole number is no NaN's pattern, since no bit of the exponent is set
abbrev pub whole_limit : ℕ
whole_limit = 8388608

-- three numbers in the place of those from j on
unfoldable pub with_vec : List Float → ℕ → Vec3 → List Float
with_vec rows j v = set (set (set rows j v.x) (j + 1) v.y) (j + 2) v.z

-- row k: a box, the row after all inside it, where its run begins and how many triangles stand in it
unfoldable pub with_row : List Float → ℕ → Bounds → ℕ → ℕ → ℕ → List Float
with_row rows k b after first count = with_vec (with_vec (with_vec rows (row_start k) b.low) (row_start k + 3) b.high) (row_start k + 6) (vec (lit after) (lit first) (lit count))

-- ---- the rows of a box

-- how many boxes stand under box i, with itself, so many levels down
unfoldable pub boxes_under : List ℕ → ℕ → ℕ → ℕ
boxes_under nodes zero i = 0
boxes_under nodes (suc levels) i = cond (inner_at nodes i) (1 + boxes_under nodes levels (left_at nodes i) + boxes_under nodes levels (right_at nodes i)) 1

-- their rows, from row k on
unfoldable pub with_rows : List Float → List ℕ → ℕ → ℕ → ℕ → List Float → List Float
with_rows boxes nodes zero i k rows = rows
with_rows boxes nodes (suc levels) i k rows =
    let middle = k + 1 + boxes_under nodes levels (left_at nodes i) in
    cond (inner_at nodes i)
    (with_row (with_rows boxes nodes levels (right_at nodes i) middle (with_rows boxes nodes levels (left_at nodes i) (k + 1) rows)) k (bounds_at boxes i) (middle + boxes_under nodes levels (right_at nodes i)) 0 0)
    (with_row rows k (bounds_at boxes i) (k + 1) (first_at nodes i) (count_at nodes i))

-- of the whole tree, from the root; the empty tree has none
unfoldable pub with_tree : List Float → List ℕ → List Float → List Float
with_tree boxes nodes rows = cond (eqb (box_count nodes) 0) rows (with_rows boxes nodes (suc depth_limit) 0 0 rows)

-- ---- what writing the rows needs to stay within the lists; an accepted tree has it (`accepted_lays`)
pub record Lays (boxes : List Float) (nodes : List ℕ) : Type 0 where
  pub boxes_fit : length boxes ≡ box_count nodes * 6
  pub left_fits : (i : ℕ) → i < box_count nodes → inner_at nodes i ≡ true → left_at nodes i < box_count nodes
  pub right_fits : (i : ℕ) → i < box_count nodes → inner_at nodes i ≡ true → right_at nodes i < box_count nodes
  pub run_small : (i : ℕ) → i < box_count nodes → inner_at nodes i ≡ false → first_at nodes i + count_at nodes i < whole_limit
