-- A box tree in rows. One list of numbers holds the points in the tree's order, nine a triangle, and behind the room for them the boxes in the order in which the
-- walk comes to them, nine numbers a row: the low corner, the high one, and three whole numbers as bit patterns: the row after all that lies inside the box, where a
-- leaf's run begins in the order, and how many triangles stand in it, none in an inner box. A loop over the rows passes a box over by going on at that row.
use Rattle.std.specs.Prelude.{◌≡◌, true, false, List, [], ◌++◌, ℕ, zero, suc, ◌+◌, ◌*◌, ◌≤◌, ◌<◌, length, get_or, Float}
use Rattle.std.specs.Float.{nan, binary32}
use Rattle.std.specs.Float.Ieee.{is_nan, to_bits}
use Rattle.names.specs.Numbers.{triangle_limit}
use Rattle.vectors.specs.Places.{vec_at}
use Rattle.vectors.specs.declared.Ray.{Ray}
use Rattle.panels.specs.Panels.{own_passed}
use Rattle.boxes.specs.Boxes.{passed_over}
use Rattle.boxes.specs.declared.Bounds.{Bounds}
use Rattle.tree.specs.Tree.{present_at, one}
use Rattle.tree_walk.specs.Turned.{Turned}
use Rattle.tree_walk.specs.FoldLaws.{stands_in}
use Rattle.tree_walk.specs.Spans.{span_places}

-- ---- what a row holds

-- where row k begins: behind the points of as many triangles as a scene may have
abbrev pub row_start : ℕ → ℕ
row_start k = triangle_limit * 9 + k * 9

-- a whole number, as the bit pattern of the number at place j
unfoldable pub pattern_at : List Float → ℕ → ℕ
pattern_at rows j = to_bits binary32 (get_or rows j nan)

unfoldable pub row_bounds : List Float → ℕ → Bounds
row_bounds rows k = record { low = vec_at rows (row_start k); high = vec_at rows (row_start k + 3) }

-- the row after all that lies inside the box of row k
abbrev pub row_after : List Float → ℕ → ℕ
row_after rows k = pattern_at rows (row_start k + 6)

-- its run: where it begins, and how many triangles it has
abbrev pub row_first : List Float → ℕ → ℕ
row_first rows k = pattern_at rows (row_start k + 7)

abbrev pub row_count : List Float → ℕ → ℕ
row_count rows k = pattern_at rows (row_start k + 8)

-- ---- the triangles of the rows

abbrev pub row_places : List ℕ → List Float → ℕ → List ℕ
row_places order rows k = span_places order (row_first rows k) (row_count rows k)

-- of the first k rows
unfoldable pub places_to : List ℕ → List Float → ℕ → List ℕ
places_to order rows zero = []
places_to order rows (suc k) = places_to order rows k ++ row_places order rows k

-- ---- what a scan by n rows may count on; the rows of an accepted tree have it
pub record Rowed (points : List Float) (order : List ℕ) (n : ℕ) (rows : List Float) : Type 0 where
  pub turned : Turned points order rows
  pub long : row_start n ≤ length rows
  -- the three whole numbers are no NaN's pattern
  pub numbers : (k : ℕ) → k < n
      → (is_nan (get_or rows (row_start k + 6) nan) ≡ false) × (is_nan (get_or rows (row_start k + 7) nan) ≡ false) × (is_nan (get_or rows (row_start k + 8) nan) ≡ false)
  -- each row goes on, within the rows
  pub forward : (k : ℕ) → k < n → (k < row_after rows k) × (row_after rows k ≤ n)
  pub run_fits : (k : ℕ) → k < n → row_first rows k + row_count rows k ≤ length order
  -- with a box that is passed over, each triangle's own padded box in the rows up to the one after it is passed over
  pub over : (ray : Ray) (k m l : ℕ) → k < n → passed_over ray.origin ray.direction (row_bounds rows k) ≡ true
      → k ≤ m → m < row_after rows k → l < row_count rows m → own_passed points ray (get_or order (row_first rows m + l) 0) ≡ true
  -- each present triangle stands once in the rows, and no other
  pub once : (p : ℕ) → stands_in p (places_to order rows n) ≡ one (present_at points p)
