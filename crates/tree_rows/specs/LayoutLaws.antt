-- What the laws of proofs/LayoutLaws.antt are said with. Definitions only.
use Rattle.std.specs.Prelude.{◌≡◌, Float}
use mathlib.Core.List.{List}
use Prim.Native.Nat.{ℕ, ◌+◌, ◌≤◌, ◌<◌}
use Rattle.std.proofs.Math.ListN.{length, get_or}
use Rattle.std.specs.Float.Ieee.{nan}
use Rattle.names.specs.Bits.{lit}
use Rattle.vectors.specs.Places.{vec_at}
use Rattle.vectors.specs.Vectors.{vec}
use Rattle.boxes.specs.declared.Bounds.{Bounds}
use Rattle.tree_rows.specs.Rows.{row_start, row_bounds}

-- ---- what is kept

-- past a piece of the list nothing changed
pub record KeptRows (rows rows' : List Float) (from to : ℕ) : Type 0 where
  pub same : length rows' ≡ length rows
  pub below : (j : ℕ) → j < from → get_or rows' j nan ≡ get_or rows j nan
  pub above : (j : ℕ) → to ≤ j → get_or rows' j nan ≡ get_or rows j nan

-- ---- one row

-- row k holds a box and three whole numbers
pub record RowAt (rows : List Float) (k : ℕ) (b : Bounds) (after first count : ℕ) : Type 0 where
  pub box : row_bounds rows k ≡ b
  pub wholes : vec_at rows (row_start k + 6) ≡ vec (lit after) (lit first) (lit count)
