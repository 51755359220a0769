-- Into which voxel a sample falls, in document 01's words, and that this is what `sample_cell` computes: it gives voxel i exactly when the sample is not
-- skipped and i's coordinates are the three floors. Assumes nothing.
use Rattle.std.specs.Prelude.{◌≡◌, ℕ, ◌+◌, ◌-◌, ◌*◌, ◌/◌, ◌^◌, ◌<◌, ◌≤◌, min, Bool, true, false, cond, not, T, ◌↔◌, pos, nat_le, Float}
use Rattle.std.proofs.Math.Path.{refl}
use Rattle.std.proofs.Common.{sym, ap, ◌∙◌, arith, le-mul_of_pos_right, div-mul-le_self, le-div_iff_mul-le, div-lt_iff_lt-mul}
use Rattle.std.proofs.lemmas.Bool.{false≢true}
use Rattle.std.specs.Float.Ieee as Ieee
use Rattle.std.specs.Float.{nan, inf, fin}
use Rattle.std.specs.Float.Ieee.{up, down, to_unsigned, of_bits}
use Rattle.std.specs.Float.Ieee.Fits.{down_pos}
use borrow.Author.Tests.{ltb-true, ltb-false, lt-ltb, le-ltb, leb-false, le-leb, lt-leb}
use Rattle.names.specs.Bits.{zero32}
use Rattle.floats.specs.OrderLaws.{le_not_lt, not_lt_le, le_transitive}
use Rattle.vectors.specs.declared.Vec3.{Vec3}
use Rattle.vectors.specs.declared.Triangle.{Triangle}
use Rattle.grid.specs.declared.Axes.{Axes}
use Rattle.grid.specs.Grid.{voxels, index_of, x_of, y_of, z_of, float_of, AxesWithin}
use Rattle.grid.specs.GridLaws.{x_of_index, y_of_index, z_of_index, index_of_coordinates, x_within, y_within, z_within}
use Rattle.samples.specs.Samples.{sample_rest, sample_point, edges_above, cell_on, index_within, cell_of, sample_cell}
use Rattle.samples.specs.CastLaws.{power, minus_one, below_power, above_minus_one, far_cast}
use Rattle.samples.specs.WholeOrder.{float_value, value_number, not_infinite, below_whole, above_whole}

-- The floor of f is k: k ≤ f < k + 1
pub record Floored (f : Float) (k : ℕ) : Type 0 where
  pub least : Ieee.le (float_of k) f ≡ true
  pub most : Ieee.lt f (float_of (k + 1)) ≡ true

-- Sample (iu, iv) of n a side falls into voxel i: w is not below 0, and on every axis the floor of (p − min) / edge is i's coordinate
pub record FallsInto (axes : Axes) (low edges : Vec3) (t : Triangle) (n iu iv i : ℕ) : Type 0 where
  pub kept : Ieee.lt (sample_rest n iu iv) zero32 ≡ false
  pub on_x : Floored (edges_above low.x edges.x (sample_point t n iu iv).x) (x_of axes i)
  pub on_y : Floored (edges_above low.y edges.y (sample_point t n iu iv).y) (y_of axes i)
  pub on_z : Floored (edges_above low.z edges.z (sample_point t n iu iv).z) (z_of axes i)

-- ---- a number that is not below 0 is cast to its floor

zero_float : float_of 0 ≡ zero32
unfolding Ieee.of_int Ieee.round of_bits
zero_float = refl

cast_floored : (f : Float) → Ieee.le zero32 f ≡ true → to_unsigned 64 f < 2 ^ 24 → Floored f (to_unsigned 64 f)
unfolding to_unsigned of_bits Ieee.le Ieee.lt Ieee.eq Ieee.is_nan
cast_floored nan p h = absurd (false≢true p)
cast_floored (inf true) p h = absurd (false≢true p)
cast_floored (inf false) p h = absurd (omega arith)
cast_floored (fin true m e) p h =
    record {
      least = rw zero_float p;
      most = below_whole true m e (float_of 1) 1 (float_value 1 (omega arith)) ∙ lt-ltb 0 (m * up e + 1 * down e) (omega (arith, down_pos e));
    }
cast_floored (fin false m e) p h =
    let q = m * up e / down e in
    let s : min q (2 ^ 64 - 1) ≡ q = omega arith in
    let v = float_value q (omega arith) in
    rw s (record {
      least =
          not_lt_le (float_of q) (fin false m e) (value_number (float_of q) q v) refl
          (below_whole false m e (float_of q) q v ∙ le-ltb (m * up e) (q * down e) (div-mul-le_self (m * up e) (down e)));
      most =
          below_whole false m e (float_of (q + 1)) (q + 1) (float_value (q + 1) (omega arith))
          ∙ lt-ltb (m * up e) ((q + 1) * down e) ((div-lt_iff_lt-mul (down_pos e)).0 (omega arith));
    })

from_zero : (f : Float) (k : ℕ) → k ≤ 2 ^ 24 → Ieee.le (float_of k) f ≡ true → Ieee.le zero32 f ≡ true
unfolding of_bits Ieee.is_nan
from_zero f k h p =
    let v = float_value k h in
    le_transitive zero32 (float_of k) f
    (not_lt_le zero32 (float_of k) refl (value_number (float_of k) k v) (above_whole false 0 (pos 0) (float_of k) k v ∙ le-ltb (k * 1) (0 * 1) (omega arith))) p

-- below a whole number: so is the cast
below_cast : (f : Float) (n : ℕ) → 1 ≤ n → n ≤ 2 ^ 24 → Ieee.le zero32 f ≡ true → Ieee.lt f (float_of n) ≡ true → to_unsigned 64 f < n
unfolding to_unsigned of_bits Ieee.le Ieee.lt Ieee.eq
below_cast nan n o h z u = absurd (false≢true z)
below_cast (inf true) n o h z u = absurd (false≢true z)
below_cast (inf false) n o h z u = absurd (false≢true (sym (not_infinite (float_of n) n (float_value n h)).0 ∙ u))
below_cast (fin true m e) n o h z u = omega arith
below_cast (fin false m e) n o h z u =
    let b : m * up e < n * down e = ltb-true _ _ (sym (below_whole false m e (float_of n) n (float_value n h)) ∙ u) in
    omega (arith, (div-lt_iff_lt-mul (down_pos e)).1 b)

-- and where it is not below, nor is the cast
above_cast : (f : Float) (n : ℕ) → n ≤ 2 ^ 24 → Ieee.le zero32 f ≡ true → Ieee.lt f (float_of n) ≡ false → n ≤ to_unsigned 64 f
unfolding to_unsigned of_bits Ieee.le Ieee.lt Ieee.eq
above_cast nan n h z l = absurd (false≢true z)
above_cast (inf true) n h z l = absurd (false≢true z)
above_cast (inf false) n h z l = omega arith
above_cast (fin true m e) n h z l =
    let a : m * up e + n * down e ≤ 0 = ltb-false _ _ (sym (below_whole true m e (float_of n) n (float_value n h)) ∙ l) in
    omega (arith, le-mul_of_pos_right n (down_pos e))
above_cast (fin false m e) n h z l =
    let a : n * down e ≤ m * up e = ltb-false _ _ (sym (below_whole false m e (float_of n) n (float_value n h)) ∙ l) in
    omega (arith, (le-div_iff_mul-le (down_pos e)).1 a)

between_cast : (f : Float) (k : ℕ) → k < 2 ^ 24 → Ieee.le zero32 f ≡ true → Ieee.lt f (float_of k) ≡ false → Ieee.lt f (float_of (k + 1)) ≡ true → to_unsigned 64 f ≡ k
between_cast f k h z l u = omega (arith, above_cast f k (omega arith) z l, below_cast f (k + 1) (omega arith) (omega arith) z u)

floored_cast : (f : Float) (k : ℕ) → k < 2 ^ 24 → Floored f k → to_unsigned 64 f ≡ k
floored_cast f k h r = between_cast f k h (from_zero f k (omega arith) r.least) (le_not_lt (float_of k) f r.least) r.most

-- ---- a cell on an axis is the floor, where that lies on the axis

cell_floored : (f : Float) (n : ℕ) → n ≤ 2 ^ 24 → cell_on f n < n → Floored f (cell_on f n)
unfolding cell_on
cell_floored f n h l = go (Ieee.le zero32 f) refl l
  where
    go : (b : Bool) → Ieee.le zero32 f ≡ b → cond b (min (to_unsigned 64 f) n) n < n → Floored f (cond b (min (to_unsigned 64 f) n) n)
    go true p k = let q : min (to_unsigned 64 f) n ≡ to_unsigned 64 f = omega arith in rw q (cast_floored f p (omega arith))
    go false p k = absurd (omega arith)

floored_cell : (f : Float) (n k : ℕ) → n ≤ 2 ^ 24 → k < n → Floored f k → cell_on f n ≡ k
unfolding cell_on
floored_cell f n k h l r = rw (from_zero f k (omega arith) r.least) (omega (arith, floored_cast f k (omega arith) r))

-- ---- and to test whether it does, the number need not be cast

pub off_axis : (f : Float) (n : ℕ) → 1 ≤ n → n ≤ 2 ^ 24 → Ieee.le zero32 f ≡ true → nat_le n (cell_on f n) ≡ not (Ieee.lt f (float_of n))
unfolding cell_on
off_axis f n o h z = rw z (go (Ieee.lt f (float_of n)) refl)
  where
    go : (b : Bool) → Ieee.lt f (float_of n) ≡ b → nat_le n (min (to_unsigned 64 f) n) ≡ not b
    go true e = lt-leb n (min (to_unsigned 64 f) n) (omega (arith, below_cast f n o h z e))
    go false e = le-leb n (min (to_unsigned 64 f) n) (omega (arith, above_cast f n h z e))

pub off_below : (f : Float) (n : ℕ) → Ieee.le zero32 f ≡ false → nat_le n (cell_on f n) ≡ true
unfolding cell_on
off_below f n z = rw z (le-leb n n (omega arith))

-- a number on an axis: its cast is its cell, and may be taken
pub record OnAxis (f : Float) (n : ℕ) : Type 0 where
  pub cell : cell_on f n ≡ to_unsigned 64 f
  pub within : to_unsigned 64 f < n
  pub above : T (Ieee.lt minus_one f)
  pub below : T (Ieee.lt f (power 64))

pub on_axis_lem : (f : Float) (n : ℕ) → n ≤ 2 ^ 24 → nat_le n (cell_on f n) ≡ false → OnAxis f n
unfolding cell_on of_bits
on_axis_lem f n h e = go (Ieee.le zero32 f) refl (leb-false _ _ e)
  where
    near : to_unsigned 64 f < n → Ieee.le zero32 f ≡ true → (b : Bool) → Ieee.lt f (power 32) ≡ b → T (Ieee.lt f (power 64))
    near l z true p = below_power 32 64 (omega arith) f p
    near l z false p = absurd (omega (arith, far_cast f z p))

    go : (b : Bool) → Ieee.le zero32 f ≡ b → cond b (min (to_unsigned 64 f) n) n < n → OnAxis f n
    go true z l =
        let w : to_unsigned 64 f < n = omega arith in
        record { cell = rw z (omega arith); within = w; above = above_minus_one f z; below = near w z (Ieee.lt f (power 32)) refl }
    go false z l = absurd (omega arith)

-- ---- and a sample's cell is a voxel's

-- an index below the count: the coordinates lie in the grid, and are the index's
inside_grid : (axes : Axes) (x y z i : ℕ) → i < voxels axes → index_within axes x y z ≡ i
    → (x < axes.width) × (y < axes.height) × (z < axes.depth) × (x ≡ x_of axes i) × (y ≡ y_of axes i) × (z ≡ z_of axes i)
unfolding index_within
inside_grid axes x y z i h e = go (nat_le axes.width x) refl (nat_le axes.height y) refl (nat_le axes.depth z) refl e
  where
    go : (a : Bool) → nat_le axes.width x ≡ a → (b : Bool) → nat_le axes.height y ≡ b → (c : Bool) → nat_le axes.depth z ≡ c
        → cond a (voxels axes) (cond b (voxels axes) (cond c (voxels axes) (index_of axes x y z))) ≡ i
        → (x < axes.width) × (y < axes.height) × (z < axes.depth) × (x ≡ x_of axes i) × (y ≡ y_of axes i) × (z ≡ z_of axes i)
    go true p b q c r k = absurd (omega arith)
    go false p true q c r k = absurd (omega arith)
    go false p false q true r k = absurd (omega arith)
    go false p false q false r k =
        let lx = leb-false _ _ p in
        let ly = leb-false _ _ q in
        let lz = leb-false _ _ r in (
          lx,
          ly,
          lz,
          sym (x_of_index axes x y z lx) ∙ ap (x_of axes) k,
          sym (y_of_index axes x y z lx ly) ∙ ap (y_of axes) k,
          sym (z_of_index axes x y z lx ly) ∙ ap (z_of axes) k,
        )

module _ (axes : Axes) (low edges : Vec3) (t : Triangle) (n iu iv i : ℕ) (w : AxesWithin axes) (h : i < voxels axes) where
  cell_falls : Ieee.lt (sample_rest n iu iv) zero32 ≡ false → cell_of axes low edges (sample_point t n iu iv) ≡ i → FallsInto axes low edges t n iu iv i
  unfolding cell_of
  cell_falls k e =
      let g = inside_grid axes _ _ _ i h e in
      record {
        kept = k;
        on_x = rw g.3 at (cell_floored _ axes.width (omega (arith, w.widest)) g.0);
        on_y = rw g.4 at (cell_floored _ axes.height (omega (arith, w.highest)) g.1);
        on_z = rw g.5 at (cell_floored _ axes.depth (omega (arith, w.deepest)) g.2);
      }

  falls : sample_cell axes low edges t n iu iv ≡ i → FallsInto axes low edges t n iu iv i
  unfolding sample_cell
  falls e = go (Ieee.lt (sample_rest n iu iv) zero32) refl e
    where
      go : (b : Bool) → Ieee.lt (sample_rest n iu iv) zero32 ≡ b → cond b (voxels axes) (cell_of axes low edges (sample_point t n iu iv)) ≡ i
          → FallsInto axes low edges t n iu iv i
      go true p q = absurd (omega arith)
      go false p q = cell_falls p q

  falls_cell : FallsInto axes low edges t n iu iv i → sample_cell axes low edges t n iu iv ≡ i
  unfolding sample_cell cell_of index_within
  falls_cell r =
      let lx = x_within axes i w.width in
      let ly = y_within axes i w.height in
      let lz = z_within axes i w.width w.height h in
      rw (r.kept, floored_cell _ axes.width (x_of axes i) (omega (arith, w.widest)) lx r.on_x, floored_cell _ axes.height (y_of axes i) (omega (arith, w.highest)) ly r.on_y, floored_cell _ axes.depth (z_of axes i) (omega (arith, w.deepest)) lz r.on_z, lt-leb _ _ lx, lt-leb _ _ ly, lt-leb _ _ lz)
      (index_of_coordinates axes i)

  -- `sample_cell` gives i, a voxel of the grid, exactly when the sample falls into it
  pub sample_falls : (sample_cell axes low edges t n iu iv ≡ i) ↔ FallsInto axes low edges t n iu iv i
  sample_falls = (falls, falls_cell)
