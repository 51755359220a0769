-- What the definitions of a grid mean: index and coordinates are each other's inverse within the grid, an index lies below the
-- number of voxels, and a grid within the limits has between 1 and `voxel_limit` voxels.
use Rattle.std.specs.Prelude.{◌≡◌, ℕ, ◌+◌, ◌*◌, ◌/◌, ◌<◌, ◌≤◌}
use Rattle.std.proofs.Common.{◌∙◌, arith, mul-le-mul, mod-lt, div-add-mod', div-lt_iff_lt-mul, mod-eq_of_lt}
use Rattle.std.proofs.Math.Nat.{mul-add-div_right, mul-add-mod_self_right, div-eq_of_lt}
use Rattle.names.specs.Numbers.{axis_limit, voxel_limit}
use Rattle.lists.specs.Fold.{place}
use Rattle.grid.specs.declared.Axes.{Axes}
use Rattle.grid.specs.Grid.{voxels, index_of, x_of, y_of, z_of, AxesWithin}

-- ---- coordinates within the grid have an index below the number of voxels

pub index_within_lem : (a : Axes) (x y z : ℕ) → x < a.width → y < a.height → z < a.depth → index_of a x y z < voxels a
index_within_lem a x y z p q r = place (place r q) p

-- ---- and they are found again

pub x_of_index : (a : Axes) (x y z : ℕ) → x < a.width → x_of a (index_of a x y z) ≡ x
x_of_index a x y z p = mul-add-mod_self_right (z * a.height + y) a.width x ∙ mod-eq_of_lt p

row_of_index : (a : Axes) (x y z : ℕ) → x < a.width → index_of a x y z / a.width ≡ z * a.height + y
row_of_index a x y z p =
    let w : 0 < a.width = omega arith in
    mul-add-div_right w (z * a.height + y) x ∙ rw (div-eq_of_lt p) (omega arith)

pub y_of_index : (a : Axes) (x y z : ℕ) → x < a.width → y < a.height → y_of a (index_of a x y z) ≡ y
y_of_index a x y z p q = rw (row_of_index a x y z p) (mul-add-mod_self_right z a.height y ∙ mod-eq_of_lt q)

pub z_of_index : (a : Axes) (x y z : ℕ) → x < a.width → y < a.height → z_of a (index_of a x y z) ≡ z
z_of_index a x y z p q =
    let h : 0 < a.height = omega arith in
    rw (row_of_index a x y z p) (mul-add-div_right h z y ∙ rw (div-eq_of_lt q) (omega arith))

-- ---- the coordinates of an index give it back

pub index_of_coordinates : (a : Axes) (i : ℕ) → index_of a (x_of a i) (y_of a i) (z_of a i) ≡ i
index_of_coordinates a i = rw (div-add-mod' (i / a.width) a.height) (div-add-mod' i a.width)

-- ---- and lie within the grid

pub x_within : (a : Axes) (i : ℕ) → 0 < a.width → x_of a i < a.width
x_within a i p = mod-lt i p

pub y_within : (a : Axes) (i : ℕ) → 0 < a.height → y_of a i < a.height
y_within a i p = mod-lt (i / a.width) p

pub z_within : (a : Axes) (i : ℕ) → 0 < a.width → 0 < a.height → i < voxels a → z_of a i < a.depth
z_within a i p q h = (div-lt_iff_lt-mul q).1 ((div-lt_iff_lt-mul p).1 h)

-- ---- a grid within the limits

pub voxels_least : (a : Axes) → AxesWithin a → 1 ≤ voxels a
voxels_least a w = mul-le-mul (mul-le-mul w.depth w.height) w.width

pub plane_most : (a : Axes) → AxesWithin a → a.depth * a.height ≤ axis_limit * axis_limit
plane_most a w = mul-le-mul w.deepest w.highest

pub voxels_most : (a : Axes) → AxesWithin a → voxels a ≤ voxel_limit
voxels_most a w = mul-le-mul (plane_most a w) w.widest
