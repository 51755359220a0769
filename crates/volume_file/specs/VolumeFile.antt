-- A volume file holds axes, light, coefficients, two masks and corners. It is faulty where the head or the contents are not good
-- (crate contents), or where the axes, the corners, or a number of the bodies would be refused 1, 2 or 13: "refusals 1, 2 and 13
-- become 12". Bodies stand at the offsets of the contents. Assumes nothing.
use Rattle.std.specs.Prelude.{Bool, not, ◌||◌, List, ℕ, ◌+◌, ◌*◌, Float}
use Rattle.vectors.specs.declared.Vec3.{Vec3}
use Rattle.vectors.specs.Vectors.{vec}
use Rattle.grid.specs.declared.Axes.{Axes}
use Rattle.grid.specs.declared.Corners.{Corners}
use Rattle.grid.specs.Grid.{voxels}
use Rattle.bytes_le.specs.Bytes.{f32_at, floats_at, bytes_at}
use Rattle.limits.specs.Limits.{bad_axes, bad_grid, bad_lights, bad_coefficients, bad_mask}
use Rattle.contents.specs.Contents.{headed, axes_at, entries_at, offset_at, contents_good}

-- ---- what a file holds

abbrev pub voxels_at : List ℕ → ℕ
voxels_at s = voxels (axes_at s)

abbrev pub light_at : List ℕ → List Float
light_at s = floats_at s (offset_at s 0) (voxels_at s)

-- sixteen numbers a voxel
abbrev pub volume_at : List ℕ → List Float
volume_at s = floats_at s (offset_at s 1) (voxels_at s * 16)

abbrev pub active_at : List ℕ → List ℕ
active_at s = bytes_at s (offset_at s 2) (voxels_at s)

abbrev pub occupied_at : List ℕ → List ℕ
occupied_at s = bytes_at s (offset_at s 3) (voxels_at s)

abbrev pub vector_at : List ℕ → ℕ → Vec3
vector_at s at = vec (f32_at s at) (f32_at s (at + 4)) (f32_at s (at + 8))

-- min x y z, max x y z
unfoldable pub corners_at : List ℕ → Corners
corners_at s = record { min = vector_at s (offset_at s 4); max = vector_at s (offset_at s 4 + 12) }

-- ---- the judge

-- corners, light, coefficients or a mask would be refused, in a file of these axes and n voxels
unfoldable pub bad_bodies : List ℕ → Axes → ℕ → Bool
bad_bodies s a n =
    bad_grid (corners_at s) a
    || bad_lights (floats_at s (offset_at s 0) n)
    || bad_coefficients (floats_at s (offset_at s 1) (n * 16))
    || bad_mask (bytes_at s (offset_at s 2) n)
    || bad_mask (bytes_at s (offset_at s 3) n)

-- any fault in a volume file, given whether row 1 would refuse its axes
abbrev pub faulty_where : Bool → List ℕ → Bool
faulty_where axes_bad s =
    not (headed s)
    || (axes_bad || (not (contents_good s (entries_at s) (voxels_at s)) || bad_bodies s (axes_at s) (voxels_at s)))

-- 12: any fault in a volume file
unfoldable pub faulty : List ℕ → Bool
faulty s = faulty_where (bad_axes (axes_at s)) s
