-- Where a voxel and its box lie: voxel i of a grid has its coordinates there, and no voxel of its box stands past the grid.
use native.Mathlib.Omega.{arith}
use native.Mathlib.Nat.{mod-lt, div-lt_iff_lt-mul}
use Prim.Native.Nat.{ℕ, ◌-◌, ◌*◌, ◌/◌, ◌%◌, ◌<◌}
use Rattle.lists.specs.Fold.{place}
use Rattle.means.specs.Box.{past_near}
use Rattle.means.specs.Sums.{span_of, last_in}

pub coordinates : (w h d i : ℕ) → 0 < w → 0 < h → i < d * h * w → (i % w < w) × (i / w % h < h) × (i / w / h < d)
coordinates w h d i p q b =
    (mod-lt i p, mod-lt (i / w) q, (div-lt_iff_lt-mul q).1 ((div-lt_iff_lt-mul p).1 b))

pub last_below : (w h d x y z : ℕ) → x < w → y < h → z < d → last_in w h (span_of x w) (span_of y h) (span_of z d) < d * h * w
last_below w h d x y z p q r =
    let cx : past_near x w - 1 < w = omega arith in
    let cy : past_near y h - 1 < h = omega arith in
    let cz : past_near z d - 1 < d = omega arith in
    place (place cz cy) cx
