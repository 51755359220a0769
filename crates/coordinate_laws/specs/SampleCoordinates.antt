-- No sample of an accepted call of the masks has a coordinate that is NaN: with iu and iv below a side n of at most 64, u and v are at most 2 in size and w at most 5, so that
-- a point (p0·w + p1·u) + p2·v lies within 9·2^12.
use Rattle.std.specs.Prelude.{◌≡◌, List, ℕ, ◌+◌, ◌*◌, ◌/◌, ◌^◌, ◌≤◌, ◌<◌, length, Float}
use Rattle.std.proofs.Common.{mul-le-mul_right, lt_of_le_of_lt, arith, lit<}
use Rattle.names.specs.Bits.{half32, one32}
use Rattle.names.specs.Passed.{passed}
use Rattle.vectors.specs.declared.Triangle.{Triangle}
use Rattle.grid.specs.declared.Axes.{Axes}
use Rattle.grid.specs.declared.Corners.{Corners}
use Rattle.grid.specs.Grid.{float_of, edges_of, smallest_edge_of}
use Rattle.bounds.specs.Bounds.{AtMost, EachAtMost}
use Rattle.bounds.specs.BoundsLaws.{at_most_up, add_at_most, sub_at_most, div_at_most, int_at_most, int_at_least, half_at_most, one_at_most}
use Rattle.bounds.specs.VectorLaws.{add_each, scale_each}
use Rattle.triangle.specs.Places.{triangle_at}
use Rattle.rays_bounds.specs.TestBounds.{NearPoints, near_place}
use Rattle.samples.specs.Samples.{target_of, share_of, point_of, sample_point}
use Rattle.samples.specs.SamplesLaws.{side_most}
use Rattle.occupy.specs.OccupiedLaws.{side_at}
use Rattle.masks.specs.Masks.{masks_rows, masks_refusal}
use Rattle.coordinate_laws.specs.Coordinates.{FiniteCoordinates, coordinates_finite}

-- (i + 1/2) / n
share_small : (i n : ℕ) → i < n → n ≤ 64 → AtMost 2 0 (share_of i n)
unfolding share_of
share_small i n h g =
    let a = add_at_most (float_of i) half32 i 1 0 (omega arith) (lt_of_le_of_lt (mul-le-mul_right {m = i + 1} {n = 64} (2 ^ 0) (omega arith)) (lit< tt)) (int_at_most i (omega arith)) half_at_most in
    div_at_most _ (float_of n) 2 n 0 0 (omega arith) (lit< tt) (lit< tt) (at_most_up _ (i + 1) 0 (2 * n) 0 (omega arith) a) (int_at_least n (omega arith))

point_small : (t : Triangle) (n iu iv : ℕ) → NearPoints t → iu < n → iv < n → n ≤ 64 → EachAtMost 9 12 (sample_point t n iu iv)
unfolding point_of
point_small t n iu iv p hu hv g =
    let u = share_small iu n hu g in
    let v = share_small iv n hv g in
    let w = sub_at_most _ _ 3 2 0 (lit< tt) (lit< tt) (sub_at_most one32 _ 1 2 0 (lit< tt) (lit< tt) one_at_most u) v in
    add_each _ _ 7 2 12 (lit< tt) (lit< tt)
    (add_each _ _ 5 2 12 (lit< tt) (lit< tt) (scale_each t.p0 _ 1 12 5 0 (lit< tt) (lit< tt) p.p0 w) (scale_each t.p1 _ 1 12 2 0 (lit< tt) (lit< tt) p.p1 u))
    (scale_each t.p2 _ 1 12 2 0 (lit< tt) (lit< tt) p.p2 v)

pub samples_finite : (axes : Axes) (corners : Corners) (points : List Float) (occupied active : List ℕ) → masks_refusal axes corners points occupied active ≡ 0
    → (k iu iv : ℕ) → k < length points / 9 → iu < side_at axes corners points k → iv < side_at axes corners points k
    → FiniteCoordinates axes corners (sample_point (triangle_at points k) (side_at axes corners points k) iu iv)
unfolding masks_refusal
samples_finite axes corners points occupied active e k iu iv h hu hv =
    let r = passed (masks_rows axes corners points occupied active) (omega arith, (omega arith, (omega arith, (omega arith, (omega arith, tt))))) e in
    coordinates_finite axes corners _ 9 r.0 r.1.0 (lit< tt)
    (point_small (triangle_at points k) _ iu iv (near_place points k r.1.1.1.1.0 (omega arith)) hu hv (side_most (target_of (triangle_at points k) (smallest_edge_of (edges_of corners axes)))))
