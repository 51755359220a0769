-- The padded box of a triangle whose points lie within ±4,096 has no NaN: all its numbers are finite. Assumes nothing.
use Rattle.std.specs.Prelude.{◌≡◌, false, List, ℕ, ◌/◌, ◌<◌, length, Float}
use Rattle.std.proofs.Common.{arith, lit<}
use Rattle.std.specs.Float.Ieee.{of_bits}
use Rattle.names.specs.Numbers.{box_padding}
use Rattle.floats.specs.FiniteLaws.{finite_number}
use Rattle.vectors.specs.declared.Vec3.{Vec3}
use Rattle.vectors.specs.declared.Triangle.{Triangle}
use Rattle.limits.specs.Limits.{bad_points}
use Rattle.bounds.specs.Bounds.{AtMost, EachAtMost}
use Rattle.bounds.specs.BoundsLaws.{at_most_finite}
use Rattle.bounds.specs.VectorLaws.{add_each, sub_each, larger_each, smaller_each}
use Rattle.triangle.specs.Places.{triangle_at}
use Rattle.rays_bounds.specs.TestBounds.{NearPoints, near_place}
use Rattle.boxes.specs.Boxes.{padding_v, padded_of}
use Rattle.boxes.specs.BoxLaws.{NumbersV, NumbersOf}

each_numbers : (v : Vec3) (n k : ℕ) → EachAtMost n k v → NumbersV v
each_numbers v n k e =
    record {
      x = finite_number v.x (at_most_finite v.x n k e.x);
      y = finite_number v.y (at_most_finite v.y n k e.y);
      z = finite_number v.z (at_most_finite v.z n k e.z);
    }

padding_small : AtMost 1 12 box_padding
unfolding AtMost of_bits
padding_small = omega arith

padding_each : EachAtMost 1 12 padding_v
padding_each = record { x = padding_small; y = padding_small; z = padding_small }

pub near_padded : (t : Triangle) → NearPoints t → NumbersOf (padded_of t)
unfolding padded_of
near_padded t p =
    record {
      low = each_numbers _ 2 12 (sub_each _ padding_v 1 1 12 (lit< tt) (lit< tt) (smaller_each _ t.p2 1 12 (smaller_each t.p0 t.p1 1 12 p.p0 p.p1) p.p2) padding_each);
      high = each_numbers _ 2 12 (add_each _ padding_v 1 1 12 (lit< tt) (lit< tt) (larger_each _ t.p2 1 12 (larger_each t.p0 t.p1 1 12 p.p0 p.p1) p.p2) padding_each);
    }

-- of every triangle of a list that row 5 accepts
pub padded_numbers : (points : List Float) (p : ℕ) → bad_points points ≡ false → p < length points / 9 → NumbersOf (padded_of (triangle_at points p))
padded_numbers points p b h = near_padded (triangle_at points p) (near_place points p b (omega arith))
