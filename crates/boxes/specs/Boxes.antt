-- A box along the axes, from its low corner to its high one. Comparisons are IEEE 754's, false beside NaN. Assumes nothing.
use Rattle.std.specs.Prelude.{Bool, not, ◌&&◌, ◌||◌, List, ℕ, ◌+◌, ◌*◌, Float}
use Rattle.std.specs.Float.Ieee as Ieee
use Rattle.names.specs.Bits.{zero32}
use Rattle.names.specs.Numbers.{box_padding}
use Rattle.vectors.specs.Vectors.{vec, add_v, sub_v, larger_v, smaller_v}
use Rattle.vectors.specs.Places.{vec_at}
use Rattle.vectors.specs.declared.Vec3.{Vec3}
use Rattle.vectors.specs.declared.Triangle.{Triangle}
use Rattle.boxes.specs.declared.Bounds.{Bounds}

-- box i of a lent list: six numbers a box, its low corner, then its high one
unfoldable pub bounds_at : List Float → ℕ → Bounds
bounds_at boxes i = record { low = vec_at boxes (i * 6); high = vec_at boxes (i * 6 + 3) }

-- 1e-5 on every axis
abbrev pub padding_v : Vec3
padding_v = vec box_padding box_padding box_padding

-- "each triangle's box padded by 1e-5": on each axis the smallest of the three points' coordinates less 1e-5, and the largest plus 1e-5
unfoldable pub padded_of : Triangle → Bounds
padded_of t =
    record {
      low = sub_v (smaller_v (smaller_v t.p0 t.p1) t.p2) padding_v;
      high = add_v (larger_v (larger_v t.p0 t.p1) t.p2) padding_v;
    }

-- on one axis "the origin lies above it and the direction is not negative, or below it and the direction is not positive"
unfoldable pub beyond : Float → Float → Float → Float → Bool
beyond origin direction low high =
    (Ieee.lt high origin && not (Ieee.lt direction zero32)) || (Ieee.lt origin low && not (Ieee.lt zero32 direction))

-- "A box is passed over when on some axis" it is so
unfoldable pub passed_over : Vec3 → Vec3 → Bounds → Bool
passed_over origin direction b =
    beyond origin.x direction.x b.low.x b.high.x
    || beyond origin.y direction.y b.low.y b.high.y
    || beyond origin.z direction.z b.low.z b.high.z

-- no component of a is above that of b, and none is NaN
unfoldable pub at_most : Vec3 → Vec3 → Bool
at_most a b = Ieee.le a.x b.x && Ieee.le a.y b.y && Ieee.le a.z b.z

-- the inner box lies inside the outer, faces that touch included; no box with a NaN lies inside one or holds one, and an infinite bound may hold
unfoldable pub inside_of : Bounds → Bounds → Bool
inside_of inner outer = at_most outer.low inner.low && at_most inner.high outer.high
