-- Where a ray meets one triangle. "A triangle whose cross has squared length at most 1e-12 is absent everywhere. The test answers a miss, or a
-- hit that carries distance, u and v. Miss if |det|≤1e-8, u outside 0..1, v<0, u+v>1, or t outside shortest..longest. A non-finite t is a miss."
-- "The triangle test must also say which side was met: front exactly when det is above zero."
-- Each operation is rounded once, in the Rust's order. A comparison with NaN is false, as in IEEE 754: u must pass both its bounds, so that a NaN
-- there misses, while v, u+v and t must fail theirs, so that a NaN there passes, as in the Rust; the last test then misses a NaN distance.
use Rattle.std.specs.Prelude.{Option, None, Some, Bool, cond, Float}
use Rattle.std.specs.Float.Ieee as Ieee
use Rattle.std.specs.Float.{binary32}
use Rattle.names.specs.Bits.{lit, zero32, one32}
use Rattle.names.specs.Numbers.{thin_limit, flat_limit}
use Rattle.floats.specs.Choice.{magnitude_of}
use Rattle.vectors.specs.Vectors.{sub_v, dot_v, cross_v}
use Rattle.vectors.specs.declared.Ray.{Ray}
use Rattle.vectors.specs.declared.Triangle.{Triangle}
use Rattle.triangle.specs.declared.Hit.{Hit}
use Rattle.triangle.specs.declared.Solved.{Solved}

-- the largest finite f32
abbrev pub largest32 : Float
largest32 = lit 0x7f7fffff

-- the cross of the two edges from p0, by its squared length
unfoldable pub absent_of : Triangle → Bool
absent_of triangle =
    let n = cross_v (sub_v triangle.p1 triangle.p0) (sub_v triangle.p2 triangle.p0) in
    Ieee.le (dot_v n n) thin_limit

-- the determinant, u, v and t
unfoldable pub solved_of : Ray → Triangle → Solved
solved_of ray triangle =
    let e1 = sub_v triangle.p1 triangle.p0 in
    let e2 = sub_v triangle.p2 triangle.p0 in
    let p = cross_v ray.direction e2 in
    let d = dot_v e1 p in
    let inverse = Ieee.div binary32 one32 d in
    let s = sub_v ray.origin triangle.p0 in
    let q = cross_v s e1 in
    record {
      det = d;
      u = Ieee.mul binary32 (dot_v s p) inverse;
      v = Ieee.mul binary32 (dot_v ray.direction q) inverse;
      t = Ieee.mul binary32 (dot_v e2 q) inverse;
    }

-- whether the front is met, by the determinant
unfoldable pub front_of : Float → Bool
front_of d = Ieee.lt zero32 d

-- a hit's distance, u, v and side
abbrev pub hit_of : Float → Float → Float → Bool → Hit
hit_of d a b side = record { t = d; u = a; v = b; front = side }

-- what stands of the determinant, u, v and t, between two distances
unfoldable pub judged_of : Solved → Float → Float → Option Hit
judged_of s shortest longest =
    cond (Ieee.le (magnitude_of s.det) flat_limit) None
    (cond (Ieee.le zero32 s.u)
    (cond (Ieee.le s.u one32)
    (cond (Ieee.lt s.v zero32) None
    (cond (Ieee.lt one32 (Ieee.add binary32 s.u s.v)) None
    (cond (Ieee.lt s.t shortest) None
    (cond (Ieee.lt longest s.t) None
    (cond (Ieee.le (magnitude_of s.t) largest32) (Some (hit_of s.t s.u s.v (front_of s.det))) None)))))
    None)
    None)

-- the test of one triangle, the one step that both scans take of each
unfoldable pub meet_of : Ray → Triangle → Option Hit
meet_of ray triangle =
    cond (absent_of triangle) None (judged_of (solved_of ray triangle) ray.shortest ray.longest)
