-- What is solved of a triangle, in two halves: most misses show in u, before v and t are computed. The two make what the test judges (`two_halves`), and
-- u outside 0..1 is a miss (`beside_missed`).
use Rattle.std.specs.Prelude.{◌≡◌, refl, Option, None, Bool, true, false, cond, not, ◌&&◌, Float}
use Rattle.std.proofs.lemmas.Bool.{false≢true}
use Rattle.std.specs.Float.Ieee as Ieee
use Rattle.std.specs.Float.{binary32}
use Rattle.names.specs.Bits.{zero32, one32}
use Rattle.names.specs.Numbers.{flat_limit}
use Rattle.floats.specs.Choice.{magnitude_of}
use Rattle.vectors.specs.Vectors.{sub_v, dot_v, cross_v}
use Rattle.vectors.specs.declared.Ray.{Ray}
use Rattle.vectors.specs.declared.Triangle.{Triangle}
use Rattle.vectors.specs.declared.Vec3.{Vec3}
use Rattle.triangle.specs.declared.HalfSolved.{HalfSolved}
use Rattle.triangle.specs.declared.Hit.{Hit}
use Rattle.triangle.specs.declared.Solved.{Solved}
use Rattle.triangle.specs.Meet.{solved_of, judged_of, meet_of}
use Rattle.triangle.specs.Laws.{judged_missed}

unfoldable pub half_solved_of : Ray → Triangle → HalfSolved
half_solved_of ray triangle =
    let e1' = sub_v triangle.p1 triangle.p0 in
    let e2' = sub_v triangle.p2 triangle.p0 in
    let p = cross_v ray.direction e2' in
    let d = dot_v e1' p in
    let i = Ieee.div binary32 one32 d in
    let s' = sub_v ray.origin triangle.p0 in
    record { e1 = e1'; e2 = e2'; s = s'; det = d; inverse = i; u = Ieee.mul binary32 (dot_v s' p) i }

unfoldable pub rest_solved_of : Vec3 → HalfSolved → Solved
rest_solved_of direction h =
    let q = cross_v h.s h.e1 in
    record {
      det = h.det;
      u = h.u;
      v = Ieee.mul binary32 (dot_v direction q) h.inverse;
      t = Ieee.mul binary32 (dot_v h.e2 q) h.inverse;
    }

pub two_halves : (ray : Ray) (triangle : Triangle) → rest_solved_of ray.direction (half_solved_of ray triangle) ≡ solved_of ray triangle
unfolding rest_solved_of half_solved_of solved_of
two_halves ray triangle = refl

-- u outside 0..1, or no number
unfoldable pub beside_of : Float → Bool
beside_of u = not (Ieee.le zero32 u && Ieee.le u one32)

u_tests : (flat from to : Bool) (m : Option Hit) → not (from && to) ≡ true → cond flat None (cond from (cond to m None) None) ≡ None
u_tests true from to m h = refl
u_tests false false to m h = refl
u_tests false true false m h = refl
u_tests false true true m h = absurd (false≢true h)

beside_judged : (s : Solved) (shortest longest : Float) → beside_of s.u ≡ true → judged_of s shortest longest ≡ None
unfolding beside_of judged_of
beside_judged s shortest longest h = u_tests (Ieee.le (magnitude_of s.det) flat_limit) (Ieee.le zero32 s.u) (Ieee.le s.u one32) _ h

half_u : (ray : Ray) (triangle : Triangle) → (half_solved_of ray triangle).u ≡ (solved_of ray triangle).u
unfolding half_solved_of solved_of
half_u ray triangle = refl

pub beside_missed : (ray : Ray) (triangle : Triangle) → beside_of (half_solved_of ray triangle).u ≡ true → meet_of ray triangle ≡ None
beside_missed ray triangle h =
    judged_missed ray triangle (beside_judged (solved_of ray triangle) ray.shortest ray.longest (rw (half_u ray triangle) at h))
