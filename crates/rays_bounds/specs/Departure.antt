-- The test without its departure, as the Rust has it: a distance that is not finite would pass. Where the points lie within ±4,096 and the ray starts within n·2^k
-- the two tests are one, whatever the direction (`far_same`), and so they are of a direction that is infinite or NaN, wherever the ray starts (`wild_same`): u is NaN then, and misses.
use Rattle.std.specs.Prelude.{◌≡◌, refl, Option, None, Some, Bool, true, false, cond, ℕ, ◌+◌, ◌*◌, ◌^◌, ◌≤◌, ◌<◌, length, Float}
use Rattle.std.proofs.Common.{sym, ◌∙◌, lt_of_le_of_lt, lit<}
use Rattle.std.proofs.lemmas.Bool.{false≢true}
use Rattle.std.specs.Float.Ieee as Ieee
use Rattle.std.specs.Float.{nan, binary32}
use Rattle.std.specs.Float.Ieee.{is_nan}
use Rattle.names.specs.Bits.{lit, zero32, quarter32, one32, two32, inf32}
use Rattle.names.specs.Numbers.{flat_limit}
use Rattle.names.specs.Scene.{Scene}
use Rattle.floats.specs.Choice.{magnitude_of}
use Rattle.floats.specs.OrderLaws.{le_numbers}
use Rattle.vectors.specs.Vectors.{vec, sub_v, dot_v, cross_v}
use Rattle.vectors.specs.declared.Ray.{Ray}
use Rattle.vectors.specs.declared.Triangle.{Triangle}
use Rattle.limits.specs.Limits.{bad_ray}
use Rattle.bounds.specs.Bounds.{EachAtMost}
use Rattle.bounds.specs.BoundsLaws.{at_most_up}
use Rattle.bounds.specs.WildLaws.{Wild, dot_wild, cross_wild, wild_over_wild}
use Rattle.triangle.specs.declared.Hit.{Hit}
use Rattle.triangle.specs.declared.Solved.{Solved}
use Rattle.triangle.specs.Meet.{hit_of, front_of, largest32, absent_of, solved_of, judged_of, meet_of}
use Rattle.triangle.specs.Places.{triangle_at}
use Rattle.rays_bounds.specs.TestBounds.{NearPoints, distance_bounded, largest_passes, last_test_passes}

-- the judgement without its last test
unfoldable pub judged_without : Solved → Float → Float → Option Hit
judged_without s shortest longest =
    cond (Ieee.le (magnitude_of s.det) flat_limit) None
    (cond (Ieee.le zero32 s.u)
    (cond (Ieee.le s.u one32)
    (cond (Ieee.lt s.v zero32) None
    (cond (Ieee.lt one32 (Ieee.add binary32 s.u s.v)) None
    (cond (Ieee.lt s.t shortest) None
    (cond (Ieee.lt longest s.t) None (Some (hit_of s.t s.u s.v (front_of s.det)))))))
    None)
    None)

unfoldable pub meet_without : Ray → Triangle → Option Hit
meet_without ray triangle =
    cond (absent_of triangle) None (judged_without (solved_of ray triangle) ray.shortest ray.longest)

-- the two are one, of a ray and each triangle of a scene
abbrev pub NoDeparture : Scene → Ray → Type 0
NoDeparture scene ray = (k : ℕ) → k < length scene.uses → meet_of ray (triangle_at scene.points k) ≡ meet_without ray (triangle_at scene.points k)

-- where a determinant that is not flat and a u from 0 up have a finite distance, the last test decides nothing
same_tests : (flat from to low sum near far good : Bool) (m : Option Hit) → (flat ≡ false → from ≡ true → good ≡ true)
    → cond flat None (cond from (cond to (cond low None (cond sum None (cond near None (cond far None (cond good m None))))) None) None)
    ≡ cond flat None (cond from (cond to (cond low None (cond sum None (cond near None (cond far None m)))) None) None)
same_tests true from to low sum near far good m h = refl
same_tests false false to low sum near far good m h = refl
same_tests false true to low sum near far good m h = rw (h refl refl) refl

idle : (ray : Ray) (triangle : Triangle)
    → (Ieee.le (magnitude_of (solved_of ray triangle).det) flat_limit ≡ false → Ieee.le zero32 (solved_of ray triangle).u ≡ true → Ieee.le (magnitude_of (solved_of ray triangle).t) largest32 ≡ true)
    → meet_of ray triangle ≡ meet_without ray triangle
unfolding meet_of meet_without judged_of judged_without
idle ray triangle h =
    let s = solved_of ray triangle in
    let e : judged_of s ray.shortest ray.longest ≡ judged_without s ray.shortest ray.longest = same_tests
    (Ieee.le (magnitude_of s.det) flat_limit)
    (Ieee.le zero32 s.u)
    (Ieee.le s.u one32)
    (Ieee.lt s.v zero32)
    (Ieee.lt one32 (Ieee.add binary32 s.u s.v))
    (Ieee.lt s.t ray.shortest)
    (Ieee.lt ray.longest s.t)
    (Ieee.le (magnitude_of s.t) largest32)
    (Some (hit_of s.t s.u s.v (front_of s.det)))
    h in
    rw e refl

-- a ray that starts within n·2^k, in whatever direction
pub far_same : (ray : Ray) (triangle : Triangle) (n k : ℕ) → NearPoints triangle → EachAtMost n k ray.origin → 12 ≤ k → 24 * (n + 1) < 16777216
    → 24 * (n + 1) * 2 ^ (k + 51) ≤ 16777215 * 2 ^ 104 → meet_of ray triangle ≡ meet_without ray triangle
far_same ray triangle n k p o w d r =
    idle ray triangle
    (λ h g. largest_passes _ (at_most_up _ _ _ 16777215 104 r (distance_bounded ray triangle n k p o w d (lt_of_le_of_lt r (lit< tt)) h (le_numbers zero32 _ g).1)))

-- NaN is not from 0 up
not_nan : (u : Float) → is_nan u ≡ true → Ieee.le zero32 u ≡ true → ⊥
not_nan u n g = false≢true (sym (le_numbers zero32 u g).1 ∙ n)

-- u is NaN where a component of the direction is not finite
pub wild_nan : (ray : Ray) (triangle : Triangle) → Wild ray.direction → is_nan (solved_of ray triangle).u ≡ true
unfolding solved_of
wild_nan ray triangle w = let p = cross_wild ray.direction _ w in wild_over_wild _ _ (dot_wild _ _ p) (dot_wild _ _ p)

pub wild_same : (ray : Ray) (triangle : Triangle) → Wild ray.direction → meet_of ray triangle ≡ meet_without ray triangle
wild_same ray triangle w = idle ray triangle (λ h g. absurd (not_nan _ (wild_nan ray triangle w) g))

-- a ray that row 8 accepts
pub accepted_same : (ray : Ray) (triangle : Triangle) → NearPoints triangle → bad_ray ray ≡ false → meet_of ray triangle ≡ meet_without ray triangle
accepted_same ray triangle p br = idle ray triangle (λ h g. last_test_passes ray triangle p br h)

-- ---- far beyond the limits it does show: from 2^127 up, down on (0,0,0), (2,0,0), (0,2,0)

abbrev beyond : Ray
beyond =
    record { origin = vec quarter32 quarter32 (lit 0x7f000000); direction = vec zero32 zero32 (lit 0xbf800000); shortest = zero32; longest = inf32 }

abbrev below : Triangle
below = record { p0 = vec zero32 zero32 zero32; p1 = vec two32 zero32 zero32; p2 = vec zero32 two32 zero32 }

pub departure_shows : (meet_of beyond below ≡ None) × (meet_without beyond below ≡ Some (hit_of inf32 (lit 0x3e000000) nan true))
unfolding meet_of meet_without judged_of judged_without front_of solved_of absent_of magnitude_of sub_v cross_v dot_v Ieee.of_bits Ieee.of_fields Ieee.odd Ieee.neg Ieee.le Ieee.lt Ieee.eq Ieee.add Ieee.sub Ieee.mul Ieee.div Ieee.round Ieee.sum Ieee.units Ieee.size Ieee.span Ieee.climb
departure_shows = (refl, refl)
