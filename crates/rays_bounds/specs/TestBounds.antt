-- How large the numbers of the test are, of a ray that starts within n·2^k: once the determinant has passed, |u| and |v| are at most 12·(n+1)·2^(k+40) and |t| is
-- at most 24·(n+1)·2^(k+51), and of t that holds whatever the direction, infinite or NaN too. So within the limits every number is finite: the departure that makes
-- a non-finite distance a miss never shows for an accepted call, and a hit's u and v are numbers.
use Rattle.std.specs.Prelude.{◌≡◌, refl, Some, Bool, true, false, ◌||◌, List, length, get_or, Float}
use Rattle.std.proofs.Common.{sym, le_refl, mul-le-mul, lt_of_le_of_lt, arith, lit<, lit≤, pow_mono}
use Rattle.std.proofs.lemmas.Bool.{false≢true}
use Prim.Native.Nat.{ℕ, ◌+◌, ◌*◌, ◌^◌, ◌≤◌, ◌<◌, zero-le}
use Rattle.std.specs.Float.{nan, inf, fin, binary32}
use Rattle.std.specs.Float.Ieee.{mul, div, le, lt, eq, is_nan, of_bits}
use Rattle.std.specs.Float.Ieee.Exact.{HasValue}
use Rattle.std.specs.Float.Ieee.Scale.{finite}
use Rattle.names.specs.Bits.{lit, one32}
use Rattle.names.specs.Numbers.{point_limit, origin_limit, direction_limit, flat_limit}
use Rattle.floats.specs.Choice.{magnitude_of}
use Rattle.floats.specs.OrderLaws.{not_lt_le, le_transitive}
use Rattle.floats.specs.FiniteLaws.{finite_number}
use Rattle.vectors.specs.declared.Ray.{Ray}
use Rattle.vectors.specs.declared.Triangle.{Triangle}
use Rattle.vectors.specs.Vectors.{sub_v, cross_v}
use Rattle.limits.specs.Limits.{bad_points, bad_triangle, bad_ray}
use Rattle.limits.specs.LimitsLaws.{any_of_three, points_row, ray_row}
use Rattle.bounds.specs.Bounds.{AtMost, AtLeast, EachAtMost}
use Rattle.bounds.specs.BoundsLaws.{at_most_up, test_of_at_most, at_least_of_test, at_most_finite, magnitude_at_most, mul_at_most, div_at_most, one_at_most, point_value, colour_value, direction_value}
use Rattle.bounds.specs.VectorLaws.{each_up, sub_each, dot_at_most, cross_each}
use Rattle.grid_laws.specs.RowBounds.{within_at_most, within_each}
use Rattle.triangle.specs.Meet.{largest32, solved_of, meet_of}
use Rattle.vectors.specs.Places.{vec_at}
use Rattle.triangle.specs.Places.{triangle_at}
use Rattle.triangle.specs.Laws.{hit_met}
use Rattle.triangle.specs.declared.Hit.{Hit}

least : HasValue (lit 0x32000000) false 1 (2 ^ 27)
unfolding of_bits
least = (refl, refl)

smaller : le (lit 0x32000000) flat_limit ≡ true
unfolding le lt eq of_bits
smaller = refl

flat_number : is_nan flat_limit ≡ false
unfolding is_nan of_bits
flat_number = refl

or_first : (a b : Bool) → a || b ≡ false → a ≡ false
or_first true b h = h
or_first false b h = refl

not_below : (x y : Float) → le x y ≡ false → lt x y ≡ false
unfolding le
not_below x y h = or_first (lt x y) (eq x y) h

above : (y : Float) → is_nan y ≡ false → le y flat_limit ≡ false → le (lit 0x32000000) y ≡ true
above y n g = le_transitive (lit 0x32000000) flat_limit y smaller (not_lt_le flat_limit y flat_number n (not_below y flat_limit g))

-- what is not at most 1e-8 in magnitude is at least 2^-27
steep : (x : Float) → finite x ≡ true → le (magnitude_of x) flat_limit ≡ false → AtLeast 1 27 x
unfolding AtLeast magnitude_of is_nan
steep nan f h = absurd (false≢true f)
steep (inf s) f h = absurd (false≢true f)
steep (fin s m e) f h = at_least_of_test (fin false m e) (lit 0x32000000) 1 27 least refl (above (fin false m e) refl h)

-- ---- a triangle whose points lie within ±4,096

pub record NearPoints (triangle : Triangle) : Type 0 where
  pub p0 : EachAtMost 1 12 triangle.p0
  pub p1 : EachAtMost 1 12 triangle.p1
  pub p2 : EachAtMost 1 12 triangle.p2

pub near_points : (triangle : Triangle) → bad_triangle triangle ≡ false → NearPoints triangle
unfolding bad_triangle
near_points triangle h =
    let t = (any_of_three _ _ _).0 h in
    record { p0 = within_each point_limit _ 1 12 point_value t.0; p1 = within_each point_limit _ 1 12 point_value t.1; p2 = within_each point_limit _ 1 12 point_value t.2 }

-- the triangle at a place of a list that row 5 accepts
pub near_place : (points : List Float) (i : ℕ) → bad_points points ≡ false → i * 9 + 8 < length points → NearPoints (triangle_at points i)
unfolding triangle_at
near_place points i h l = record { p0 = first; p1 = at 3 (omega arith); p2 = at 6 (omega arith) }
  where
    number : (j : ℕ) → j < length points → AtMost 1 12 (get_or points j nan)
    number j q = within_at_most point_limit _ 1 12 point_value ((points_row points).0 h j q)

    first : EachAtMost 1 12 (vec_at points (i * 9))
    first = record { x = number (i * 9) (omega arith); y = number (i * 9 + 1) (omega arith); z = number (i * 9 + 2) (omega arith) }

    at : (c : ℕ) → c + 2 < 9 → EachAtMost 1 12 (vec_at points (i * 9 + c))
    at c q = record { x = number (i * 9 + c) (omega arith); y = number (i * 9 + c + 1) (omega arith); z = number (i * 9 + c + 2) (omega arith) }

-- ---- the numbers of the test, of a ray that starts within n·2^k

-- 1 over a determinant that is not flat: over an infinity it is a zero
inverse_small : (d : Float) → is_nan d ≡ false → le (magnitude_of d) flat_limit ≡ false → AtMost 1 27 (div binary32 one32 d)
unfolding is_nan
inverse_small nan o h = absurd (false≢true (sym o))
inverse_small (inf s) o h = unfold div AtMost of_bits in zero-le
inverse_small (fin s m e) o h =
    div_at_most one32 (fin s m e) 1 1 0 27 (lit< tt) (lit< tt) (lit< tt) one_at_most (steep (fin s m e) refl h)

-- over NaN it is NaN
number_under : (x d : Float) → is_nan (mul binary32 x (div binary32 one32 d)) ≡ false → is_nan d ≡ false
unfolding is_nan mul div of_bits
number_under nan nan h = h
number_under (inf s) nan h = h
number_under (fin s m e) nan h = h
number_under x (inf t) h = refl
number_under x (fin t n d) h = refl

less : (a b i j : ℕ) → a ≤ b → i ≤ j → b * 2 ^ j < 2 ^ 128 → a * 2 ^ i < 2 ^ 128
less a b i j h g l = lt_of_le_of_lt (mul-le-mul h (pow_mono g)) l

again : (x : Float) (n l k j : ℕ) → n ≡ l → k ≡ j → AtMost n k x → AtMost l j x
again x n l k j p q h = rw (sym p, sym q) h

pub record Bounded (n k : ℕ) (ray : Ray) (triangle : Triangle) : Type 0 where
  pub u : AtMost (12 * (n + 1)) (k + 40) (solved_of ray triangle).u
  pub v : AtMost (12 * (n + 1)) (k + 40) (solved_of ray triangle).v
  pub t : AtMost (24 * (n + 1)) (k + 51) (solved_of ray triangle).t

module _ (ray : Ray) (triangle : Triangle) (n k : ℕ) (points : NearPoints triangle) (start : EachAtMost n k ray.origin) (wide : 12 ≤ k) (digits : 24 * (n + 1) < 16777216) (room : 24 * (n + 1) * 2 ^ (k + 51) < 2 ^ 128) where
  e1_small : EachAtMost 2 12 (sub_v triangle.p1 triangle.p0)
  e1_small = sub_each triangle.p1 triangle.p0 1 1 12 (lit< tt) (lit< tt) points.p1 points.p0

  e2_small : EachAtMost 2 12 (sub_v triangle.p2 triangle.p0)
  e2_small = sub_each triangle.p2 triangle.p0 1 1 12 (lit< tt) (lit< tt) points.p2 points.p0

  s_small : EachAtMost (n + 1) k (sub_v ray.origin triangle.p0)
  s_small =
      sub_each ray.origin triangle.p0 n 1 k (omega arith) (less (n + 1) (24 * (n + 1)) k (k + 51) (omega arith) (omega arith) room) start
      (each_up triangle.p0 1 12 1 k (mul-le-mul (le_refl 1) (pow_mono wide)) points.p0)

  q_small : EachAtMost ((n + 1) * 2 + (n + 1) * 2) (k + 12) (cross_v (sub_v ray.origin triangle.p0) (sub_v triangle.p1 triangle.p0))
  q_small = cross_each _ _ (n + 1) k 2 12 (omega arith) (less _ (24 * (n + 1)) (k + 12) (k + 51) (omega arith) (omega arith) room) s_small e1_small

  -- whatever the direction: where the determinant is not flat and u is a number, the distance is bounded
  pub distance_bounded : le (magnitude_of (solved_of ray triangle).det) flat_limit ≡ false → is_nan (solved_of ray triangle).u ≡ false
      → AtMost (24 * (n + 1)) (k + 51) (solved_of ray triangle).t
  unfolding solved_of
  distance_bounded h o =
      let m = (n + 1) * 2 + (n + 1) * 2 in
      let along = dot_at_most _ _ 2 12 m (k + 12) (omega arith) (less _ (24 * (n + 1)) (12 + (k + 12)) (k + 51) (omega arith) (omega arith) room) e2_small q_small in
      again _ _ (24 * (n + 1)) _ (k + 51) (omega arith) (omega arith)
      (mul_at_most _ _ (2 * m + 2 * m + 2 * m) (12 + (k + 12)) 1 27 (omega arith) (less _ (24 * (n + 1)) _ (k + 51) (omega arith) (omega arith) room) along (inverse_small _ (number_under _ _ o) h))

  -- along a direction whose components are at most 2, every number is
  pub numbers_bounded : EachAtMost 1 1 ray.direction → le (magnitude_of (solved_of ray triangle).det) flat_limit ≡ false → Bounded n k ray triangle
  unfolding solved_of
  numbers_bounded d h =
      let m = (n + 1) * 2 + (n + 1) * 2 in
      let p = cross_each ray.direction _ 1 1 2 12 (lit< tt) (lit< tt) d e2_small in
      let det = dot_at_most _ _ 2 12 4 13 (lit< tt) (lit< tt) e1_small p in
      let inverse = inverse_small _ (finite_number _ (at_most_finite _ 24 25 det)) h in
      let sp = dot_at_most _ _ (n + 1) k 4 13 (omega arith) (less _ (24 * (n + 1)) (k + 13) (k + 51) (omega arith) (omega arith) room) s_small p in
      let dq = dot_at_most _ _ 1 1 m (k + 12) (omega arith) (less _ (24 * (n + 1)) (1 + (k + 12)) (k + 51) (omega arith) (omega arith) room) d q_small in
      let u = mul_at_most _ _ _ (k + 13) 1 27 (omega arith) (less _ (24 * (n + 1)) _ (k + 51) (omega arith) (omega arith) room) sp inverse in
      record {
        u = again _ _ (12 * (n + 1)) _ (k + 40) (omega arith) (omega arith) u;
        v = again _ _ (12 * (n + 1)) _ (k + 40) (omega arith) (omega arith) (mul_at_most _ _ _ (1 + (k + 12)) 1 27 (omega arith) (less _ (24 * (n + 1)) _ (k + 51) (omega arith) (omega arith) room) dq inverse);
        t = distance_bounded h (finite_number _ (at_most_finite _ _ _ u));
      }

-- of a ray that row 8 accepts: |u| and |v| are at most 204·2^52, |t| is at most 408·2^63
pub test_bounded : (ray : Ray) (triangle : Triangle) → NearPoints triangle → bad_ray ray ≡ false
    → le (magnitude_of (solved_of ray triangle).det) flat_limit ≡ false → Bounded 16 12 ray triangle
test_bounded ray triangle p br h =
    let rows = (ray_row ray).0 br in
    let o = each_up ray.origin 1 16 16 12 (lit≤ tt) (within_each origin_limit ray.origin 1 16 colour_value rows.0) in
    let d = within_each direction_limit ray.direction 1 1 direction_value rows.1 in
    numbers_bounded ray triangle 16 12 p o (lit≤ tt) (lit< tt) (lit< tt) d h

largest_value : HasValue largest32 false (16777215 * 2 ^ 104) 1
unfolding of_bits
largest_value = (refl, refl)

pub largest_passes : (t : Float) → AtMost 16777215 104 t → le (magnitude_of t) largest32 ≡ true
largest_passes t h = (test_of_at_most _ largest32 16777215 104 largest_value (magnitude_at_most _ 16777215 104 h)).1

-- the last test of the definition, that the distance is finite, passes wherever it is reached
pub last_test_passes : (ray : Ray) (triangle : Triangle) → NearPoints triangle → bad_ray ray ≡ false
    → le (magnitude_of (solved_of ray triangle).det) flat_limit ≡ false → le (magnitude_of (solved_of ray triangle).t) largest32 ≡ true
last_test_passes ray triangle p br h = largest_passes _ (at_most_up _ 408 63 16777215 104 (lit≤ tt) (test_bounded ray triangle p br h).t)

-- a hit's distance, u and v are finite
pub hit_finite : (ray : Ray) (triangle : Triangle) (h : Hit) → NearPoints triangle → bad_ray ray ≡ false → meet_of ray triangle ≡ Some h
    → (finite h.t ≡ true) × (finite h.u ≡ true) × (finite h.v ≡ true)
hit_finite ray triangle h p br e =
    let m = hit_met ray triangle h e in
    let b = test_bounded ray triangle p br m.steep in
    (rw m.distance (at_most_finite _ 408 63 b.t), rw m.first (at_most_finite _ 204 52 b.u), rw m.second (at_most_finite _ 204 52 b.v))
