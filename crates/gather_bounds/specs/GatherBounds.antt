-- What gather writes stays within ±2^96, where the rows of the public call have passed: so a resumed call is never refused for it. A ray
-- brings at most 10 · 2^79, so that 64 of them sum to at most 1280 · 2^79 in each coefficient; irradiance at most doubles that, and the floor
-- at most doubles it again.
use Rattle.std.specs.Prelude.{Option, None, Some, ◌≡◌, true, false, ◌||◌, List, [], ◌∷◌, length, get_or, Float}
use Rattle.std.proofs.Math.Path.{refl}
use Rattle.std.proofs.Math.Bool.{and-eq-true_iff}
use Prim.Native.Nat.{ℕ, zero, suc, ◌+◌, ◌*◌, ◌/◌, ◌%◌, ◌<◌, ◌≤◌}
use Rattle.std.proofs.Common.{le_of_lt, le_trans, mul-le-mul_right, add-zero, lit<, lit≤}
use native.Mathlib.Omega.{arith}
use Rattle.std.specs.Float.Ieee as Ieee
use Rattle.std.specs.Float.{nan}
use Rattle.std.specs.Float.Ieee.{of_bits}
use Rattle.names.specs.Bits.{lit, zero32, one32}
use Rattle.names.specs.Numbers.{primary_rays, sky_numbers, point_limit, colour_limit, light_limit, coefficient_limit}
use Rattle.names.specs.Scene.{Scene}
use Rattle.lists.specs.Fold.{fold}
use Rattle.floats.specs.OrderLaws.{le_transitive}
use Rattle.vectors.specs.declared.Vec3.{Vec3}
use Rattle.vectors.specs.declared.Ray.{Ray}
use Rattle.vectors.specs.Vectors.{normal_v}
use Rattle.bounds.specs.Bounds.{AtMost, EachAtMost}
use Rattle.bounds.specs.BoundsLaws.{at_most_of_value, at_most_up, at_most_finite, at_most_of_test, div_at_most, int_at_most, zero_at_most, one_value, point_value, colour_value, light_value, coefficient_value}
use Rattle.bounds.specs.VectorLaws.{each_up, dot_at_most}
use Rattle.bounds.specs.NormalLaws.{thin_normal_within}
use Rattle.grid_laws.specs.RowBounds.{within_at_most, at_most_within, within_each}
use Rattle.directions.specs.Table.{directions}
use Rattle.directions.specs.Sets.{set_below}
use Rattle.directions.specs.RuleLaws.{Small}
use Rattle.directions.proofs.RuleLaws.{number_small}
use Rattle.grid.specs.Grid.{x_of, y_of, z_of, float_of, edges_of}
use Rattle.limits.specs.Limits.{within, up_to, wrong_scene, too_many, bad_points, bad_materials, bad_direction, bad_colour, bad_light, bad_ambient, bad_sky, bad_lights, lamp_at, bad_lamps}
use Rattle.limits.specs.LimitsLaws.{either, any_of_three, points_row, materials_row, transmission_within, colour_within, sound, direction_row, sky_row, lights_row, lamp_row, lamps_row}
use Rattle.limits.specs.declared.Light.{Light}
use Rattle.limits.specs.declared.Ambient.{Ambient}
use Rattle.vectors.specs.Places.{vec_at}
use Rattle.scan.specs.Nearest.{nearest_of, nearest_to}
use Rattle.scan.specs.declared.PlacedHit.{PlacedHit}
use Rattle.harmonics.specs.declared.Coefficients.{Coefficients}
use Rattle.surface.specs.declared.Setting.{Setting}
use Rattle.gather.specs.declared.Gathering.{Gathering}
use Rattle.gather.specs.Gather.{GatherInput, ambient_of, setting_of, direction_at, primary_ray, incoming_by, gathered_along, along_from, nothing_gathered, gathering_of, set_at, voxel_of, finished_of, sixteen_of, sky_seen, gathered_of}
use Rattle.gather.specs.GatherLaws.{misses_most, length_gathered}
use Rattle.gather_bounds.specs.Each.{zero_each, AllAtMost, sixty_four}
use Rattle.gather_bounds.specs.LightBounds.{added_all, irradiance_all, raised_all, floored_all}
use Rattle.gather_bounds.specs.SceneBounds.{Modest, ModestSetting, ModestLamps, FoundAt, nearest_found, surface_small, bounced_small}

-- ---- a direction's components are at most 2

small_at_most : (x : Float) → Small x → AtMost 2 0 x
small_at_most x h = at_most_of_value x h.in_units.negative h.in_units.size 2 0 h.in_units.exact (le_trans (le_of_lt h.below) (lit≤ tt))

component_small : (k c : ℕ) → k < 576 → c < 3 → AtMost 2 0 (get_or directions (k * 3 + c) nan)
component_small k c h p =
    let e : 64 * (k / 64) + k % 64 ≡ k = omega arith in
    small_at_most _ (rw e at (number_small (k / 64) (k % 64) c (omega arith) (omega arith) p))

pub direction_small : (k : ℕ) → k < 576 → EachAtMost 2 0 (direction_at k)
direction_small k h =
    record { x = rw add-zero at (component_small k 0 h (lit< tt)); y = component_small k 1 h (lit< tt); z = component_small k 2 h (lit< tt) }

-- ---- what comes back along a ray: at most 10 · 2^79

incoming_small : (s : Scene) (m : Modest s) (l : List Float) → ModestLamps l → (g : Setting) → ModestSetting g → (ray : Ray) (sky : Vec3) → EachAtMost 1 16 sky
    → (n : ℕ) → n ≤ length s.uses → (found : Option PlacedHit) → FoundAt s m ray n found → EachAtMost 10 79 (incoming_by s l g ray sky found).radiance
unfolding incoming_by
incoming_small s m l b g h ray sky k n q None f = each_up sky 1 16 10 79 (lit≤ tt) k
incoming_small s m l b g h ray sky k n q (Some met) f =
    bounced_small s m g h _ (surface_small s m ray met.place met.hit g.biases.hit (omega (arith, f.0)) f.1) l b

-- ---- the sums

module _ (s : Scene) (m : Modest s) (l : List Float) (b : ModestLamps l) (g : Setting) (h : ModestSetting g) (centre : Vec3) (sky : List Float) (first : ℕ) (fits : first + 64 ≤ 576) (skies : (k : ℕ) → k < sky_numbers → AtMost 1 16 (get_or sky k nan)) where
  sky_small : (k : ℕ) → k < 576 → EachAtMost 1 16 (vec_at sky (k * 3))
  sky_small k p = record { x = skies (k * 3) (omega arith); y = skies (k * 3 + 1) (omega arith); z = skies (k * 3 + 2) (omega arith) }

  along_small : (k n : ℕ) (t : Gathering) → k < 576 → n ≤ 1280 → AllAtMost n 79 t.sums → AllAtMost (n + 20) 79 (gathered_along s l g centre sky k t).sums
  unfolding gathered_along nearest_of
  along_small k n t p q a =
      let ray = primary_ray g centre (direction_at k) in
      added_all t.sums (direction_at k) _ n q a (direction_small k p)
      (incoming_small s m l b g h ray (vec_at sky (k * 3)) (sky_small k p) (length s.uses) (omega arith) (nearest_to s ray (length s.uses)) (nearest_found s m ray (length s.uses)))

  fold_small : (k i : ℕ) (t : Gathering) → i + k ≡ 64 → AllAtMost (20 * i) 79 t.sums → AllAtMost 1280 79 (fold (along_from s l g centre sky first) k i t).sums
  unfolding fold
  fold_small zero i t e a = let q : 20 * i ≡ 1280 = omega arith in rw q at a
  fold_small (suc k) i t e a =
      let q : 20 * i + 20 ≡ 20 * (i + 1) = omega arith in
      fold_small k (i + 1) (along_from s l g centre sky first i t) (omega arith) (rw q at (along_small (first + i) (20 * i) t (omega arith) (omega arith) a))

  pub sums_small : AllAtMost 1280 79 (gathering_of s l g centre sky first).sums
  unfolding gathering_of
  sums_small = fold_small primary_rays 0 nothing_gathered refl (record { c0 = zero_each 0 79; c1 = zero_each 0 79; c2 = zero_each 0 79; c3 = zero_each 0 79 })

-- ---- the rows

-- what the public call has shown of its arguments
pub record Rows (g : GatherInput) : Type 0 where
  pub lists : wrong_scene g.scene.points g.scene.uses g.scene.kinds g.scene.numbers ≡ false
  pub many : too_many (length g.scene.uses) (length g.scene.kinds) ≡ false
  pub points : bad_points g.scene.points ≡ false
  pub materials : bad_materials g.scene.uses g.scene.kinds g.scene.numbers ≡ false
  pub light : bad_light g.light ≡ false
  pub ambient : bad_ambient g.ambient ≡ false
  pub sky : bad_sky g.sky ≡ false
  pub skies : length g.sky ≡ sky_numbers
  pub lamps : bad_lamps g.lamps ≡ false
  pub lights : bad_lights g.lights ≡ false

colour_at_most : (x : Float) → within colour_limit x ≡ true → AtMost 1 16 x
colour_at_most x h = within_at_most colour_limit x 1 16 colour_value h

point_at_most : (x : Float) → within point_limit x ≡ true → AtMost 1 12 x
point_at_most x h = within_at_most point_limit x 1 12 point_value h

light_at_most : (x : Float) → within light_limit x ≡ true → AtMost 1 64 x
light_at_most x h = within_at_most light_limit x 1 64 light_value h

minus_one_lem : Ieee.le (Ieee.neg one32) zero32 ≡ true
unfolding Ieee.le Ieee.lt Ieee.eq Ieee.neg of_bits
minus_one_lem = refl

transmission_at_most : (x : Float) → up_to one32 x ≡ true → AtMost 1 0 x
unfolding up_to
transmission_at_most x h =
    at_most_of_test x one32 1 0 one_value (le_transitive (Ieee.neg one32) zero32 x minus_one_lem ((and-eq-true_iff (Ieee.le zero32 x) (Ieee.le x one32)).0 h).0) ((and-eq-true_iff (Ieee.le zero32 x) (Ieee.le x one32)).0 h).1

each_colour : (v : Vec3) → bad_colour v ≡ false → EachAtMost 1 16 v
each_colour v h = within_each colour_limit v 1 16 colour_value h

pub modest : (g : GatherInput) → Rows g → Modest g.scene
modest g r =
    let q = sound g.scene r.lists r.many r.materials in
    let n = ((materials_row g.scene.uses g.scene.kinds g.scene.numbers).0 r.materials).1 in
    record {
      sound = q;
      points = λ i h. point_at_most _ ((points_row g.scene.points).0 r.points i h);
      colours = λ m c h k. colour_at_most _ (colour_within g.scene.numbers n (m * 7 + c) (omega (arith, q.numbers)) (λ e. omega arith));
      transmissions = λ m h. transmission_at_most _ (transmission_within g.scene.numbers n (m * 7 + 6) (omega (arith, q.numbers)) (omega arith));
    }

toward_small : (d : Vec3) → bad_direction d ≡ false → EachAtMost 1 1 (normal_v d)
toward_small d h =
    let p = (direction_row d).0 h in
    let e = within_each point_limit d 1 12 point_value p.0 in
    thin_normal_within d p.1 (at_most_finite _ 3 24 (dot_at_most d d 1 12 1 12 (lit< tt) (lit< tt) e e))

ambient_small : (a : Ambient) → bad_ambient a ≡ false → AllAtMost 1 16 (ambient_of a)
unfolding bad_ambient
ambient_small a h =
    let p = (either (bad_colour a.c0 || bad_colour a.c1 || bad_colour a.c2) (bad_colour a.c3)).0 h in
    let q = (any_of_three (bad_colour a.c0) (bad_colour a.c1) (bad_colour a.c2)).0 p.0 in
    record { c0 = each_colour a.c0 q.0; c1 = each_colour a.c1 q.1; c2 = each_colour a.c2 q.2; c3 = each_colour a.c3 p.1 }

pub setting_small : (edges : Vec3) (l : Light) (a : Ambient) → bad_light l ≡ false → bad_ambient a ≡ false → ModestSetting (setting_of edges l a)
unfolding bad_light setting_of
setting_small edges l a h k =
    let p = (either (bad_direction l.direction) (bad_colour l.colour)).0 h in
    record { toward = toward_small l.direction p.0; colour = each_colour l.colour p.1; ambient = ambient_small a k }

lamps_small : (l : List Float) → bad_lamps l ≡ false → ModestLamps l
lamps_small l h =
    let p = (lamps_row l).0 h in
    record { few = p.0; each = λ j k. record { colour = each_colour (lamp_at l j).colour ((lamp_row (lamp_at l j)).0 (p.1 j k)).1 } }

-- ---- the sixteen numbers

abbrev Every : List Float → Type 0
Every [] = Unit
Every (x ∷ l) = AtMost 1 96 x × Every l

every_at : (l : List Float) → Every l → (c : ℕ) → c < length l → AtMost 1 96 (get_or l c nan)
every_at [] e c h = absurd (omega arith)
every_at (x ∷ l) e zero h = e.0
every_at (x ∷ l) e (suc c) h = every_at l e.1 c (omega arith)

seen_small : (n : ℕ) → n ≤ primary_rays → AtMost 1 96 (sky_seen n)
seen_small n h =
    at_most_up _ 1 0 1 96 (lit≤ tt) (div_at_most (float_of n) (lit 0x42800000) 1 64 0 0 (lit< tt) (lit< tt) (lit< tt) (at_most_up (float_of n) n 0 64 0 (mul-le-mul_right {m = n} {n = 64} 1 h) (int_at_most n (omega arith))) sixty_four)

wide : (v : Vec3) → EachAtMost 5121 79 v → EachAtMost 1 96 v
wide v h = each_up v 5121 79 1 96 (lit≤ tt) h

sixteen_small : (c : Coefficients) (light seen : Float) → AllAtMost 5121 79 c → AtMost 1 64 light → AtMost 1 96 seen → Every (sixteen_of c light seen)
unfolding sixteen_of
sixteen_small c light seen h l s =
    let a = wide c.c0 h.c0 in
    let b = wide c.c1 h.c1 in
    let d = wide c.c2 h.c2 in
    let e = wide c.c3 h.c3 in
    let z = zero_at_most 1 96 in
    (a.x, (a.y, (a.z, (at_most_up light 1 64 1 96 (lit≤ tt) l, (b.x, (b.y, (b.z, (s, (d.x, (d.y, (d.z, (z, (e.x, (e.y, (e.z, (z, tt))))))))))))))))

-- the law: each of the sixteen numbers passes the test of row 13
pub gathered_within : (g : GatherInput) (i : ℕ) → Rows g → i < length g.lights → (c : ℕ) → c < 16 → within coefficient_limit (get_or (gathered_of g i) c nan) ≡ true
unfolding gathered_of finished_of voxel_of
gathered_within g i r h c k =
    let a = g.axes in
    let m = modest g r in
    let t = setting_small (edges_of g.corners a) g.light g.ambient r.light r.ambient in
    let skies = (sky_row g.sky).0 r.sky in
    let sums = sums_small g.scene m g.lamps (lamps_small g.lamps r.lamps) _ t _ g.sky (set_at a i * primary_rays) (omega (arith, set_below (x_of a i) (y_of a i) (z_of a i))) (λ j p. colour_at_most _ (skies j (omega (arith, r.skies)))) in
    let done = floored_all _ (ambient_of g.ambient) (raised_all _ 2560 79 (irradiance_all _ sums)) (ambient_small g.ambient r.ambient) in
    let every = sixteen_small _ (get_or g.lights i nan) _ done (light_at_most _ ((lights_row g.lights).0 r.lights i h)) (seen_small _ (misses_most g i)) in
    let x = every_at (gathered_of g i) every c (rw (length_gathered g i) k) in
    at_most_within coefficient_limit _ 1 96 coefficient_value x
