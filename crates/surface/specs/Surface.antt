-- A surface that a ray has met, the rays that it takes, and the light that it sends back. "Extra rays for a hit: 0 if albedo and emissive
-- both have squared length ≤0, else 4, and one more if n·l>0", and one more for each lamp that reaches it. A ray is counted where it is
-- traced. gi.rs decides every order but that of the lamps. Definitions only.
use Rattle.std.specs.Prelude.{cond, List, ℕ, ◌+◌, ◌*◌, get_or, Float}
use Rattle.std.specs.Float.Ieee as Ieee
use Rattle.std.specs.Float.{binary32}
use Rattle.names.specs.Bits.{zero32, quarter32}
use Rattle.names.specs.Scene.{Scene}
use Rattle.lists.specs.Fold.{fold}
use Rattle.vectors.specs.Vectors.{add_v, clamp_v}
use Rattle.vectors.specs.declared.Vec3.{Vec3}
use Rattle.vectors.specs.declared.Ray.{Ray}
use Rattle.limits.specs.declared.Lamp.{Lamp}
use Rattle.limits.specs.Limits.{lamp_count, lamp_at}
use Rattle.vectors.specs.Places.{vec_at}
use Rattle.triangle.specs.Places.{triangle_at}
use Rattle.scan.specs.Transmittance.{transmittance_of}
use Rattle.harmonics.specs.Harmonics.{raised_v, zero_v}
use Rattle.bounce.specs.declared.Basis.{Basis}
use Rattle.vectors.specs.Rays.{point_at, ray_from}
use Rattle.bounce.specs.declared.Way.{Way}
use Rattle.bounce.specs.Hemisphere.{basis_of, sky_direction}
use Rattle.bounce.specs.Light.{face_normal, facing_of, black_of, slant_of, sunlight_of, skylight_of, reflected_of}
use Rattle.bounce.specs.Lamps.{way_to, unlit_by, lamp_ray_from, lamplight_of}
use Rattle.surface.specs.declared.Setting.{Setting}
use Rattle.surface.specs.declared.Surface.{Surface}
use Rattle.surface.specs.declared.Seen.{Seen}
use Rattle.surface.specs.declared.Traced.{Traced}

abbrev pub seen : Float → ℕ → Seen
seen s n = record { sum = s; rays = n }

abbrev pub traced : Vec3 → ℕ → Traced
traced l n = record { light = l; rays = n }

-- ---- what a ray has met

-- the material that the triangle at a place uses, and where its seven numbers begin
abbrev pub numbers_at : Scene → ℕ → ℕ
numbers_at scene place = get_or scene.uses place 0 * 7

-- base colour, clamped to 0..1, and emissive, raised to 0
abbrev pub albedo_at : Scene → ℕ → Vec3
albedo_at scene place = clamp_v (vec_at scene.numbers (numbers_at scene place))

abbrev pub emissive_at : Scene → ℕ → Vec3
emissive_at scene place = raised_v (vec_at scene.numbers (numbers_at scene place + 3))

-- the normal on the ray's side
abbrev pub normal_at : Scene → Ray → ℕ → Vec3
normal_at scene ray place = facing_of (face_normal (triangle_at scene.points place)) ray.direction

-- the surface at a place, met at a distance: it is shaded at the point met, moved along the normal by the hit bias
unfoldable pub surface_of : Scene → Ray → ℕ → Float → Float → Surface
surface_of scene ray place distance hit =
    record { point = point_at (point_at ray.origin ray.direction distance) (normal_at scene ray place) hit; normal = normal_at scene ray place; albedo = albedo_at scene place; emissive = emissive_at scene place }

-- ---- its rays

-- to the sun
unfoldable pub shadow_ray : Setting → Surface → Ray
shadow_ray setting surface = ray_from surface.point setting.toward setting.biases.step setting.biases.shortest

-- along hemisphere direction j of a basis
unfoldable pub sky_ray_in : Setting → Surface → Basis → ℕ → Ray
sky_ray_in setting surface basis j =
    ray_from surface.point (sky_direction basis j) setting.biases.step setting.biases.shortest

-- along hemisphere direction j of the surface's normal
abbrev pub sky_ray : Setting → Surface → ℕ → Ray
sky_ray setting surface j = sky_ray_in setting surface (basis_of surface.normal) j

-- to a lamp
unfoldable pub lamp_ray : Setting → Surface → Way → Ray
lamp_ray setting surface way = lamp_ray_from surface.point way setting.biases.shortest

-- ---- the light on it

-- the transmittance along a ray, added to the sum
unfoldable pub seen_by : Scene → Ray → Seen → Seen
seen_by scene ray s = seen (Ieee.add binary32 s.sum (transmittance_of scene ray)) (s.rays + 1)

-- along ray j of the hemisphere
abbrev pub seen_after : Scene → Setting → Surface → ℕ → Seen → Seen
seen_after scene setting surface j s = seen_by scene (sky_ray setting surface j) s

-- of the four, in order
unfoldable pub seen_of : Scene → Setting → Surface → Seen
seen_of scene setting surface = fold (seen_after scene setting surface) 4 0 (seen zero32 0)

-- the sky's light: the four by a quarter
unfoldable pub sky_of : Scene → Setting → Surface → Traced
sky_of scene setting surface =
    let s = seen_of scene setting surface in
    traced (skylight_of setting.ambient surface.normal (Ieee.mul binary32 s.sum quarter32)) s.rays

-- the sun's light, where the sun is above the surface
unfoldable pub sun_of : Scene → Setting → Surface → Traced
sun_of scene setting surface =
    let slant = slant_of surface.normal setting.toward in
    cond (Ieee.lt zero32 slant) (traced (sunlight_of setting.colour slant (transmittance_of scene (shadow_ray setting surface))) 1) (traced zero_v 0)

-- sun plus sky
unfoldable pub daylight_of : Scene → Setting → Surface → Traced
daylight_of scene setting surface =
    let sun = sun_of scene setting surface in
    let sky = sky_of scene setting surface in
    traced (add_v sun.light sky.light) (sun.rays + sky.rays)

-- with a lamp's light added to what has fallen so far, where the lamp reaches the surface
unfoldable pub lit_by : Scene → Setting → Surface → Lamp → Traced → Traced
lit_by scene setting surface lamp fallen =
    let way = way_to surface.point lamp.position in
    let light = lamplight_of lamp.colour surface.normal way (transmittance_of scene (lamp_ray setting surface way)) in
    cond (unlit_by surface.normal way) fallen (traced (add_v fallen.light light) (fallen.rays + 1))

abbrev pub lit_after : Scene → List Float → Setting → Surface → ℕ → Traced → Traced
lit_after scene lamps setting surface j fallen = lit_by scene setting surface (lamp_at lamps j) fallen

-- "One by one, in list order, they are added to sun plus sky."
unfoldable pub fallen_on : Scene → List Float → Setting → Surface → Traced
fallen_on scene lamps setting surface =
    fold (lit_after scene lamps setting surface) (lamp_count lamps) 0 (daylight_of scene setting surface)

-- what it sends back, and the rays that this takes: "A black surface still fires none."
unfoldable pub bounced_by : Scene → List Float → Setting → Surface → Traced
bounced_by scene lamps setting surface =
    let fallen = fallen_on scene lamps setting surface in
    cond (black_of surface.albedo surface.emissive) (traced zero_v 0)
    (traced (reflected_of surface.albedo surface.emissive fallen.light) fallen.rays)
