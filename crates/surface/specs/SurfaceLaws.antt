-- The count beside a surface's light is `extra_rays`, and at most five and one for each lamp: each step's own count, added up. Which lamps add
-- nothing, in which order they are added, and that without lamps all is as document 01 has it.
use Rattle.std.specs.Prelude.{◌≡◌, Bool, not, List, [], Float}
use Rattle.std.proofs.Math.Path.{refl}
use Rattle.std.proofs.Math.Bool.{true, false, cond, or-true}
use Prim.Native.Nat.{ℕ, zero, suc, ◌+◌, ◌≤◌}
use Rattle.std.proofs.Common.{add-zero, add_comm}
use native.Mathlib.Omega.{arith}
use Rattle.std.specs.Float.Ieee as Ieee
use Rattle.std.specs.Float.{nan, inf, fin}
use Rattle.std.specs.Float.Ieee.{is_nan, of_bits}
use Rattle.names.specs.Bits.{zero32}
use Rattle.names.specs.Numbers.{thin_limit}
use Rattle.names.specs.Scene.{Scene, scene_of, scene_for}
use Rattle.lists.specs.Fold.{fold}
use Rattle.floats.specs.Choice.{larger_of}
use Rattle.vectors.specs.Vectors.{add_v, dot_v}
use Rattle.vectors.specs.declared.Vec3.{Vec3}
use Rattle.vectors.specs.declared.Ray.{Ray}
use Rattle.limits.specs.declared.Lamp.{Lamp}
use Rattle.limits.specs.Limits.{lamp_count, lamp_at}
use Rattle.harmonics.specs.Harmonics.{raised_v, zero_v}
use Rattle.bounce.specs.Light.{black_of, slant_of, bounced_of, reflected_of}
use Rattle.bounce.specs.Lamps.{way_to, unlit_by}
use Rattle.surface.specs.declared.Setting.{Setting}
use Rattle.surface.specs.declared.Surface.{Surface}
use Rattle.surface.specs.declared.Traced.{Traced}
use Rattle.surface.specs.Extra.{reaching, extra_rays}
use Rattle.surface.specs.Surface.{surface_of, traced, seen_by, seen_of, sky_of, sun_of, daylight_of, lit_by, lit_after, fallen_on, bounced_by}

-- n·l raised to 0 is above 0 exactly where n·l is
raised_above : (x : Float) → Ieee.lt zero32 (larger_of x zero32) ≡ Ieee.lt zero32 x
unfolding larger_of is_nan of_bits Ieee.lt
raised_above nan = refl
raised_above (inf true) = refl
raised_above (inf false) = refl
raised_above (fin s m e) = go (Ieee.lt zero32 (fin s m e)) refl
  where
    go : (b : Bool) → Ieee.lt zero32 (fin s m e) ≡ b → Ieee.lt zero32 (cond b (fin s m e) zero32) ≡ b
    go true h = h
    go false h = refl

-- a surface is that of the triangle's points and material alone, whether the scene comes with a box tree or not
pub surface_unread : (boxed : Bool) (points : List Float) (uses kinds : List ℕ) (numbers boxes : List Float) (nodes order : List ℕ) (ray : Ray) (place : ℕ) (distance hit : Float)
    → surface_of (scene_for boxed points uses kinds numbers boxes nodes order) ray place distance hit ≡ surface_of (scene_of points uses kinds numbers) ray place distance hit
unfolding surface_of
surface_unread boxed points uses kinds numbers boxes nodes order ray place distance hit = refl

-- "else 4"
pub sky_rays : (scene : Scene) (setting : Setting) (surface : Surface) → (sky_of scene setting surface).rays ≡ 4
unfolding sky_of seen_of fold seen_by
sky_rays scene setting surface = refl

-- "and one more if n·l>0"
pub sun_rays : (scene : Scene) (setting : Setting) (surface : Surface)
    → (sun_of scene setting surface).rays ≡ cond (Ieee.lt zero32 (dot_v surface.normal setting.toward)) 1 0
unfolding sun_of slant_of
sun_rays scene setting surface = rw (raised_above (dot_v surface.normal setting.toward)) (go (Ieee.lt zero32 (dot_v surface.normal setting.toward)) _ _)
  where
    go : (b : Bool) (x y : Traced) → (cond b x y).rays ≡ cond b x.rays y.rays
    go true x y = refl
    go false x y = refl

pub sun_most : (scene : Scene) (setting : Setting) (surface : Surface) → (sun_of scene setting surface).rays ≤ 1
sun_most scene setting surface = rw (sun_rays scene setting surface) (go (Ieee.lt zero32 (dot_v surface.normal setting.toward)))
  where
    go : (b : Bool) → cond b 1 0 ≤ 1
    go true = omega arith
    go false = omega arith

-- sun and sky together
pub day_rays : (scene : Scene) (setting : Setting) (surface : Surface)
    → (daylight_of scene setting surface).rays ≡ 4 + cond (Ieee.lt zero32 (dot_v surface.normal setting.toward)) 1 0
unfolding daylight_of
day_rays scene setting surface = rw (sun_rays scene setting surface, sky_rays scene setting surface) (add_comm _ 4)

pub day_most : (scene : Scene) (setting : Setting) (surface : Surface) → (daylight_of scene setting surface).rays ≤ 5
unfolding daylight_of
day_most scene setting surface = omega (arith, sun_most scene setting surface, sky_rays scene setting surface)

-- ---- lamps

module _ (scene : Scene) (setting : Setting) (surface : Surface) (lamp : Lamp) (fallen : Traced) where
  -- a lamp that does not reach the surface adds nothing and fires nothing
  pub unlit_adds_nothing : unlit_by surface.normal (way_to surface.point lamp.position) ≡ true → lit_by scene setting surface lamp fallen ≡ fallen
  unfolding lit_by
  unlit_adds_nothing e = rw e

  -- so of one "with n·l not above zero"
  pub behind_adds_nothing : Ieee.lt zero32 (dot_v surface.normal (way_to surface.point lamp.position).unit) ≡ false
      → lit_by scene setting surface lamp fallen ≡ fallen
  unfolding unlit_by
  behind_adds_nothing e = unlit_adds_nothing (rw e)

  -- "or with squared distance at most 1e-12"
  pub near_adds_nothing : Ieee.le (way_to surface.point lamp.position).squared thin_limit ≡ true → lit_by scene setting surface lamp fallen ≡ fallen
  unfolding unlit_by
  near_adds_nothing e = unlit_adds_nothing (rw e (or-true (not (Ieee.lt zero32 (dot_v surface.normal (way_to surface.point lamp.position).unit)))))

  -- any other fires one ray
  pub lamp_rays : (lit_by scene setting surface lamp fallen).rays
      ≡ fallen.rays + cond (unlit_by surface.normal (way_to surface.point lamp.position)) 0 1
  unfolding lit_by
  lamp_rays = go (unlit_by surface.normal (way_to surface.point lamp.position)) _
    where
      go : (b : Bool) (x : Vec3) → (cond b fallen (record { light = x; rays = fallen.rays + 1 })).rays ≡ fallen.rays + cond b 0 1
      go true x = omega arith
      go false x = refl

pub lamp_most : (scene : Scene) (setting : Setting) (surface : Surface) (lamp : Lamp) (fallen : Traced)
    → (lit_by scene setting surface lamp fallen).rays ≤ fallen.rays + 1
lamp_most scene setting surface lamp fallen =
    rw (lamp_rays scene setting surface lamp fallen) (go (unlit_by surface.normal (way_to surface.point lamp.position)))
  where
    go : (b : Bool) → fallen.rays + cond b 0 1 ≤ fallen.rays + 1
    go true = omega arith
    go false = omega arith

pub reaching_most : (lamps : List Float) (surface : Surface) (k j : ℕ) → reaching lamps surface k j ≤ k
unfolding reaching
reaching_most lamps surface zero j = omega arith
reaching_most lamps surface (suc k) j =
    go (unlit_by surface.normal (way_to surface.point (lamp_at lamps j).position)) (reaching_most lamps surface k (j + 1))
  where
    go : (b : Bool) → reaching lamps surface k (j + 1) ≤ k → cond b 0 1 + reaching lamps surface k (j + 1) ≤ suc k
    go true h = omega arith
    go false h = omega arith

module _ (scene : Scene) (lamps : List Float) (setting : Setting) (surface : Surface) where
  pub lit_rays : (k j : ℕ) (fallen : Traced)
      → (fold (lit_after scene lamps setting surface) k j fallen).rays ≡ fallen.rays + reaching lamps surface k j
  unfolding fold reaching
  lit_rays zero j fallen = omega arith
  lit_rays (suc k) j fallen =
      omega (arith, lit_rays k (j + 1) (lit_after scene lamps setting surface j fallen), lamp_rays scene setting surface (lamp_at lamps j) fallen)

  -- "in list order": the last lamp's light is added last
  pub last_added : (n : ℕ) → lamp_count lamps ≡ suc n
      → fallen_on scene lamps setting surface
      ≡ lit_by scene setting surface (lamp_at lamps n) (fold (lit_after scene lamps setting surface) n 0 (daylight_of scene setting surface))
  unfolding fallen_on fold
  last_added n e = let z : 0 + n ≡ n = omega arith in rw e (rw z at (at_last (lit_after scene lamps setting surface) n 0 (daylight_of scene setting surface)))
    where
      at_last : (f : ℕ → Traced → Traced) (k i : ℕ) (t : Traced) → fold f (suc k) i t ≡ f (i + k) (fold f k i t)
      at_last f zero i t = rw (add-zero i) refl
      at_last f (suc k) i t = let e : i + 1 + k ≡ i + suc k = omega arith in rw (← e) (at_last f k (i + 1) (f i t))

  -- the whole count
  pub extra_rays_lem : (bounced_by scene lamps setting surface).rays ≡ extra_rays lamps setting.toward surface
  unfolding bounced_by fallen_on extra_rays
  extra_rays_lem =
      rw (← day_rays scene setting surface, ← lit_rays (lamp_count lamps) 0 (daylight_of scene setting surface))
      (go (black_of surface.albedo surface.emissive) _ _)
    where
      go : (b : Bool) (x y : Traced) → (cond b x y).rays ≡ cond b x.rays y.rays
      go true x y = refl
      go false x y = refl

  -- so at most five, and one for each lamp
  pub extra_most : (bounced_by scene lamps setting surface).rays ≤ 5 + lamp_count lamps
  unfolding extra_rays
  extra_most =
      rw extra_rays_lem
      (go (black_of surface.albedo surface.emissive) (Ieee.lt zero32 (dot_v surface.normal setting.toward)) (reaching_most lamps surface (lamp_count lamps) 0))
    where
      go : (b d : Bool) {r : ℕ} → r ≤ lamp_count lamps → cond b 0 (4 + cond d 1 0 + r) ≤ 5 + lamp_count lamps
      go true d h = omega arith
      go false true h = omega arith
      go false false h = omega arith

-- ---- without lamps

-- what a surface sends back by document 01 alone: albedo·(e/π) of sun plus sky, raised to 0, and what it glows by itself
unfoldable pub bounced_base : Scene → Setting → Surface → Traced
bounced_base scene setting surface =
    let sun = sun_of scene setting surface in
    let sky = sky_of scene setting surface in
    let sent = add_v (bounced_of surface.albedo (raised_v (add_v sun.light sky.light))) surface.emissive in
    cond (black_of surface.albedo surface.emissive) (traced zero_v 0) (traced sent (sun.rays + sky.rays))

-- "L=0 gives every old bit"
pub no_lamps : (scene : Scene) (setting : Setting) (surface : Surface) → bounced_by scene [] setting surface ≡ bounced_base scene setting surface
unfolding bounced_by bounced_base fallen_on daylight_of reflected_of fold
no_lamps scene setting surface = refl
