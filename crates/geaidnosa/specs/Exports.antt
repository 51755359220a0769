-- What a call answers over C where the public call answers what C cannot be handed: an enum becomes the paper's number and values of its case,
-- and a part of a list its refusal's number and the place where its sixteen numbers start. Every other export has the public call's own contract.
use Rattle.std.specs.Prelude.{◌≡◌, Bool, not, List, ℕ, ◌*◌, eqb, Float}
use Rattle.names.specs.Refusals.{unless_refused}
use Rattle.names.specs.Scene.{Scene}
use Rattle.vectors.specs.declared.Ray.{Ray}
use Rattle.vectors.specs.declared.Triangle.{Triangle}
use Rattle.grid.specs.declared.Axes.{Axes}
use Rattle.rays.specs.Rays.{Values, meet_values, nearest_values}
use Rattle.lookup.specs.Lookup.{part_refusal}
use Rattle.geaidnosa.specs.declared.RayHit.{RayHit}
use Rattle.geaidnosa.specs.declared.PartStart.{PartStart}

-- ---- the version

-- 0.7.0: major·1,000,000 + minor·1,000 + patch
abbrev pub version_number : ℕ
version_number = 7000

-- ---- a hit

-- the values that a struct of C holds
abbrev pub values_of : RayHit → Values
values_of r = record { number = r.refusal; hit = r.hit; place = r.place; t = r.t; u = r.u; v = r.v; front = r.front }

pub record MeetTold (ray : Ray) (triangle : Triangle) (r : RayHit) : Type 0 where
  pub values : values_of r ≡ meet_values ray triangle

pub record NearestTold (scene : Scene) (ray : Ray) (r : RayHit) : Type 0 where
  pub values : values_of r ≡ nearest_values scene ray

-- ---- one voxel's part

-- a byte that chooses: 0 the volume, any other scratch, which holds it unblurred
abbrev pub chosen : ℕ → Bool
chosen unblurred = not (eqb unblurred 0)

-- the part starts at 16·index; on a refusal at 0
pub record PartTold (axes : Axes) (volume scratch : List Float) (index unblurred : ℕ) (r : PartStart) : Type 0 where
  pub refusal : r.refusal ≡ part_refusal axes volume scratch index (chosen unblurred)
  pub start : r.start ≡ unless_refused r.refusal (index * 16) 0
