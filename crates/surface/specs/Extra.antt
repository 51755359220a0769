-- The extra rays of a surface that a ray has met, by the customer's words alone: no light is in it. Definitions only; `extra_rays_lem` of SurfaceLaws
-- shows that the count beside the light is this.
use Rattle.std.specs.Prelude.{cond, List, ℕ, zero, suc, ◌+◌, Float}
use Rattle.std.specs.Float.Ieee as Ieee
use Rattle.names.specs.Bits.{zero32}
use Rattle.vectors.specs.Vectors.{dot_v}
use Rattle.vectors.specs.declared.Vec3.{Vec3}
use Rattle.limits.specs.Limits.{lamp_count, lamp_at}
use Rattle.bounce.specs.Light.{black_of}
use Rattle.bounce.specs.Lamps.{way_to, unlit_by}
use Rattle.surface.specs.declared.Surface.{Surface}

-- one ray for each of the k lamps from j on, but "A lamp with n·l not above zero, or with squared distance at most 1e-12, fires no ray"
unfoldable pub reaching : List Float → Surface → ℕ → ℕ → ℕ
reaching lamps surface zero j = 0
reaching lamps surface (suc k) j =
    cond (unlit_by surface.normal (way_to surface.point (lamp_at lamps j).position)) 0 1 + reaching lamps surface k (j + 1)

-- "Extra rays for a hit: 0 if albedo and emissive both have squared length ≤0, else 4, and one more if n·l>0", l toward the sun; and those for lamps
unfoldable pub extra_rays : List Float → Vec3 → Surface → ℕ
extra_rays lamps toward surface =
    let sun : ℕ = cond (Ieee.lt zero32 (dot_v surface.normal toward)) 1 0 in
    cond (black_of surface.albedo surface.emissive) 0 (4 + sun + reaching lamps surface (lamp_count lamps) 0)
