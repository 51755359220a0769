-- `surface::inner::light_day` meets its contract: five rays are the most that are counted.
use mathlib.Core.Path.{◌≡◌}
use Prim.Native.Nat.{◌≤◌}
use native.Mathlib.Omega.{arith}
use Rattle.surface.specs.SurfaceLaws.{sun_most, sky_rays}
use Rattle.surface.proofs.inner.light_day.Goals as goal

pub overflow_add-result : goal.overflow_add-result
overflow_add-result c =
    let sun = c.light_sun-sun in
    let sky = c.light_sky-sky in
    let h : sun.result.rays ≤ 1 = rw sun.ensures (sun_most _ _ _) in
    let k : sky.result.rays ≡ 4 = rw sky.ensures (sky_rays _ _ _) in
    omega arith
