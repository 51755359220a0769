-- In an accepted bake the departure that makes a non-finite distance a miss never shows, of whichever voxel and direction, of the primary ray and of those to sun, sky and lamps.
use Rattle.std.specs.Prelude.{◌≡◌, ℕ, ◌<◌, Float}
use Rattle.grid.specs.Grid.{voxels}
use Rattle.spread.specs.Spread.{Stage}
use Rattle.gather_bounds.specs.RayBounds.{NoDepartures, no_departures}
use Rattle.intake.specs.Intake.{BakeInput, bake_refusal}
use Rattle.intake.specs.IntakeLaws.{none_refused}
use Rattle.demand.specs.Bake.{gather_input}
use Rattle.bake.specs.GoesOn.{gather_rows}

pub bake_undeparted : (b : BakeInput) (s : Stage Float) (a : ℕ) → bake_refusal b s a ≡ 0 → (i k : ℕ) → i < voxels b.axes → k < 576 → NoDepartures (gather_input b) i k
bake_undeparted b s a e i k h l =
    let p = (none_refused b s a).0 e in
    no_departures (gather_input b) (gather_rows b s a p) p.axes p.grid i k h l
