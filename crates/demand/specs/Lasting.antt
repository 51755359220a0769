-- What the laws of proofs/Lasting.antt are said with. Definitions only.
use Rattle.std.specs.Prelude.{◌≡◌}
use Rattle.std.proofs.Math.Bool.{false}
use Prim.Native.Nat.{ℕ, ◌-◌, ◌<◌}
use Rattle.limits.specs.Limits.{within, bad_coefficients}
use Rattle.gather.specs.Gather.{gathered_of}
use Rattle.intake.specs.Intake.{BakeInput, voxel_count}
use Rattle.demand.specs.Bake.{gather_input}

-- what the gather writes of each voxel lies within ±2^96
abbrev pub GathersWithin : BakeInput → Type 0
GathersWithin b = (i : ℕ) → i < voxel_count b → bad_coefficients (gathered_of (gather_input b) i) ≡ false
