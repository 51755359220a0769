-- The bake: sixteen numbers a voxel; a voxel is active by its entry of the mask; it costs and gets what the gather gives; 384 rays, and 64 for each lamp,
-- are the most that it may cost; before it is baked it holds ambient and its light; the mean is the 3×3×3 mean; refusals are the bake's rows. How
-- these make up a call, a run of calls and the unbroken bake is said once for any bake, by `call`, `run` and `unbroken` of the crate spread. Assumes nothing.
use Rattle.std.specs.Prelude.{ℕ, Float}
use Rattle.spread.specs.Spread.{Stage, Bake, Called, call}
use Rattle.marks.specs.Marks.{is_marked}
use Rattle.ends.specs.Ends.{ambient_at, mean_over}
use Rattle.gather.specs.Gather.{GatherInput, gather_of, gathered_of, cost_of}
use Rattle.intake.specs.Intake.{BakeInput, voxel_numbers, voxel_count, active_entries, bake_cost, bake_refusal}

abbrev pub gather_input : BakeInput → GatherInput
gather_input b = gather_of b.axes b.corners b.scene b.light b.ambient b.sky b.lamps b.lights

abbrev pub bake_of : BakeInput → Bake Float
bake_of b =
    record {
      count = voxel_count b;
      size = voxel_numbers;
      active = is_marked (active_entries b);
      cost = cost_of (gather_input b);
      most = bake_cost b;
      ambient = ambient_at b.ambient b.lights;
      gathered = gathered_of (gather_input b);
      mean = mean_over b.axes;
      refusal = bake_refusal b;
    }

-- a call at the stage s
abbrev pub bake_call : BakeInput → Stage Float → ℕ → Called Float
bake_call b s allowance = call (bake_of b) allowance s
