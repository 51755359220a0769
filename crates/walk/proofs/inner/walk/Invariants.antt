-- The voxels before i are walked through, and i is active, unless it is past the last.
use Prim.Native.Nat.{◌-◌}
use lib.ListN.{length}
use Rattle.names.specs.Scene.{scene_for}
use Rattle.intake.specs.Intake.{input_of}
use Rattle.walk.proofs.Loop.{SoFar, Active}
use Rattle.walk.proofs.inner.walk.Given as goal

abbrev pub invariant-loop-i : goal.invariant-loop-i
invariant-loop-i l =
    let b = input_of l.axes l.corners (scene_for l.boxed l.points l.uses l.kinds l.numbers l.boxes l.nodes l.order) l.light l.ambient l.sky l.lamps l.active l.lights (length l.initial.distances) (length l.initial.places) in
    record {
      so_far : SoFar b l.initial.volume l.initial.distances l.initial.places l.next l.allowance l.volume l.distances l.places l.i l.rays;
      active : Active b l.i;
    }

abbrev pub decreases-loop-i : goal.decreases-loop-i
decreases-loop-i l =
    length l.lights - l.i
