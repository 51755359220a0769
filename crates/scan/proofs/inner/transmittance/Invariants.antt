use Prim.Native.Nat.{◌≤◌, ◌<◌, ◌-◌}
use Rattle.names.specs.Scene.{scene_of}
use Rattle.scan.proofs.Collected.{Collected}
use Rattle.scan.proofs.inner.transmittance.Given as goal

abbrev pub invariant-loop-i : goal.invariant-loop-i
invariant-loop-i l = record {
  ahead : l.i < l.n → l.i < l.end;
  within : l.end ≤ l.n;
  at_most : l.i ≤ l.n;
  collected : Collected (scene_of l.points l.uses l.kinds l.numbers) l.ray l.i l.m l.distances l.places;
}

abbrev pub decreases-loop-i : goal.decreases-loop-i
decreases-loop-i l = l.n - l.i
