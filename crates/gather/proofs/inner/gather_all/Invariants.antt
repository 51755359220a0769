use mathlib.Core.Path.{◌≡◌}
use Prim.Native.Nat.{◌*◌, ◌-◌, ◌≤◌}
use Rattle.names.specs.Scene.{scene_for}
use Rattle.lists.specs.Fold.{fold}
use Rattle.gather.specs.Gather.{along_from, gathering_of}
use Rattle.gather.proofs.inner.gather_all.Given as goal

abbrev pub invariant-loop-i : goal.invariant-loop-i
invariant-loop-i l =
    let scene = scene_for l.boxed l.points l.uses l.kinds l.numbers l.boxes l.nodes l.order in
    record {
      rays : l.gathering.rays ≤ l.i * 14;
      misses : l.gathering.misses ≤ l.i;
      left : fold (along_from scene l.lamps l.setting l.centre l.sky l.first) (64 - l.i) l.i l.gathering ≡ gathering_of scene l.lamps l.setting l.centre l.sky l.first;
    }
