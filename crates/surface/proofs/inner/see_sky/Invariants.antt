use mathlib.Core.Path.{◌≡◌}
use Prim.Native.Nat.{◌-◌}
use Rattle.names.specs.Scene.{scene_for}
use Rattle.lists.specs.Fold.{fold}
use Rattle.surface.specs.Surface.{seen_after, seen_of}
use Rattle.surface.proofs.inner.see_sky.Given as goal

abbrev pub invariant-loop-j : goal.invariant-loop-j
invariant-loop-j l =
    let scene = scene_for l.boxed l.points l.uses l.kinds l.numbers l.boxes l.nodes l.order in
    record { rays : l.seen.rays ≡ l.j; left : fold (seen_after scene l.setting l.surface) (4 - l.j) l.j l.seen ≡ seen_of scene l.setting l.surface }
