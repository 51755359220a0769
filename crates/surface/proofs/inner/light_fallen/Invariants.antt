use mathlib.Core.Path.{◌≡◌}
use Prim.Native.Nat.{◌+◌, ◌-◌, ◌≤◌}
use Rattle.names.specs.Scene.{scene_for}
use Rattle.lists.specs.Fold.{fold}
use Rattle.surface.specs.Surface.{lit_after, fallen_on}
use Rattle.surface.proofs.inner.light_fallen.Given as goal

abbrev pub invariant-loop-j : goal.invariant-loop-j
invariant-loop-j l =
    let scene = scene_for l.boxed l.points l.uses l.kinds l.numbers l.boxes l.nodes l.order in
    record { rays : l.fallen.rays ≤ 5 + l.j; left : fold (lit_after scene l.lamps l.setting l.surface) (l.n - l.j) l.j l.fallen ≡ fallen_on scene l.lamps l.setting l.surface }
