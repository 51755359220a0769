use mathlib.Core.Path.{◌≡◌}
use mathlib.Core.List.{◌++◌}
use Prim.Native.Nat.{◌≤◌, ◌-◌}
use lib.ListN.{length, take}
use Rattle.lists.specs.Fold.{tab}
use Rattle.means.specs.Box.{square_at, light_blur_of}
use Rattle.means.proofs.inner.square.Given as goal

abbrev pub invariant-loop-i : goal.invariant-loop-i
invariant-loop-i l = record {
  within : l.i ≤ length l.dst;
  on : take l.i l.dst ++ tab (square_at l.src l.w l.h l.d) (length l.dst - l.i) l.i ≡ light_blur_of l.src l.w l.h l.d;
}

abbrev pub decreases-loop-i : goal.decreases-loop-i
decreases-loop-i l = length l.dst - l.i
