use mathlib.Core.Path.{◌≡◌}
use mathlib.Core.List.{◌++◌}
use Prim.Native.Nat.{◌*◌, ◌-◌}
use lib.ListN.{length, take}
use Rattle.lists.specs.Fold.{tab}
use Rattle.means.specs.Box.{mean_at, mean_of}
use Rattle.means.proofs.inner.mean.Given as goal

abbrev pub invariant-loop-v : goal.invariant-loop-v
invariant-loop-v l = take (l.v * 16) l.dst ++ tab (mean_at l.src 16 l.w l.h l.d) (length l.dst - l.v * 16) (l.v * 16) ≡ mean_of l.src 16 l.w l.h l.d
