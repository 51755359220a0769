use mathlib.Core.Path.{◌≡◌}
use mathlib.Core.List.{◌++◌}
use Prim.Native.Nat.{◌-◌}
use lib.ListN.{length, take, get_or}
use lib.Ieee.{nan}
use Rattle.lists.specs.Fold.{tab}
use Rattle.means.specs.Box.{plus}
use Rattle.means.proofs.inner.with_voxel.Given as goal

abbrev pub invariant-loop-k : goal.invariant-loop-k
invariant-loop-k g l = record { full : length l.sum ≡ g.row.N; on : take l.k l.sum ++ tab (λ j. plus l.src l.stride j l.v (get_or l.s j nan)) (length l.sum - l.k) l.k ≡ tab (λ j. plus l.src l.stride j l.v (get_or l.s j nan)) g.row.N 0 }
