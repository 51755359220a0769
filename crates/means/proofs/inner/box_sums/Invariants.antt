use Prim.Native.Nat.{◌-◌}
use mathlib.Core.Path.{◌≡◌}
use lib.ListN.{length, get_or}
use lib.Ieee.{nan}
use Rattle.lists.specs.Fold.{fold, tab}
use Rattle.means.specs.Sums.{plus_plane, box_sum}
use Rattle.means.proofs.inner.box_sums.Given as goal

abbrev pub invariant-loop-z : goal.invariant-loop-z
invariant-loop-z g l = record {
  full : length l.sum ≡ g.row.N;
  on : tab (λ k. box_sum l.src l.stride k l.w l.h l.columns l.rows l.fn.planes (get_or l.fn.s k nan)) g.row.N 0 ≡ tab (λ k. fold (plus_plane l.src l.stride k l.w l.h l.columns l.rows) (l.fn.planes.past - l.z) l.z (get_or l.sum k nan)) g.row.N 0;
}
