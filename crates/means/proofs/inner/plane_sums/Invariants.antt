use Prim.Native.Nat.{◌-◌}
use mathlib.Core.Path.{◌≡◌}
use lib.ListN.{length, get_or}
use lib.Ieee.{nan}
use Rattle.lists.specs.Fold.{fold, tab}
use Rattle.means.specs.Sums.{plus_row, plane_sum}
use Rattle.means.proofs.inner.plane_sums.Given as goal

abbrev pub invariant-loop-y : goal.invariant-loop-y
invariant-loop-y g l = record {
  full : length l.sum ≡ g.row.N;
  on : tab (λ k. plane_sum l.src l.stride k l.w l.columns l.plane l.fn.rows (get_or l.fn.s k nan)) g.row.N 0 ≡ tab (λ k. fold (plus_row l.src l.stride k l.w l.columns l.plane) (l.fn.rows.past - l.y) l.y (get_or l.sum k nan)) g.row.N 0;
}
