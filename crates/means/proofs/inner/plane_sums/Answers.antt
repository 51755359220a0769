-- `means::inner::plane_sums` gives the definition's folds: what is left of the rows, folded over the sums so far, is the whole. Assumes nothing.
use mathlib.Core.Path.{refl, sym, ◌∙◌}
use native.Mathlib.Omega.{arith}
use Rattle.lists.specs.Fold.{length_tab}
use Rattle.means.specs.Sums.{plus_row, plane_sum}
use Rattle.means.proofs.Abreast.{each_step, each_end}
use Rattle.means.proofs.inner.plane_sums.Goals as goal

pub loop-y-init : goal.loop-y-init
unfolding plane_sum
loop-y-init g c = record { full = omega arith; on = refl }

pub loop-y-preserved : goal.loop-y-preserved
loop-y-preserved g c =
    let l = c.loop-y in
    let a = c.args in
    record {
      full = rw c.row_sums-sum.ensures (length_tab _ g.row.N 0);
      on = l.invariant.on ∙ each_step g.row.N (λ j. plus_row a.src.now a.stride j a.w a.columns a.plane) l.y a.rows.past l.sum _ (omega arith) c.row_sums-sum.ensures;
    }

pub returns : goal.returns
returns g c =
    let l = c.loop-y in
    let a = c.args in
    sym (l.invariant.on ∙ each_end g.row.N (λ j. plus_row a.src.now a.stride j a.w a.columns a.plane) l.y a.rows.past l.sum (omega arith) l.invariant.full)
