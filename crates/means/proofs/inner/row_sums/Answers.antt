-- `means::inner::row_sums` gives the definition's folds over one, two or three columns. Assumes nothing.
use native.Mathlib.Omega.{arith}
use Rattle.means.specs.Sums.{plus_cell, row_sum}
use Rattle.means.proofs.Abreast.{each_one, each_two, each_three}
use Rattle.means.proofs.inner.row_sums.Goals as goal

pub returns-then-count-eq1 : goal.returns-then-count-eq1
unfolding row_sum
returns-then-count-eq1 g c =
    let a = c.args in
    each_one g.row.N (λ k. plus_cell a.src.now a.stride k a.row) a.columns.first a.columns.past a.s _ (omega arith) c.with_voxel-one.ensures

pub returns-then-count-eq2 : goal.returns-then-count-eq2
unfolding row_sum
returns-then-count-eq2 g c =
    let a = c.args in
    each_two g.row.N (λ k. plus_cell a.src.now a.stride k a.row) a.columns.first a.columns.past a.s _ _ (omega arith) c.with_voxel-one.ensures c.with_voxel-two.ensures

pub returns : goal.returns
unfolding row_sum
returns g c =
    let a = c.args in
    each_three g.row.N (λ k. plus_cell a.src.now a.stride k a.row) a.columns.first a.columns.past a.s _ _ _ (omega arith) c.with_voxel-one.ensures c.with_voxel-two.ensures c.with_voxel.ensures
