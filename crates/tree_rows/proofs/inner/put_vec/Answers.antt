-- `tree_rows::inner::put_vec` meets its contract: three numbers written one after another.
use native.Mathlib.Omega.{arith}
use mathlib.Core.Path.{refl}
use lib.ListN.{length-set}
use Rattle.tree_rows.specs.Layout.{with_vec}
use Rattle.tree_rows.proofs.inner.put_vec.Goals as goal

pub bounds-rows-j-2 : goal.bounds-rows-j-2
bounds-rows-j-2 c = simp length-set (omega arith)

pub bounds-rows-j-3 : goal.bounds-rows-j-3
bounds-rows-j-3 c = simp length-set (omega arith)

pub returns : goal.returns
unfolding with_vec
returns c = refl
