-- `means::inner::shares` fills the list: what is written and what the definition gives for the rest is the whole. Assumes nothing.
use native.Mathlib.Omega.{arith}
use mathlib.Core.Path.{sym, ◌∙◌}
use lib.ListN.{length-set}
use Rattle.lists.specs.Fold.{tab_step, tab_end}
use Rattle.means.proofs.inner.shares.Goals as goal

pub loop-k-preserved : goal.loop-k-preserved
loop-k-preserved g c = let l = c.loop-k in record { full = simp length-set l.invariant.full; on = rw length-set (tab_step _ l.m l.k (omega arith) ∙ l.invariant.on) }

pub returns : goal.returns
returns g c = let l = c.loop-k in sym (tab_end _ l.m l.k (omega arith)) ∙ l.invariant.on
