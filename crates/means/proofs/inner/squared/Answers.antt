-- `means::inner::squared` fills the list: what is written and what the definition gives for the rest is the whole. Assumes nothing.
use native.Mathlib.Omega.{arith}
use mathlib.Core.Path.{sym, ◌∙◌}
use lib.ListN.{length-set}
use Rattle.lists.specs.Fold.{tab_step, tab_end}
use Rattle.means.proofs.inner.squared.Goals as goal

pub loop-k-preserved : goal.loop-k-preserved
loop-k-preserved c = let l = c.loop-k in record { full = simp length-set l.invariant.full; on = rw length-set (tab_step _ l.q l.k (omega arith) ∙ l.invariant.on) }

pub returns : goal.returns
returns c = let l = c.loop-k in sym (tab_end _ l.q l.k (omega arith)) ∙ l.invariant.on
