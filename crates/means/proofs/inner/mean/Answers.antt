-- `means::inner::mean` fills the list, voxel by voxel: what is written and what the definition gives for the rest is the whole. Assumes nothing.
use native.Mathlib.Omega.{arith}
use native.Mathlib.Nat.{sub-zero}
use mathlib.Core.Path.{refl, sym, ◌∙◌}
use Prim.Native.Nat.{◌*◌}
use Rattle.lists.specs.Fold.{tab_end}
use Rattle.means.specs.Box.{mean_of}
use Rattle.means.proofs.inner.mean.Goals as goal

pub loop-v-init : goal.loop-v-init
unfolding mean_of
loop-v-init c = rw (sub-zero, c.requires.3) refl

pub returns : goal.returns
returns c = let l = c.loop-v in sym (tab_end _ l.dst (l.v * 16) (omega arith)) ∙ l.invariant
