-- `means::inner::square` fills the list, some voxels at a time: what is written and what the definition gives for the rest is the whole. Assumes nothing.
use native.Mathlib.Omega.{arith}
use native.Mathlib.Nat.{sub-zero}
use mathlib.Core.Path.{refl, sym, ◌∙◌}
use Rattle.lists.specs.Fold.{tab_end}
use Rattle.means.specs.Box.{light_blur_of}
use Rattle.means.proofs.inner.square.Goals as goal

pub loop-i-init : goal.loop-i-init
unfolding light_blur_of
loop-i-init c = record { within = omega arith; on = rw (sub-zero, c.requires.3) refl }

pub returns : goal.returns
returns c = let l = c.loop-i in sym (tab_end _ l.dst l.i (omega arith)) ∙ l.invariant.on
