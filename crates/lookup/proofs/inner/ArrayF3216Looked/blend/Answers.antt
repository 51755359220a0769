-- The blend of the sixteen numbers. The invariant: the first k numbers are written, and what is to follow is what the definition gives from k on.
use Rattle.std.proofs.Common.{◌/◌, length, sym, refl, ◌∙◌, arith, length-set}
use Rattle.lists.specs.Fold.{tab_step, tab_end}
use Rattle.lookup.specs.Lookup.{number_blend, coefficient_blend}
use Rattle.lookup.specs.PlaceLaws.{readable}
use Rattle.lookup.proofs.inner.ArrayF3216Looked.blend.Goals as goal

pub loop-k-init : goal.loop-k-init
unfolding coefficient_blend
loop-k-init c = (refl, refl)

pub loop-k-preserved : goal.loop-k-preserved
loop-k-preserved c =
    let a = c.args in
    let i = c.loop-k.invariant in
    (simp length-set i.0, rw (length-set, c.blended.ensures) (tab_step (number_blend a.volume.now a.c) c.loop-k.numbers c.loop-k.k (omega arith) ∙ i.1))

pub returns : goal.returns
returns c =
    let i = c.loop-k.invariant in
    let a = c.args in
    sym (tab_end (number_blend a.volume.now a.c) c.loop-k.numbers c.loop-k.k (omega arith)) ∙ i.1
