-- `dilate::inner::dilate_long`: each merge from above widens by a place what a mark reaches below it, each from below what it reaches above. Assumes nothing.
use mathlib.Core.Path.{◌∙◌}
use Rattle.names.specs.Numbers.{reach}
use Rattle.dilate.specs.BlockLaws.{block_above, block_below}
use Rattle.dilate.proofs.inner.dilate_long.Goals as goal

pub down-preserved : goal.down-preserved
down-preserved c =
    let l = c.down in
    let a = c.args in
    (c.merge_above.auto.words ∙ l.invariant.0, block_above a.mask.now l.mask _ a.o a.stride a.rest l.counter 0 l.invariant.1 c.merge_above.ensures)

pub up-preserved : goal.up-preserved
up-preserved c =
    let l = c.up in
    let a = c.args in
    (c.merge_below.auto.words ∙ l.invariant.0, block_below a.mask.now l.mask _ a.o a.stride a.rest reach l.counter l.invariant.1 c.merge_below.ensures)
