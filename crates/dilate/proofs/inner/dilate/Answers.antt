-- `dilate::inner::dilate` is the active mask: a copy of the occupied mask, dilated by the axes, is that mask. Assumes nothing.
use Rattle.dilate.specs.BlockLaws.{along_axes}
use Rattle.dilate.proofs.inner.dilate.Goals as goal

pub returns : goal.returns
returns c =
    along_axes c.args.axes c.args.occupied.now c.requires.0 c.requires.1 c.copy.ensures c.dilate_by_axes.ensures
