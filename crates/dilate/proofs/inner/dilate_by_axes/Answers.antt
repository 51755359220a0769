-- `dilate::inner::dilate_by_axes` is the definition: the mask has a voxel for each of all three grids. Assumes nothing.
use Rattle.dilate.specs.BlockLaws.{along_x_lem, along_z_lem, along_all}
use Rattle.dilate.proofs.inner.dilate_by_axes.Goals as goal

pub returns : goal.returns
returns c =
    let a = c.args.axes in
    let m = c.args.mask.now in
    along_all a m _ _ (along_x_lem a m c.dilate_middle.ensures) c.dilate_middle-2.ensures (along_z_lem a _ c.dilate_middle-3.ensures)
