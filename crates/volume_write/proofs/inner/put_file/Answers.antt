-- Seven runs of stores, each right after the one before, cover the whole list.
use Rattle.volume_write.proofs.Whole.{written}
use Rattle.volume_write.proofs.inner.put_file.Goals as goal

pub returns : goal.returns
returns c =
    let a = c.args in
    written a.axes a.corners a.light.now a.volume.now a.active.now a.occupied.now a.n a.bytes.now
    _ _ _ _ _ _ _ c.requires.0 c.put_head.ensures c.put_contents.ensures c.put_floats.ensures c.put_floats-2.ensures c.put_mask.ensures
    c.put_mask-2.ensures c.put_corners.ensures
