-- One voxel's numbers are gathered into a part of the volume, so that the whole is the volume with that voxel's numbers replaced.
use mathlib.Core.Path.{refl}
use Prim.Native.Nat.{◌+◌, ◌*◌}
use native.Mathlib.Omega.{arith}
use borrow.Rule.Slice.PartMut.{Post-is}
use Rattle.lists.specs.Laid.{replaced}
use Rattle.walk.proofs.inner.take.Goals as goal

pub returns : goal.returns
unfolding replaced
returns c =
    let a = c.args in
    let g = c.gather_voxel.ensures in
    record { rays = g.rays; volume = rw (Post-is (a.i * 16) (a.i * 16 + 16) a.volume.now (omega arith), g.numbers) refl }
