-- The numbers of voxel i are copied from a part of one list to the same part of the other, so that the whole is the other with that voxel's numbers
-- replaced. Assumes nothing.
use mathlib.Core.Path.{◌≡◌, refl}
use native.Mathlib.Omega.{arith}
use Prim.Native.Nat.{◌+◌, ◌-◌, ◌*◌}
use borrow.Rule.Slice.PartMut.{Post-is}
use Rattle.lists.specs.Laid.{replaced}
use Rattle.join.proofs.copy_voxel.Goals as goal

pub returns : goal.returns
unfolding replaced
returns c =
    let a = c.args in
    let k : a.i * 16 + 16 - a.i * 16 ≡ 16 = omega arith in
    rw (Post-is (a.i * 16) (a.i * 16 + 16) a.to.now (omega arith), c.copy_from_slice.ensures.after, k) refl
