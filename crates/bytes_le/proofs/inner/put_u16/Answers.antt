-- The stores are a run of stores as they stand.
use native.Mathlib.Omega.{arith}
use Prim.Native.Nat.{◌/◌, ◌%◌}
use lib.ListN.{length-set}
use Rattle.bytes_le.specs.BytesLaws.{two_stores}
use Rattle.bytes_le.proofs.inner.put_u16.Goals as goal

pub bounds-s-at-2 : goal.bounds-s-at-2
bounds-s-at-2 c = simp length-set (omega arith)

pub returns : goal.returns
returns c = two_stores c.args.s.now c.args.at (c.args.n % 256) (c.args.n / 256 % 256)
