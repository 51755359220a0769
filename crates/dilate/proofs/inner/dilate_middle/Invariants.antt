use mathlib.Core.Path.{◌≡◌}
use Prim.Native.Nat.{◌+◌}
use lib.ListN.{length}
use Rattle.dilate.specs.ByBlocks.{BlocksDilated}
use Rattle.dilate.proofs.inner.dilate_middle.Given as goal

abbrev pub invariant-loop-k : goal.invariant-loop-k
invariant-loop-k l = (length l.mask ≡ length l.initial.mask) × BlocksDilated l.initial.mask l.mask l.stride (l.stride + l.rest) l.k
