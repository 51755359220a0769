use mathlib.Core.Path.{◌≡◌}
use Prim.Native.Nat.{◌+◌}
use lib.ListN.{length}
use Rattle.names.specs.Numbers.{reach}
use Rattle.dilate.specs.ByBlocks.{BlockSpread}
use Rattle.dilate.proofs.inner.dilate_long.Given as goal

abbrev pub invariant-down : goal.invariant-down
invariant-down l = (length l.mask ≡ length l.fn.mask) × BlockSpread l.fn.mask l.mask l.o l.stride (l.stride + l.rest) l.counter 0

abbrev pub invariant-up : goal.invariant-up
invariant-up l = (length l.mask ≡ length l.fn.mask) × BlockSpread l.fn.mask l.mask l.o l.stride (l.stride + l.rest) reach l.counter
