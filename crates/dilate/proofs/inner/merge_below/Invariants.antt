use Rattle.std.proofs.Common.{◌≡◌, ◌*◌, length, min}
use Rattle.dilate.specs.ByBlocks.{Merged}
use Rattle.dilate.proofs.inner.merge_below.Given as goal

abbrev pub invariant-loop-k : goal.invariant-loop-k
invariant-loop-k l = (length l.words ≡ length l.initial.words) × Merged l.initial.words l.words l.at l.from (min (l.k * 64) l.n) l.n
