use mathlib.Core.Path.{◌≡◌}
use Prim.Native.Nat.{ℕ, ◌≤◌}
use Rattle.names.specs.Numbers.{reach}
use Rattle.words.specs.Words.{bit_of}
use Rattle.dilate.specs.ByBlocks.{SpreadTo}
use Rattle.dilate.proofs.inner.dilate_word.Given as goal

abbrev pub invariant-down : goal.invariant-down
invariant-down l = SpreadTo l.stride l.m l.counter 0 (bit_of l.bits) (bit_of l.marks) × ((j : ℕ) → l.m ≤ j → bit_of l.marks j ≡ 0)

abbrev pub invariant-up : goal.invariant-up
invariant-up l = SpreadTo l.stride l.m reach l.counter (bit_of l.bits) (bit_of l.marks)
