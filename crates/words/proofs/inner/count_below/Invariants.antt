use mathlib.Core.Path.{◌≡◌}
use Prim.Native.Nat.{◌*◌}
use Rattle.words.specs.Words.{bit_at}
use Rattle.words.specs.BitLaws.{total}
use Rattle.words.proofs.inner.count_below.Given as goal

abbrev pub invariant-loop-word : goal.invariant-loop-word
invariant-loop-word l = l.c ≡ total (bit_at l.words) (l.word-index * 64) 0
