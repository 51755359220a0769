use mathlib.Core.Path.{◌≡◌}
use mathlib.Core.List.{◌++◌}
use Prim.Native.Nat.{◌-◌}
use lib.ListN.{length, take}
use Rattle.lists.specs.Fold.{tab}
use Rattle.words.specs.Words.{word_of, words_of}
use Rattle.words.proofs.inner.pack.Given as goal

abbrev pub invariant-loop-k : goal.invariant-loop-k
invariant-loop-k l = take l.k l.words ++ tab (word_of l.entries) (length l.words - l.k) l.k ≡ words_of l.entries
