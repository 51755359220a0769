use mathlib.Core.Path.{◌≡◌}
use Prim.Native.Nat.{◌+◌, ◌-◌}
use Rattle.marks.specs.Marks.{is_marked}
use Rattle.words.specs.Words.{packed}
use Rattle.words.proofs.inner.last_word.Given as goal

abbrev pub invariant-loop-j : goal.invariant-loop-j
invariant-loop-j l = l.w ≡ packed (is_marked l.entries) (64 - l.j) (l.first + l.j)
