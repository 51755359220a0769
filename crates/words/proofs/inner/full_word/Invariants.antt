use mathlib.Core.Path.{◌≡◌}
use Prim.Native.Nat.{◌+◌, ◌-◌, ◌*◌}
use Rattle.marks.specs.Marks.{is_marked}
use Rattle.words.specs.Words.{packed}
use Rattle.words.proofs.inner.full_word.Given as goal

abbrev pub invariant-loop-j : goal.invariant-loop-j
invariant-loop-j l = l.w ≡ packed (is_marked l.entries) (64 - l.j * 8) (l.first + l.j * 8)
