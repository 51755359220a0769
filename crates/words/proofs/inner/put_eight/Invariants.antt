use mathlib.Core.Path.{◌≡◌}
use lib.Seq.{paste}
use Rattle.words.proofs.inner.put_eight.Given as goal

abbrev pub invariant-loop-j : goal.invariant-loop-j
invariant-loop-j l = l.entries ≡ paste l.fn.entries l.first l.bytes l.j
