use mathlib.Core.Path.{◌≡◌}
use Prim.Native.Nat.{◌-◌}
use Rattle.marks.specs.Marks.{is_marked}
use Rattle.words.specs.Words.{entries_of}
use Rattle.words.specs.ByWords.{next_from}
use Rattle.words.proofs.inner.search.Given as goal

abbrev pub invariant-loop-at : goal.invariant-loop-at
invariant-loop-at l = next_from (is_marked (entries_of l.words l.n)) l.n (l.n - l.i) l.i ≡ next_from (is_marked (entries_of l.words l.n)) l.n (l.n - l.at) l.at

abbrev pub decreases-loop-at : goal.decreases-loop-at
decreases-loop-at l = l.n - l.at
