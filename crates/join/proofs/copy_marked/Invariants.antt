use Prim.Native.Nat.{◌-◌}
use Rattle.marks.specs.Marks.{is_marked}
use Rattle.words.specs.Words.{entries_of}
use Rattle.join.specs.JoinLaws.{Copied}
use Rattle.join.proofs.copy_marked.Given as goal

abbrev pub invariant-loop-i : goal.invariant-loop-i
invariant-loop-i l = Copied l.n (is_marked (entries_of l.share l.n)) l.from l.initial.to l.to l.i

abbrev pub decreases-loop-i : goal.decreases-loop-i
decreases-loop-i l = l.n - l.i
