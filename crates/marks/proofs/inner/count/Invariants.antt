use Prim.Native.Nat.{◌-◌, ◌≤◌}
use mathlib.Core.Path.{◌≡◌}
use lib.ListN.{length}
use Rattle.lists.specs.Fold.{fold}
use Rattle.marks.specs.Marks.{tally, marked_count}
use Rattle.marks.proofs.inner.count.Given as goal

abbrev pub invariant-loop-entry : goal.invariant-loop-entry
invariant-loop-entry l = record { most : l.n ≤ l.entry-index; on : marked_count l.mask ≡ fold (tally l.mask) (length l.mask - l.entry-index) l.entry-index l.n }
