use Rattle.std.proofs.Common.{◌≡◌, ◌-◌, ◌/◌, length}
use Rattle.lists.specs.Any.{any}
use Rattle.tree.specs.Test.{missed}
use Rattle.tree.proofs.inner.any_missed.Given as goal

abbrev pub invariant-loop-p : goal.invariant-loop-p
invariant-loop-p l =
    let t = length l.points / 9 in
    any (missed l.points l.seen) t 0 ≡ any (missed l.points l.seen) (t - l.p) l.p
