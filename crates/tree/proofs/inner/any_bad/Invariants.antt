use Rattle.std.proofs.Common.{◌≡◌, ◌-◌, ◌/◌, length}
use Rattle.lists.specs.Any.{any}
use Rattle.tree.specs.Test.{depths_to, seen_to, bad_box_at}
use Rattle.tree.proofs.inner.any_bad.Given as goal

abbrev pub invariant-loop-i : goal.invariant-loop-i
invariant-loop-i l =
    let n = length l.nodes / 3 in
    let bad = bad_box_at l.points l.boxes l.nodes l.order l.initial.depths l.initial.seen in
    (l.depths ≡ depths_to l.nodes l.initial.depths l.i)
    × (l.seen ≡ seen_to l.nodes l.order l.initial.seen l.i)
    × (any bad n 0 ≡ any bad (n - l.i) l.i)
