use Rattle.std.proofs.Common.{◌≡◌, ◌-◌}
use Rattle.lists.specs.Any.{any}
use Rattle.tree.specs.Test.{see_run, bad_place_at}
use Rattle.tree.proofs.inner.bad_run.Given as goal

abbrev pub invariant-loop-place : goal.invariant-loop-place
invariant-loop-place l =
    let bad = bad_place_at l.points l.boxes l.nodes l.order l.i l.initial.seen in
    (l.seen ≡ see_run l.nodes l.order l.i l.place-index l.initial.seen)
    × (any bad l.count 0 ≡ any bad (l.count - l.place-index) l.place-index)
