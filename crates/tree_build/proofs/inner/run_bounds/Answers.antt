-- `tree_build::inner::run_bounds`: each place of the run is a triangle's.
use Rattle.std.proofs.Common.{add-zero, arith}
use Rattle.tree_build.specs.RunLaws.{run_place_within}
use Rattle.tree_build.proofs.inner.run_bounds.Goals as goal

pub own_box-b-requires : goal.own_box-b-requires
own_box-b-requires c =
    let a = c.args in
    (omega arith, rw (add-zero a.first) at (run_place_within a.points.now a.order.now a.first a.count 0 c.requires.places (omega arith)))

pub own_box-requires : goal.own_box-requires
own_box-requires c =
    let a = c.args in
    (omega arith, run_place_within a.points.now a.order.now a.first a.count c.loop-k.k c.requires.places (omega arith))
