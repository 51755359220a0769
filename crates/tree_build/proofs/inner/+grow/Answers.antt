-- `tree_build::inner::grow` meets its contract; the measure is the run's length. What the two halves wrote stays where the run's own box is written.
use Rattle.std.proofs.Common.{◌/◌, arith}
use Rattle.tree_build.specs.RunLaws.{places_parts}
use Rattle.tree_build.specs.BuiltLaws.{built_fewer}
use Rattle.tree_build.specs.GrownLaws.{pair_grown}
use Rattle.tree_build.proofs.inner.+grow.Goals as goal

pub grow-middle-requires : goal.grow-middle-requires
grow-middle-requires t c =
    let a = c.args in
    let p = places_parts a.points.now a.order.now a.first (a.count / 2) a.count (omega arith) c.requires.places in
    (omega arith, record { some = omega arith; boxes_few = omega arith; places_few = omega arith; boxes_long = omega arith; nodes_long = omega arith; order_long = omega arith; places = p.0 })

pub grow-end-requires : goal.grow-end-requires
grow-end-requires t c =
    let a = c.args in
    let l = c.grow-middle.ensures in
    let e = built_fewer l.built (omega arith) in
    let p = places_parts a.points.now a.order.now a.first (a.count / 2) a.count (omega arith) c.requires.places in
    (omega arith, record { some = omega arith; boxes_few = omega arith; places_few = omega arith; boxes_long = omega arith; nodes_long = omega arith; order_long = omega arith; places = p.1 })

pub returns : goal.returns
returns t c =
    pair_grown c.args.points.now _ _ _ _ _ _ _ _ c.args.order.now _ _ _ _ _ c.if-count-le-LEAF_LIMIT.false c.grow-middle.ensures c.grow-end.ensures c.put_run-2.ensures
    c.put_node-2.ensures
