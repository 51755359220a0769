-- `tree_build::build_tree` meets its contract: the rows that passed show that there is room for the order and for its boxes; a refused call answers its number.
use mathlib.Core.Path.{sym}
use Rattle.std.proofs.lemmas.Result.{err_from_is_err_and}
use Rattle.names.specs.AnswersLaws.{number_nonzero}
use Rattle.tree_build.specs.BuildLaws.{build_ready, order_fits_lem, build_answered, build_refused}
use Rattle.tree_build.proofs.build_tree.Goals as goal

pub returns-in_err-judge : goal.returns-in_err-judge
returns-in_err-judge c =
    let a = c.args in
    let p = err_from_is_err_and c.from_residual.result c.from_residual.ensures.1 in
    rw (p.1, p.2) (build_refused a.points.now a.boxes.now a.nodes.now a.order.now _ c.in_err-judge.ensures (number_nonzero _))

pub put_order-places-requires : goal.put_order-places-requires
put_order-places-requires c =
    let g = build_ready _ _ _ _ (sym c.in_ok-judge.ensures) in
    (g.scene, g.order_long)

pub put_tree-boxes-requires : goal.put_tree-boxes-requires
put_tree-boxes-requires c =
    let a = c.args in
    let x = c.put_order-places in
    order_fits_lem a.points.now a.boxes.now a.nodes.now a.order.now _ _ (sym c.in_ok-judge.ensures) x.ensures.0 x.ensures.1 x.auto.order

pub returns : goal.returns
returns c =
    let a = c.args in
    let x = c.put_order-places in
    build_answered a.points.now a.boxes.now a.nodes.now a.order.now _ _ _ _ _ (sym c.in_ok-judge.ensures) x.ensures.0 x.ensures.1 c.put_tree-boxes.ensures
