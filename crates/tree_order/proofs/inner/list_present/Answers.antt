-- `tree_order::inner::list_present`: at the front stand the present places below p, and nothing behind them changed.
use Rattle.std.proofs.Common.{sym, ◌∙◌, arith}
use Rattle.tree_order.specs.PresentLaws.{present_length, present_few, present_next, present_next_length}
use Rattle.tree_order.proofs.inner.list_present.Goals as goal
use Rattle.tree_order.proofs.inner.list_present.Goals.{then-present, else-present}

pub loop-p-preserved : goal.loop-p-preserved
loop-p-preserved c =
    let l = c.loop-p in
    let points = c.args.points.now in
    let a = present_length points l.p in
    let f = present_few points l.p in
    let n = present_next_length points l.p l.n l.invariant.0 in
    let o = present_next points l.p l.n c.args.order.now l.invariant.0 (omega arith) in
    elim c.if-present.branch [
      | then-present w ↦ let e = sym c.present.ensures ∙ w.if-present.true in (rw w.n-is (rw e at n), rw (w.n-is, w.order-is, l.invariant.1) (rw e at o))
      | else-present w ↦ let e = sym c.present.ensures ∙ w.if-present.false in (rw w.n-is (rw e at n), rw (w.n-is, w.order-is, l.invariant.1) (rw e at o))
    ]
