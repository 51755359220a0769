use Rattle.std.proofs.Common.{◌≡◌, ◌++◌, length, drop}
use Rattle.tree_order.specs.Order.{present_below}
use Rattle.tree_order.proofs.inner.list_present.Given as goal

abbrev pub invariant-loop-p : goal.invariant-loop-p
invariant-loop-p l = (l.n ≡ length (present_below l.points l.p)) × (l.order ≡ present_below l.points l.p ++ drop l.n l.initial.order)
