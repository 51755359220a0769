-- `tree_order::inner::put_order`: the present places are one run, which stands at the front of the list.
use Rattle.std.proofs.Common.{◌/◌, sym, ap, ◌∙◌, length, take, take_at, arith}
use Rattle.tree_order.specs.Order.{present_places}
use Rattle.tree_order.specs.PresentLaws.{present_length, present_few}
use Rattle.tree_order.specs.OrderLaws.{present_places_lem}
use Rattle.tree_order.proofs.inner.put_order.Goals as goal

pub halve-requires : goal.halve-requires
halve-requires c =
    let x = c.list_present-n in
    let points = c.args.points.now in
    let front = ap (take x.result) x.ensures.1 ∙ take_at (present_places points) _ x.result (sym x.ensures.0) in
    let few = ap length front in
    let a = present_length points (length points / 9) in
    let f = present_few points (length points / 9) in
    (c.requires.0, rw front (present_places_lem points), omega (arith, few, c.requires.0.few), omega (arith, few, c.requires.0.few), omega (arith, few, c.requires.0.few))
