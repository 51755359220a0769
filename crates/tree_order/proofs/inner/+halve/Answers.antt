-- `tree_order::inner::halve`; the measure is the run's length. Two calls of itself put the halves in order, which then stand one after the other.
use Rattle.std.proofs.Common.{List, ◌++◌, ℕ, ◌/◌, ◌≤◌, sym, ap, ap₂, ◌∙◌, length, length-take-le, arith}
use Rattle.std.proofs.Math.Seq.{length_front}
use Rattle.tree_order.specs.Order.{halved}
use Rattle.tree_order.specs.HalveLaws.{halved_cut}
use Rattle.tree_order.specs.OrderLaws.{left_places}
use Rattle.tree_order.proofs.Steps.{second_lent_lem, both_back}
use Rattle.tree_order.proofs.inner.+halve.Goals as goal

pub halve-requires : goal.halve-requires
halve-requires t c =
    let a = c.args in
    let x = c.along_widest in
    let l = length-take-le (length a.run.now / 2) x.new.run (omega (arith, x.auto.run)) in
    let k = length_front a.keys.now x.new.keys (length a.run.now) x.auto.keys in
    let r = length_front a.ranks.now x.new.ranks (length a.run.now) x.auto.ranks in
    (omega (arith, c.decreases, l), (c.requires.0, rw x.ensures (left_places a.points.now a.run.now c.requires.1), omega (arith, l), omega (arith, l, k), omega (arith, l, r)))

pub returns : goal.returns
returns t c =
    let a = c.args in
    let x = c.along_widest in
    let y = c.halve in
    let z = c.halve-2 in
    let half = length a.run.now / 2 in
    let w : half ≤ length x.new.run = omega (arith, x.auto.run) in
    let lent = second_lent_lem x.new.run y.new.run half w y.auto.run in
    both_back x.new.run y.new.run half w y.auto.run z.new.run
    ∙ ap₂ (λ (l m : List ℕ). l ++ m) y.ensures (z.ensures ∙ ap (halved a.points.now) lent)
    ∙ rw x.ensures (sym (halved_cut a.points.now a.run.now c.if-n-le-LEAF_LIMIT.false))
