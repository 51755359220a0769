-- `tree_walk::inner::node_collect` meets its contract, as `node_visit` does. Where the left half has a hit that stops light, the right one adds nothing.
use mathlib.Core.Path.{refl, sym, ap, ◌∙◌}
use native.Mathlib.Omega.{arith}
use Rattle.tree_walk.specs.Walk.{node_visit, pair_visit}
use Rattle.tree_walk.proofs.CollectLaws.{node_dark}
use Rattle.tree_walk.proofs.Steps.{leaf_fits, halves_fit, leaf_under, halves_under, box_over, box_leaf, box_halves, met_more, room_less}
use Rattle.tree_walk.proofs.inner.+node_collect.Goals as goal

pub returns-then-levels-eq0 : goal.returns-then-levels-eq0
unfolding node_visit
returns-then-levels-eq0 t c = (rw c.if-levels-eq0.true, (omega arith, c.requires.m_in_bounds.0, c.requires.m_in_bounds.1))

pub returns-then-passed_over : goal.returns-then-passed_over
returns-then-passed_over t c = (
  box_over _ _ _ _ _ _ _ _ c.if-levels-eq0.false _ c.bounds_at-b.ensures c.if-passed_over.ensures,
  (omega arith, c.requires.m_in_bounds.0, c.requires.m_in_bounds.1),
)

pub span_collect-requires-clause-span_fits : goal.span_collect-requires-clause-span_fits
span_collect-requires-clause-span_fits t c = leaf_fits _ _ _ _ c.word_at-count.ensures.0 c.word_at-first.ensures.0 _ _ _ _ _ _ c.requires.tree_fits c.requires.i_bound c.if-count-gt0.true

pub span_collect-requires-clause-room_for : goal.span_collect-requires-clause-room_for
span_collect-requires-clause-room_for t c =
    let u = leaf_under c.args.nodes.now c.args.i c.word_at-count.result c.word_at-first.result c.word_at-count.ensures.0 c.word_at-first.ensures.0 c.args.order.now c.args.levels c.if-levels-eq0.false c.if-count-gt0.true in
    room_less _ _ _ _ _ _ _ c.requires.room_for (omega (arith, u)) refl refl

pub returns-then-count-gt0 : goal.returns-then-count-gt0
returns-then-count-gt0 t c =
    let u = leaf_under c.args.nodes.now c.args.i c.word_at-count.result c.word_at-first.result c.word_at-count.ensures.0 c.word_at-first.ensures.0 c.args.order.now c.args.levels c.if-levels-eq0.false c.if-count-gt0.true in (
      rw c.span_collect.ensures.0
          (box_leaf _ _ _ _ c.word_at-count.ensures.0 c.word_at-first.ensures.0 _ _ c.if-levels-eq0.false _ _ _ _ _ c.bounds_at-b.ensures c.if-passed_over.ensures c.if-count-gt0.true),
      met_more c.span_collect.result _ _ _ _ _ _ c.span_collect.ensures.1 (omega (arith, u)) refl refl,
    )

pub node_collect-requires : goal.node_collect-requires
node_collect-requires t c =
    let h = halves_fit _ _ _ _ c.word_at-count.ensures.0 c.word_at-first.ensures.0 _ _ _ _ _ _ c.requires.tree_fits c.requires.i_bound c.if-count-gt0.false c.word_at-right.result c.word_at-right.ensures.0 in
    let u = halves_under c.args.nodes.now c.args.i c.word_at-count.result c.word_at-first.result c.word_at-count.ensures.0 c.word_at-first.ensures.0 c.args.order.now c.args.levels c.if-levels-eq0.false c.if-count-gt0.false c.word_at-right.result c.word_at-right.ensures.0 in
    (omega (arith, c.decreases), (c.requires.tree_fits, (h.0, (c.requires.m_in_bounds, room_less _ _ _ _ _ _ _ c.requires.room_for (omega (arith, u)) refl refl))))

pub returns-in_err-k : goal.returns-in_err-k
unfolding pair_visit
returns-in_err-k t c =
    rw c.from_residual.ensures (
      sym (node_dark _ _ _ _ _ _ _ _ _) ∙ ap (node_visit _ _ _ _ _ _ c.word_at-right.result) c.in_err-k.ensures.0
          ∙ box_halves _ _ _ _ c.word_at-count.ensures.0 c.word_at-first.ensures.0 _ _ c.if-levels-eq0.false _ _ _ _ _ c.bounds_at-b.ensures c.if-passed_over.ensures c.if-count-gt0.false _ c.word_at-right.ensures.0,
      tt,
    )

pub node_collect-requires-2 : goal.node_collect-requires-2
node_collect-requires-2 t c =
    let h = halves_fit _ _ _ _ c.word_at-count.ensures.0 c.word_at-first.ensures.0 _ _ _ _ _ _ c.requires.tree_fits c.requires.i_bound c.if-count-gt0.false c.word_at-right.result c.word_at-right.ensures.0 in
    let u = halves_under c.args.nodes.now c.args.i c.word_at-count.result c.word_at-first.result c.word_at-count.ensures.0 c.word_at-first.ensures.0 c.args.order.now c.args.levels c.if-levels-eq0.false c.if-count-gt0.false c.word_at-right.result c.word_at-right.ensures.0 in
    let n = c.node_collect in
    let k = c.in_ok-k.ensures.1 in (
      omega (arith, c.decreases),
      (c.requires.tree_fits, (h.1, ((omega (arith, k.1, n.auto.distances), omega (arith, k.2, n.auto.places)), room_less _ _ _ _ _ _ _ c.requires.room_for (omega (arith, u, k.0)) n.auto.distances n.auto.places))),
    )

pub returns : goal.returns
unfolding pair_visit
returns t c =
    let u = halves_under c.args.nodes.now c.args.i c.word_at-count.result c.word_at-first.result c.word_at-count.ensures.0 c.word_at-first.ensures.0 c.args.order.now c.args.levels c.if-levels-eq0.false c.if-count-gt0.false c.word_at-right.result c.word_at-right.ensures.0 in
    let n = c.node_collect in
    let k = c.in_ok-k.ensures in (
      rw (c.node_collect-2.ensures.0, k.0)
          (box_halves _ _ _ _ c.word_at-count.ensures.0 c.word_at-first.ensures.0 _ _ c.if-levels-eq0.false _ _ _ _ _ c.bounds_at-b.ensures c.if-passed_over.ensures c.if-count-gt0.false _ c.word_at-right.ensures.0),
      met_more c.node_collect-2.result _ _ _ _ _ _ c.node_collect-2.ensures.1 (omega (arith, u, k.1.0)) n.auto.distances n.auto.places,
    )
