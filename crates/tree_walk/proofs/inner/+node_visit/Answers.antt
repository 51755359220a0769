-- `tree_walk::inner::node_visit` meets its contract: of a leaf it goes through the run, of an inner box through the halves, whose levels are one fewer.
use mathlib.Core.Path.{◌∙◌}
use native.Mathlib.Omega.{arith}
use Rattle.tree_walk.specs.Walk.{node_visit, pair_visit}
use Rattle.tree_walk.proofs.Steps.{leaf_fits, halves_fit, box_over, box_leaf, box_halves}
use Rattle.tree_walk.proofs.inner.+node_visit.Goals as goal

pub returns-then-levels-eq0 : goal.returns-then-levels-eq0
unfolding node_visit
returns-then-levels-eq0 t c = rw c.if-levels-eq0.true

pub returns-then-passed_over : goal.returns-then-passed_over
returns-then-passed_over t c = box_over _ _ _ _ _ _ _ _ c.if-levels-eq0.false _ c.bounds_at-b.ensures c.if-passed_over.ensures

pub span_nearest-requires : goal.span_nearest-requires
span_nearest-requires t c = leaf_fits _ _ _ _ c.word_at-count.ensures.0 c.word_at-first.ensures.0 _ _ _ _ _ _ c.requires.tree_fits c.requires.i_bound c.if-count-gt0.true

pub returns-then-count-gt0 : goal.returns-then-count-gt0
returns-then-count-gt0 t c =
    c.span_nearest.ensures
    ∙ box_leaf _ _ _ _ c.word_at-count.ensures.0 c.word_at-first.ensures.0 _ _ c.if-levels-eq0.false _ _ _ _ _ c.bounds_at-b.ensures c.if-passed_over.ensures c.if-count-gt0.true

pub node_visit-held-requires : goal.node_visit-held-requires
node_visit-held-requires t c =
    let h = halves_fit _ _ _ _ c.word_at-count.ensures.0 c.word_at-first.ensures.0 _ _ _ _ _ _ c.requires.tree_fits c.requires.i_bound c.if-count-gt0.false _ c.word_at-right.ensures.0 in
    (omega (arith, c.decreases), (c.requires.tree_fits, h.0))

pub node_visit-requires : goal.node_visit-requires
node_visit-requires t c =
    let h = halves_fit _ _ _ _ c.word_at-count.ensures.0 c.word_at-first.ensures.0 _ _ _ _ _ _ c.requires.tree_fits c.requires.i_bound c.if-count-gt0.false _ c.word_at-right.ensures.0 in
    (omega (arith, c.decreases), (c.requires.tree_fits, h.1))

pub returns : goal.returns
unfolding pair_visit
returns t c =
    rw (c.node_visit.ensures, c.node_visit-held.ensures)
    (box_halves _ _ _ _ c.word_at-count.ensures.0 c.word_at-first.ensures.0 _ _ c.if-levels-eq0.false _ _ _ _ _ c.bounds_at-b.ensures c.if-passed_over.ensures c.if-count-gt0.false _ c.word_at-right.ensures.0)
