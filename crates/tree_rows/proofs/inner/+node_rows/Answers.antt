-- `tree_rows::inner::node_rows` meets its contract; the measure is the levels left.
use mathlib.Core.Path.{◌∙◌}
use native.Mathlib.Omega.{arith}
use Rattle.tree_rows.proofs.Steps.{none_under, none_written, left_within, right_within, halves_under, halves_written, run_small_lem, leaf_under, leaf_written}
use Rattle.tree_rows.proofs.inner.+node_rows.Goals as goal

pub returns-then-levels-eq0 : goal.returns-then-levels-eq0
returns-then-levels-eq0 t c = (none_under _ _ _ _ c.if-levels-eq0.true, none_written _ _ _ _ _ _ c.if-levels-eq0.true)

pub overflow_mul-i : goal.overflow_mul-i
overflow_mul-i t c = omega arith

pub word_at-count-requires : goal.word_at-count-requires
word_at-count-requires t c = omega arith

pub overflow_mul-i-2 : goal.overflow_mul-i-2
overflow_mul-i-2 t c = omega arith

pub overflow_add-i : goal.overflow_add-i
overflow_add-i t c = omega arith

pub word_at-first-requires : goal.word_at-first-requires
word_at-first-requires t c = omega arith

pub overflow_mul-i-then-count-eq0 : goal.overflow_mul-i-then-count-eq0
overflow_mul-i-then-count-eq0 t c = omega arith

pub overflow_add-i-then-count-eq0 : goal.overflow_add-i-then-count-eq0
overflow_add-i-then-count-eq0 t c = omega arith

pub word_at-right-requires : goal.word_at-right-requires
word_at-right-requires t c = omega arith

pub overflow_sub-levels : goal.overflow_sub-levels
overflow_sub-levels t c = omega arith

pub overflow_add-k : goal.overflow_add-k
overflow_add-k t c = omega arith

-- ---- an inner box
-- with its halves the rows have room
pub node_rows-middle-requires : goal.node_rows-middle-requires
node_rows-middle-requires t c =
    let w3 = c.before in
    let o = w3.before in
    let w2 = o.before in
    let w = w2.before in
    let e = w.before in
    let s = e in
    let a = s.args in
    let p = s.requires in
    let u = halves_under a.boxes.now a.nodes.now a.levels a.i _ _ e.if-levels-eq0.false w.word_at-count.ensures.0 w2.word_at-first.ensures.0 _ o.if-count-eq0.true w3.word_at-right.ensures.0 in (
      omega (arith, s.decreases),
      (
        p.lays,
        (
          left_within a.boxes.now a.nodes.now a.levels a.i _ _ e.if-levels-eq0.false w.word_at-count.ensures.0 w2.word_at-first.ensures.0 _ o.if-count-eq0.true w3.word_at-right.ensures.0 p.lays p.i_bound,
          (omega (arith, u, p.i_bound_2.0), omega (arith, u, p.i_bound_2.1)),
        ),
      ),
    )

pub overflow_sub-levels-then-count-eq0 : goal.overflow_sub-levels-then-count-eq0
overflow_sub-levels-then-count-eq0 t c = omega arith

pub node_rows-end-requires : goal.node_rows-end-requires
node_rows-end-requires t c =
    let l = c.before.before.before in
    let w3 = l.before.before in
    let o = w3.before in
    let w2 = o.before in
    let w = w2.before in
    let e = w.before in
    let s = e in
    let a = s.args in
    let p = s.requires in
    let u = halves_under a.boxes.now a.nodes.now a.levels a.i _ _ e.if-levels-eq0.false w.word_at-count.ensures.0 w2.word_at-first.ensures.0 _ o.if-count-eq0.true w3.word_at-right.ensures.0 in
    let m = l.node_rows-middle.ensures.0 in
    let same = l.node_rows-middle.auto.rows in (
      omega (arith, s.decreases),
      (
        p.lays,
        (
          right_within a.boxes.now a.nodes.now a.levels a.i _ _ e.if-levels-eq0.false w.word_at-count.ensures.0 w2.word_at-first.ensures.0 _ o.if-count-eq0.true w3.word_at-right.ensures.0 p.lays p.i_bound,
          (omega (arith, u, m, p.i_bound_2.0), omega (arith, u, m, same, p.i_bound_2.1)),
        ),
      ),
    )

pub put_row-requires : goal.put_row-requires
put_row-requires t c =
    let r = c.before.before.before in
    let l = r.before.before.before.before in
    let w3 = l.before.before in
    let o = w3.before in
    let w2 = o.before in
    let w = w2.before in
    let e = w.before in
    let s = e in
    let a = s.args in
    let p = s.requires in
    let u = halves_under a.boxes.now a.nodes.now a.levels a.i _ _ e.if-levels-eq0.false w.word_at-count.ensures.0 w2.word_at-first.ensures.0 _ o.if-count-eq0.true w3.word_at-right.ensures.0 in
    let m = l.node_rows-middle.ensures.0 in
    let n = r.node_rows-end.ensures.0 in
    let same = r.node_rows-end.auto.rows ∙ l.node_rows-middle.auto.rows in record {
      i_in_bounds = (omega (arith, p.lays.boxes_fit, p.i_bound), omega (arith, u, same, p.i_bound_2.1));
      after_lt_whole_limit = (omega (arith, u, m, n, p.i_bound_2.0), omega arith, omega arith);
    }

pub shape_of-rows-then-count-eq0 : goal.shape_of-rows-then-count-eq0
shape_of-rows-then-count-eq0 t c =
    let q = c.before.before in
    let r = q.before.before.before.before in
    let l = r in
    q.put_row.auto.rows ∙ r.node_rows-end.auto.rows ∙ l.node_rows-middle.auto.rows

pub returns-then-count-eq0 : goal.returns-then-count-eq0
returns-then-count-eq0 t c =
    let q = c.before.before in
    let r = q.before.before.before.before in
    let l = r.before.before.before.before in
    let w3 = l.before.before in
    let o = w3.before in
    let w2 = o.before in
    let w = w2.before in
    let e = w.before in
    let s = e in
    let a = s.args in
    let u = halves_under a.boxes.now a.nodes.now a.levels a.i _ _ e.if-levels-eq0.false w.word_at-count.ensures.0 w2.word_at-first.ensures.0 _ o.if-count-eq0.true w3.word_at-right.ensures.0 in
    let m = l.node_rows-middle.ensures in
    let n = r.node_rows-end.ensures in (
      omega (arith, u, m.0, n.0),
      halves_written a.boxes.now a.nodes.now a.levels a.i _ _ e.if-levels-eq0.false w.word_at-count.ensures.0 w2.word_at-first.ensures.0 _ o.if-count-eq0.true w3.word_at-right.ensures.0 a.k _ _ _ _ _ _ m.0 n.0 m.1 n.1 q.put_row.ensures,
    )

-- ---- a leaf
pub overflow_add-k-2 : goal.overflow_add-k-2
overflow_add-k-2 t c = omega arith

pub put_row-requires-2 : goal.put_row-requires-2
put_row-requires-2 t c =
    let o = c.before in
    let w2 = o.before in
    let w = w2.before in
    let e = w.before in
    let s = e in
    let a = s.args in
    let p = s.requires in
    let u = leaf_under a.boxes.now a.nodes.now a.levels a.i _ _ e.if-levels-eq0.false w.word_at-count.ensures.0 w2.word_at-first.ensures.0 o.if-count-eq0.false in
    let small = run_small_lem a.boxes.now a.nodes.now a.levels a.i _ _ e.if-levels-eq0.false w.word_at-count.ensures.0 w2.word_at-first.ensures.0 o.if-count-eq0.false p.lays p.i_bound in record {
      i_in_bounds = (omega (arith, p.lays.boxes_fit, p.i_bound), omega (arith, u, p.i_bound_2.1));
      after_lt_whole_limit = (omega (arith, u, p.i_bound_2.0), omega (arith, small), omega (arith, small));
    }

pub overflow_add-result : goal.overflow_add-result
overflow_add-result t c = omega arith

pub shape_of-rows : goal.shape_of-rows
shape_of-rows t c = c.put_row-2.auto.rows

pub returns : goal.returns
returns t c =
    let q = c.before.before in
    let o = q.before.before in
    let w2 = o.before in
    let w = w2.before in
    let e = w.before in
    let s = e in
    let a = s.args in
    let u = leaf_under a.boxes.now a.nodes.now a.levels a.i _ _ e.if-levels-eq0.false w.word_at-count.ensures.0 w2.word_at-first.ensures.0 o.if-count-eq0.false in (
      omega (arith, u),
      leaf_written a.boxes.now a.nodes.now a.levels a.i _ _ e.if-levels-eq0.false w.word_at-count.ensures.0 w2.word_at-first.ensures.0 o.if-count-eq0.false a.k _ _ q.put_row-2.ensures,
    )
