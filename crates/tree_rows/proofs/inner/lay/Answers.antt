-- `tree_rows::inner::lay` meets its contract: the points are turned first, the rows of the root stand behind them, and of an accepted tree they are all that is asked (`tree_rowed`).
use mathlib.Core.Path.{◌≡◌}
use mathlib.Core.List.{List}
use Prim.Native.Nat.{ℕ, suc, ◌*◌, ◌≤◌}
use native.Mathlib.Omega.{arith}
use borrow.Author.Tests.{eq-eqb, ne_eqb}
use lib.ListN.{length}
use lib.Ieee.{Float}
use Rattle.names.specs.Numbers.{triangle_limit, depth_limit}
use Rattle.tree.specs.Tree.{box_count, AcceptedTree}
use Rattle.tree.specs.SumLaws.{positive}
use Rattle.tree_walk.specs.Turned.{Turned}
use Rattle.tree_rows.specs.Rows.{Rowed}
use Rattle.tree_rows.specs.Layout.{with_rows, with_tree}
use Rattle.tree_rows.proofs.RowsLaws.{root_boxes, boxes_small, accepted_lays, tree_rowed}
use Rattle.tree_rows.proofs.inner.lay.Goals as goal

module _ (points boxes : List Float) (nodes order : List ℕ) (t : AcceptedTree points boxes nodes order) (small : length points ≤ triangle_limit * 9) (rows : List Float) (long : triangle_limit * 27 ≤ length rows)
    (turned : Turned points order rows) where
  empty_tree : box_count nodes ≡ 0 → Rowed points order (box_count nodes) rows
  unfolding with_tree
  empty_tree e = rw (eq-eqb (box_count nodes) 0 e) at (tree_rowed points boxes nodes order t small rows long turned)

  from_root : (box_count nodes ≡ 0 → ⊥) → (whole : List Float) → whole ≡ with_rows boxes nodes (suc depth_limit) 0 0 rows → Rowed points order (box_count nodes) whole
  unfolding with_tree
  from_root e whole w = rw w (rw (ne_eqb (box_count nodes) 0 e) at (tree_rowed points boxes nodes order t small rows long turned))

pub turn-requires : goal.turn-requires
turn-requires c =
    let s = c in
    omega (arith, s.requires.accepted_tree.order_fits, s.requires.points_len_bound, s.requires.triangle_limit_in_bounds)

pub returns-then-nodes-eq0 : goal.returns-then-nodes-eq0
returns-then-nodes-eq0 c =
    let r = c.before.before.before in
    let s = r in
    empty_tree _ _ _ _ s.requires.accepted_tree s.requires.points_len_bound _ (omega (arith, r.turn.auto.turned, s.requires.triangle_limit_in_bounds)) r.turn.ensures c.if-nodes-eq0.true

pub node_rows-requires : goal.node_rows-requires
node_rows-requires c =
    let r = c.before.before.before.before in
    let s = r in
    let a = s.args in
    let h = positive _ c.if-nodes-eq0.false in
    let n = root_boxes _ _ _ _ s.requires.accepted_tree h in
    let few = boxes_small _ _ _ _ s.requires.accepted_tree s.requires.points_len_bound in record {
      lays = accepted_lays _ _ _ _ s.requires.accepted_tree s.requires.points_len_bound;
      i_bound = h;
      i_bound_2 = (omega (arith, n, few), omega (arith, n, few, r.turn.auto.turned, s.requires.triangle_limit_in_bounds));
    }

pub returns : goal.returns
returns c =
    let w = c.before.before in
    let r = w.before.before.before.before.before in
    let s = r in
    from_root _ _ _ _ s.requires.accepted_tree s.requires.points_len_bound _ (omega (arith, r.turn.auto.turned, s.requires.triangle_limit_in_bounds)) r.turn.ensures w.if-nodes-eq0.false _ w.node_rows.ensures.1
