-- `row_walk::inner::collect` meets its contract. The loop's invariant: the first m of the two lists are what the triangles of the rows before row k come to.
use mathlib.Core.Path.{◌≡◌, refl}
use mathlib.Core.List.{[]}
use Prim.Native.Nat.{◌+◌, ◌/◌}
use native.Mathlib.Omega.{arith}
use lib.ListN.{length}
use Rattle.hits.specs.Hits.{paired}
use Rattle.names.specs.Scene.{tree_scene}
use Rattle.tree_walk.specs.Collect.{came, dark, collect_step}
use Rattle.tree_walk.proofs.Going.{collect_none}
use Rattle.tree_rows.specs.Rows.{places_to}
use Rattle.row_walk.specs.RowLaws.{rows_longer, row_fits}
use Rattle.row_walk.proofs.Turns.{turn_over, turn_run, turn_clear, rows_dark, rows_most, turn_most, turn_room}
use Rattle.row_walk.proofs.inner.collect.Goals as goal

pub loop-k-init : goal.loop-k-init
unfolding places_to paired
loop-k-init c = record { to = omega arith; few = omega arith; distances = omega arith; places = omega arith; met = refl }

pub loop-k-preserved-then-passed_over : goal.loop-k-preserved-then-passed_over
loop-k-preserved-then-passed_over c =
    let at = c.loop-k.invariant in
    let next = c.requires.rowed.forward c.loop-k.k c.loop-k-test.true in
    record {
      to = omega (arith, next.1, c.after-k.ensures);
      few = omega (arith, at.few, rows_longer c.args.order.now c.args.rows.now c.loop-k.k c.after-k.result (omega (arith, next.0, c.after-k.ensures)));
      distances = at.distances;
      places = at.places;
      met = turn_over (tree_scene _ _ _ _ _ _ _) c.requires.sound _ _ _ c.requires.rowed _ (collect_step _ _ _ _) (came []) (λ p e x. collect_none _ _ _ _ p e x) _ _ c.loop-k-test.true at.met _ c.bounds-b.ensures c.if-passed_over.ensures _ c.after-k.ensures;
    }

pub span_collect-requires-clause-span_fits : goal.span_collect-requires-clause-span_fits
span_collect-requires-clause-span_fits c =
    row_fits (tree_scene _ _ _ _ _ _ _) c.requires.sound _ _ _ c.requires.rowed _ _ _ c.loop-k-test.true
    (omega (arith, c.first-first.ensures, c.first_open-j.ensures.0)) (omega (arith, c.first-first.ensures, c.count.ensures, c.first_open-j.ensures.1))

pub span_collect-requires-clause-room_for : goal.span_collect-requires-clause-room_for
span_collect-requires-clause-room_for c =
    let l = c.loop-k in
    turn_room (tree_scene _ _ _ _ _ _ _) c.requires.sound _ _ _ c.requires.rowed _ _ _ _ _ c.loop-k-test.true l.invariant.few (omega (arith, c.count.ensures, c.first_open-j.ensures.0))
    (omega (arith, c.requires.hits_fit.0, l.auto.distances), omega (arith, c.requires.hits_fit.1, l.auto.places))

pub returns-in_err-m : goal.returns-in_err-m
returns-in_err-m c =
    let at = c.loop-k.invariant in
    let o = c.first_open-j.ensures in
    rw c.from_residual.ensures (
      rows_dark _ _ _ _ _ _ (c.loop-k.k + 1) _ (came []) (omega (arith, c.loop-k-test.true))
          (turn_run (tree_scene _ _ _ _ _ _ _) c.requires.sound _ _ _ c.requires.rowed _ (collect_step _ _ _ _) (came []) (λ p e x. collect_none _ _ _ _ p e x) _ _ c.loop-k-test.true at.met _ _ _ c.first-first.ensures c.count.ensures o.0 o.1 o.2 dark c.in_err-m.ensures.0),
      tt,
    )

pub loop-k-preserved-then-j-end : goal.loop-k-preserved-then-j-end
loop-k-preserved-then-j-end c =
    let l = c.loop-k in
    let at = l.invariant in
    let o = c.first_open-j.ensures in
    let n = c.span_collect in
    let m = c.in_ok-m.ensures in
    record {
      to = omega (arith, c.loop-k-test.true);
      few = turn_most (tree_scene _ _ _ _ _ _ _) c.requires.sound _ _ _ c.requires.rowed _ _ _ _ at.few (omega (arith, c.count.ensures, o.0)) m.1.0;
      distances = omega (arith, m.1.1, n.auto.distances);
      places = omega (arith, m.1.2, n.auto.places);
      met = turn_run (tree_scene _ _ _ _ _ _ _) c.requires.sound _ _ _ c.requires.rowed _ (collect_step _ _ _ _) (came []) (λ p e x. collect_none _ _ _ _ p e x) _ _ c.loop-k-test.true at.met _ _ _ c.first-first.ensures c.count.ensures o.0 o.1 o.2 _ m.0;
    }

pub loop-k-preserved : goal.loop-k-preserved
loop-k-preserved c =
    let l = c.loop-k in
    let at = l.invariant in
    let o = c.first_open-j.ensures in
    record {
      to = omega (arith, c.loop-k-test.true);
      few = omega (arith, at.few, rows_longer c.args.order.now c.args.rows.now l.k (l.k + 1) (omega arith));
      distances = at.distances;
      places = at.places;
      met = turn_clear (tree_scene _ _ _ _ _ _ _) c.requires.sound _ _ _ c.requires.rowed _ (collect_step _ _ _ _) (came []) (λ p e x. collect_none _ _ _ _ p e x) _ _ c.loop-k-test.true at.met _ _ _ c.first-first.ensures c.count.ensures o.0 o.1 o.2 c.if-j-end.false;
    }

pub returns : goal.returns
returns c =
    let l = c.loop-k in
    let at = l.invariant in
    let all : l.k ≡ length c.args.nodes.now / 3 = omega (arith, at.to) in (
      rw all at at.met,
      (
        rows_most (tree_scene _ _ _ _ _ _ _) c.requires.sound _ _ _ c.requires.rowed _ _ (omega (arith, at.to)) at.few,
        omega (arith, at.distances, l.auto.distances),
        omega (arith, at.places, l.auto.places),
      ),
    )
