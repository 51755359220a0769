-- `row_walk::inner::nearest` meets its contract. The loop's invariant: what is held is what the triangles of the rows before row k come to.
use mathlib.Core.Path.{◌≡◌, refl, ◌∙◌}
use Prim.Native.Nat.{◌/◌}
use lib.ListN.{length}
use native.Mathlib.Omega.{arith}
use Rattle.std.specs.Prelude.{None}
use Rattle.names.specs.Scene.{tree_scene}
use Rattle.tree_walk.specs.Boxed.{nearest_step}
use Rattle.tree_walk.specs.ListedLaws.{listed_nearest}
use Rattle.tree_walk.proofs.Going.{nearest_none}
use Rattle.tree_rows.specs.Rows.{places_to}
use Rattle.row_walk.specs.RowLaws.{row_fits}
use Rattle.row_walk.proofs.Turns.{turn_over, turn_run, turn_clear}
use Rattle.row_walk.proofs.inner.nearest.Goals as goal

pub loop-k-init : goal.loop-k-init
unfolding places_to
loop-k-init c = (omega arith, refl)

pub loop-k-preserved-then-passed_over : goal.loop-k-preserved-then-passed_over
loop-k-preserved-then-passed_over c =
    let l = c.loop-k in (
      omega (arith, (c.requires.rowed.forward l.k c.loop-k-test.true).1, c.after-k.ensures),
      turn_over (tree_scene _ _ _ _ _ _ _) c.requires.sound _ _ _ c.requires.rowed _ (nearest_step _ _ _ _) None (λ p e x. nearest_none _ _ _ _ p e x) _ _ c.loop-k-test.true l.invariant.1
          _ c.bounds-b.ensures c.if-passed_over.ensures _ c.after-k.ensures,
    )

pub span_nearest-held-requires : goal.span_nearest-held-requires
span_nearest-held-requires c =
    row_fits (tree_scene _ _ _ _ _ _ _) c.requires.sound _ _ _ c.requires.rowed _ _ _ c.loop-k-test.true
    (omega (arith, c.first-first.ensures, c.first_open-j.ensures.0)) (omega (arith, c.first-first.ensures, c.count.ensures, c.first_open-j.ensures.1))

pub loop-k-preserved-then-j-end : goal.loop-k-preserved-then-j-end
loop-k-preserved-then-j-end c =
    let o = c.first_open-j.ensures in (
      omega (arith, c.loop-k-test.true),
      turn_run (tree_scene _ _ _ _ _ _ _) c.requires.sound _ _ _ c.requires.rowed _ (nearest_step _ _ _ _) None (λ p e x. nearest_none _ _ _ _ p e x) _ _ c.loop-k-test.true c.loop-k.invariant.1
          _ _ _ c.first-first.ensures c.count.ensures o.0 o.1 o.2 _ c.span_nearest-held.ensures,
    )

pub loop-k-preserved : goal.loop-k-preserved
loop-k-preserved c =
    let o = c.first_open-j.ensures in (
      omega (arith, c.loop-k-test.true),
      turn_clear (tree_scene _ _ _ _ _ _ _) c.requires.sound _ _ _ c.requires.rowed _ (nearest_step _ _ _ _) None (λ p e x. nearest_none _ _ _ _ p e x) _ _ c.loop-k-test.true c.loop-k.invariant.1
          _ _ _ c.first-first.ensures c.count.ensures o.0 o.1 o.2 c.if-j-end.false,
    )

pub returns : goal.returns
returns c =
    let all : c.loop-k.k ≡ length c.args.nodes.now / 3 = omega (arith, c.loop-k.invariant.0) in
    rw all at c.loop-k.invariant.1 ∙ listed_nearest (tree_scene _ _ _ _ _ _ _) c.requires.sound _ c.requires.rowed.once _
