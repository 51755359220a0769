-- `gather::inner::gather_all` meets its contract. The loop's invariant: the fold over the directions that are left, from what is gathered
-- so far, is the fold over all 64; and a direction has added at most fourteen rays and one miss.
use mathlib.Core.Path.{sym, ◌∙◌}
use Prim.Native.Nat.{◌+◌}
use native.Mathlib.Omega.{arith}
use Rattle.names.specs.Scene.{scene_for}
use Rattle.lists.specs.Fold.{fold_step, fold_end}
use Rattle.gather.specs.Gather.{gathering_of}
use Rattle.gather.specs.GatherLaws.{along_adds}
use Rattle.gather.proofs.inner.gather_all.Goals as goal

pub loop-i-init : goal.loop-i-init
unfolding gathering_of
loop-i-init c = let e = c.nothing-gathering.ensures in record { rays = rw e (omega arith); misses = rw e (omega arith); left = rw e }

pub loop-i-preserved : goal.loop-i-preserved
loop-i-preserved c =
    let a = c.args in
    let t = c.loop-i.invariant in
    let e = c.gather_along-gathering.ensures in
    let g = along_adds (scene_for a.boxed a.points.now a.uses.now a.kinds.now a.numbers.now a.boxes.now a.nodes.now a.order.now) a.lamps.now a.setting a.centre a.sky.now (a.first + c.loop-i.i) c.loop-i.gathering in
    record {
      rays = rw e (omega (arith, t.rays, g.0, c.requires.lamps_bound));
      misses = rw e (omega (arith, t.misses, g.1));
      left = rw e (sym (fold_step _ c.loop-i.i 64 c.loop-i.gathering c.loop-i-test.true) ∙ t.left);
    }

pub returns : goal.returns
returns c = sym (fold_end _ c.loop-i.i 64 c.loop-i.gathering (omega arith)) ∙ c.loop-i.invariant.left
