-- The loop goes by the walk's own steps: an active voxel is taken, or the walk stops at it, and those up to the next active one are passed over.
use native.Mathlib.Omega.{arith}
use Rattle.walk.proofs.Loop.{found_active, further, begins, ends, passes, fits_rays, stops, takes}
use Rattle.walk.proofs.inner.walk.Goals as goal

pub loop-i-init : goal.loop-i-init
loop-i-init c =
    let w = c.requires.walkable in
    record {
      so_far = passes w begins (omega (arith, w.within, w.lights)) c.next_marked-i.ensures;
      active = found_active w (omega (arith, w.within, w.lights)) c.next_marked-i.ensures;
    }

pub overflow_add-rays : goal.overflow_add-rays
overflow_add-rays c =
    omega (arith, fits_rays c.requires.walkable c.loop-i.invariant.so_far c.take-rays.ensures (omega (arith, c.voxel_cost-cost.ensures)), c.ranges.allowance)

pub loop-i-smaller : goal.loop-i-smaller
loop-i-smaller c = further c.requires.walkable c.loop-i-test.true c.next_marked-i-in-loop-i.ensures

pub loop-i-preserved : goal.loop-i-preserved
loop-i-preserved c =
    let w = c.requires.walkable in
    let l = c.loop-i.invariant in
    record {
      so_far = passes w (takes w l.so_far c.loop-i-test.true l.active (omega (arith, c.voxel_cost-cost.ensures)) c.take-rays.ensures c.take-rays.auto.distances c.take-rays.auto.places) (omega arith) c.next_marked-i-in-loop-i.ensures;
      active = found_active w (omega arith) c.next_marked-i-in-loop-i.ensures;
    }

pub returns-else-cost-allowance : goal.returns-else-cost-allowance
returns-else-cost-allowance c =
    stops c.requires.walkable c.loop-i.invariant.so_far c.loop-i-test.true c.loop-i.invariant.active (omega (arith, c.voxel_cost-cost.ensures))

pub returns-after-loop-i : goal.returns-after-loop-i
returns-after-loop-i c = ends c.requires.walkable c.loop-i.invariant.so_far c.loop-i-test.false
