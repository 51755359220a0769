-- `gather::inner::gather_along` meets its contract: one direction adds at most six rays, one for each lamp, and one miss.
use Prim.Native.Nat.{◌+◌, ◌≤◌}
use native.Mathlib.Omega.{arith}
use Rattle.limits.specs.Limits.{lamp_count}
use Rattle.gather.specs.GatherLaws.{incoming_costs}
use Rattle.gather.proofs.inner.gather_along.Goals as goal

pub overflow_add-result : goal.overflow_add-result
overflow_add-result c =
    let look = c.look-back in
    let h : look.result.misses ≤ 1 = rw look.ensures (incoming_costs _ _ _ _ _ _).missed in
    omega (arith, c.requires.rays_bound.1)

pub overflow_add-result-2 : goal.overflow_add-result-2
overflow_add-result-2 c =
    let look = c.look-back in
    let h : look.result.rays ≤ 6 + lamp_count c.args.lamps.now = rw look.ensures (incoming_costs _ _ _ _ _ _).most in
    omega (arith, c.requires.lamps_bound, c.requires.rays_bound.0)
