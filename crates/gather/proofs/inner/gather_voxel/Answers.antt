-- `gather::inner::gather_voxel` meets its contract: the code is the definition, call for call, and the misses are at most 64.
use mathlib.Core.Path.{◌≡◌, ap, ◌∙◌}
use Prim.Native.Nat.{◌≤◌}
use native.Mathlib.Omega.{arith}
use Rattle.names.specs.Numbers.{primary_rays}
use Rattle.names.specs.Scene.{scene_for}
use Rattle.gather.specs.declared.Gathering.{Gathering}
use Rattle.gather.specs.Gather.{GatherInput, gather_of, voxel_of, cost_of, gathered_of}
use Rattle.gather.specs.GatherLaws.{gathering_costs}
use Rattle.gather.proofs.inner.gather_voxel.Goals as goal

pub sky_seen-seen-requires : goal.sky_seen-seen-requires
sky_seen-seen-requires c =
    let all = c.gather_all-all in
    let h : all.result.misses ≤ primary_rays = rw all.ensures (gathering_costs _ _ _ _ _ _).2 in
    omega arith

pub returns : goal.returns
unfolding cost_of gathered_of voxel_of
returns c =
    let handed : GatherInput =
    let a = c.args in
    gather_of a.axes a.corners (scene_for a.boxed a.points.now a.uses.now a.kinds.now a.numbers.now a.boxes.now a.nodes.now a.order.now) a.light a.ambient a.sky.now a.lamps.now a.lights.now in
    let whole : c.gather_all-all.result ≡ voxel_of handed c.args.i =
    rw (← c.edges-edges.ensures, ← c.setting_of-setting.ensures, ← c.centre_of-centre.ensures, ← c.first_of-first.ensures, ← c.gather_all-all.ensures) in
    record { rays = ap (λ (s : Gathering). s.rays) whole; numbers = c.write_sixteen.ensures ∙ rw (← whole, ← c.coefficients_of.ensures, ← c.finish-done.ensures, ← c.sky_seen-seen.ensures) }
