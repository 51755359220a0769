-- `means::inner::box_sums` gives the definition's folds: what is left of the planes, folded over the sums so far, is the whole. Assumes nothing.
use mathlib.Core.Path.{refl, sym, ◌∙◌}
use Prim.Native.Nat.{ℕ, ◌+◌, ◌-◌, ◌*◌, ◌≤◌, ◌<◌}
use native.Mathlib.Omega.{arith}
use Rattle.std.proofs.Common.{rules}
use native.Mathlib.Nat.{mul-le-mul_right, le-mul_of_pos_right}
use Rattle.lists.specs.Fold.{length_tab}
use Rattle.means.specs.Sums.{last_in, plus_plane, box_sum}
use Rattle.means.proofs.Abreast.{each_step, each_end, before, in_length}
use Rattle.means.proofs.inner.box_sums.Goals as goal

-- a plane before the last, and the last voxel of its rows and columns
earlier : (z planes h r : ℕ) → z < planes → z * h + r ≤ (planes - 1) * h + r
earlier z planes h r p =
    let l : z ≤ planes - 1 = omega arith in omega (arith, mul-le-mul_right h l)

pub loop-z-init : goal.loop-z-init
unfolding box_sum
loop-z-init g c = record { full = omega arith; on = refl }

pub overflow_mul-z : goal.overflow_mul-z
overflow_mul-z g c =
    let a = c.args in let p = c.requires in
    omega (
      arith,
      in_length g.row.N a.stride (last_in a.w a.h a.columns a.rows a.planes) p.6 p.7,
      le-mul_of_pos_right {m = a.w} ((a.planes.past - 1) * a.h + (a.rows.past - 1)) p.4,
      earlier c.loop-z.z a.planes.past a.h 0 (omega arith),
    )

pub plane_sums-sum-requires : goal.plane_sums-sum-requires
plane_sums-sum-requires g c =
    let a = c.args in let p = c.requires in
    let l : (c.loop-z.z * a.h + (a.rows.past - 1)) * a.w + (a.columns.past - 1) ≤ last_in a.w a.h a.columns a.rows a.planes
    = omega (arith, mul-le-mul_right a.w (earlier c.loop-z.z a.planes.past a.h (a.rows.past - 1) (omega arith))) in
    (search rules, (p.0, p.1, p.2, p.4, p.6, before g.row.N a.stride l p.7))

pub loop-z-preserved : goal.loop-z-preserved
loop-z-preserved g c =
    let l = c.loop-z in
    let a = c.args in
    record {
      full = rw c.plane_sums-sum.ensures (length_tab _ g.row.N 0);
      on = l.invariant.on ∙ each_step g.row.N (λ j. plus_plane a.src.now a.stride j a.w a.h a.columns a.rows) l.z a.planes.past l.sum _ (omega arith) c.plane_sums-sum.ensures;
    }

pub returns : goal.returns
returns g c =
    let l = c.loop-z in
    let a = c.args in
    sym (l.invariant.on ∙ each_end g.row.N (λ j. plus_plane a.src.now a.stride j a.w a.h a.columns a.rows) l.z a.planes.past l.sum (omega arith) l.invariant.full)
