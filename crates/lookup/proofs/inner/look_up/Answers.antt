-- `lookup::inner::look_up` meets its contract: the rows are tested in their order, and where 1, 2 and 3 passed the grid is good.
use Rattle.std.proofs.Common.{ℕ, ◌*◌, not, sym, ap, ap₂, ◌∙◌, arith, eq-eqb, ne_eqb}
use Rattle.std.proofs.Math.Nat.{mul-le-mul}
use Rattle.names.specs.declared.refusal.Refusal.TheVariants.{Axes, Grid, Lengths}
use Rattle.names.specs.Refusals.{row_holds, row_passed}
use Rattle.grid.specs.GridLaws.{voxels_most}
use Rattle.limits.specs.LimitsLaws.{axes_row}
use Rattle.lookup.specs.LookedLaws.{looked_refused}
use Rattle.lookup.proofs.inner.look_up.Goals as goal

pub returns-then-bad_axes : goal.returns-then-bad_axes
returns-then-bad_axes g c = looked_refused g.L.Looked.laws _ _ _ _ _ Axes (row_holds _ _ _ (sym c.bad_axes.ensures ∙ c.if-bad_axes.true))

pub bad_grid-requires : goal.bad_grid-requires
bad_grid-requires g c = (axes_row _).0 (sym c.bad_axes.ensures ∙ c.if-bad_axes.false)

pub returns-then-bad_grid : goal.returns-then-bad_grid
returns-then-bad_grid g c =
    looked_refused g.L.Looked.laws _ _ _ _ _ Grid (row_passed _ _ _ _ (sym c.bad_axes.ensures ∙ c.if-bad_axes.false) (row_holds _ _ _ (sym c.bad_grid.ensures ∙ c.if-bad_grid.true)))

pub voxel_count-requires : goal.voxel_count-requires
voxel_count-requires g c = (axes_row _).0 (sym c.bad_axes.ensures ∙ c.if-bad_axes.false)

pub overflow_mul-voxel_count : goal.overflow_mul-voxel_count
overflow_mul-voxel_count g c =
    let within = (axes_row _).0 (sym c.bad_axes.ensures ∙ c.if-bad_axes.false) in
    rw (c.voxel_count.ensures, c.EACH.ensures) (omega (arith, mul-le-mul (voxels_most c.args.axes within) g.L.Looked.laws.few_numbers))

pub returns-then-list-voxel_count : goal.returns-then-list-voxel_count
returns-then-list-voxel_count g c =
    let each = ap₂ (λ (n m : ℕ). n * m) c.voxel_count.ensures c.EACH.ensures in
    looked_refused g.L.Looked.laws _ _ _ _ _ Lengths (row_passed _ _ _ _ (sym c.bad_axes.ensures ∙ c.if-bad_axes.false) (row_passed _ _ _ _ (sym c.bad_grid.ensures ∙ c.if-bad_grid.false)
    (row_holds _ _ _ (ap not (ne_eqb _ _ (λ e. c.if-list-voxel_count.true (e ∙ sym each)))))))
