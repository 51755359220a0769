-- `lookup::inner::in_grid` meets its contract: rows 1, 2 and 3 have passed, so that 11 and 13 are left, and then what stands between the eight cells.
use Rattle.std.proofs.Common.{ℕ, sym, ap, subst, ◌∙◌}
use Rattle.names.specs.declared.refusal.Refusal.TheVariants.{Position, Contents}
use Rattle.names.specs.Refusals.{row_holds, row_passed, rows_passed}
use Rattle.lists.specs.Some.{some}
use Rattle.limits.specs.LimitsLaws.{axes_row}
use Rattle.lookup.specs.declared.Cells.{Cells}
use Rattle.lookup.specs.Place.{Inside, cells_read}
use Rattle.lookup.specs.LookedLaws.{looked_refused, looked_found, grid_cells, in_grid_rows}
use Rattle.lookup.proofs.inner.in_grid.Goals as goal

pub returns-then-bad_position : goal.returns-then-bad_position
returns-then-bad_position g c =
    looked_refused g.L.Looked.laws _ _ _ _ _ Position (in_grid_rows _ g.L.Looked.bad_cell _ _ _ _ _ c.requires (row_holds _ _ _ (sym c.bad_position.ensures ∙ c.if-bad_position.true)))

pub cells-c-requires : goal.cells-c-requires
cells-c-requires g c = (axes_row _).0 c.requires.axes

pub bad_cells-requires : goal.bad_cells-requires
bad_cells-requires g c = subst (λ (n : ℕ). Inside n c.cells-c.result) (grid_cells g.L.Looked.laws _ _ _ c.requires) c.cells-c.ensures.inside

pub returns-then-bad_cells : goal.returns-then-bad_cells
returns-then-bad_cells g c =
    let m = g.L.Looked in
    looked_refused m.laws _ _ _ _ _ Contents (in_grid_rows _ m.bad_cell _ _ _ _ _ c.requires (row_passed _ _ _ _ (sym c.bad_position.ensures ∙ c.if-bad_position.false)
    (row_holds _ _ _ (ap (λ (r : Cells). some (m.bad_cell c.args.list.now) (cells_read r)) (sym c.cells-c.ensures.same) ∙ sym c.bad_cells.ensures ∙ c.if-bad_cells.true))))

pub blend-requires : goal.blend-requires
blend-requires g c = subst (λ (n : ℕ). Inside n c.cells-c.result) (grid_cells g.L.Looked.laws _ _ _ c.requires) c.cells-c.ensures.inside

pub returns : goal.returns
returns g c =
    let m = g.L.Looked in
    let same = c.cells-c.ensures.same in
    looked_found m.laws _ _ _ _ _ _ (in_grid_rows _ m.bad_cell _ _ _ _ _ c.requires (row_passed _ _ _ _ (sym c.bad_position.ensures ∙ c.if-bad_position.false)
    (row_passed _ _ _ _ (ap (λ (r : Cells). some (m.bad_cell c.args.list.now) (cells_read r)) (sym same) ∙ sym c.bad_cells.ensures ∙ c.if-bad_cells.false) rows_passed)))
    (c.blend.ensures ∙ ap (m.blend c.args.list.now) same)
