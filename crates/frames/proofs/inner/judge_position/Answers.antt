-- `frames::inner::judge_position` meets its contract: rows 1, 2 and 3 have passed, so that 11 and 13 are left, and no cell of a good list has 13.
use mathlib.Core.Path.{sym, ap, subst, ◌∙◌}
use Prim.Native.Nat.{ℕ}
use Rattle.names.specs.Refusals.{row_holds, row_passed, rows_passed}
use Rattle.lists.specs.Some.{some}
use Rattle.limits.specs.LimitsLaws.{axes_row}
use Rattle.lookup.specs.declared.Cells.{Cells}
use Rattle.lookup.specs.Place.{Inside, cells_read}
use Rattle.lookup.specs.LookedLaws.{grid_cells, in_grid_rows}
use Rattle.frames.proofs.Clear.{read_clear}
use Rattle.frames.proofs.inner.judge_position.Goals as goal

pub returns-then-bad_position : goal.returns-then-bad_position
returns-then-bad_position g c =
    let m = g.F.Looked in
    in_grid_rows _ m.bad_cell _ _ _ _ _ c.requires.grid (row_holds _ _ _ (sym c.bad_position.ensures ∙ c.if-bad_position.true)) ∙ sym (m.laws.rows _ _ _ _)

pub returns-then-clear : goal.returns-then-clear
returns-then-clear g c =
    let m = g.F.Looked in
    let none = read_clear m.laws _ _ _ _ c.requires.grid (c.requires.whole c.if-clear.true) in
    in_grid_rows _ m.bad_cell _ _ _ _ _ c.requires.grid (row_passed _ _ _ _ (sym c.bad_position.ensures ∙ c.if-bad_position.false) (row_passed _ _ _ _ none rows_passed))
    ∙ sym (m.laws.rows _ _ _ _)

pub cells-requires : goal.cells-requires
cells-requires g c = (axes_row _).0 c.requires.grid.axes

pub bad_cells-requires : goal.bad_cells-requires
bad_cells-requires g c = subst (λ (n : ℕ). Inside n c.cells.result) (grid_cells g.F.Looked.laws _ _ _ c.requires.grid) c.cells.ensures.inside

pub returns-then-bad_cells : goal.returns-then-bad_cells
returns-then-bad_cells g c =
    let m = g.F.Looked in
    let e = ap (λ (r : Cells). some (m.bad_cell c.args.list.now) (cells_read r)) (sym c.cells.ensures.same) ∙ sym c.bad_cells.ensures ∙ c.if-bad_cells.true in
    in_grid_rows _ m.bad_cell _ _ _ _ _ c.requires.grid (row_passed _ _ _ _ (sym c.bad_position.ensures ∙ c.if-bad_position.false) (row_holds _ _ _ e))
    ∙ sym (m.laws.rows _ _ _ _)

pub returns : goal.returns
returns g c =
    let m = g.F.Looked in
    let e = ap (λ (r : Cells). some (m.bad_cell c.args.list.now) (cells_read r)) (sym c.cells.ensures.same) ∙ sym c.bad_cells.ensures ∙ c.if-bad_cells.false in
    in_grid_rows _ m.bad_cell _ _ _ _ _ c.requires.grid (row_passed _ _ _ _ (sym c.bad_position.ensures ∙ c.if-bad_position.false) (row_passed _ _ _ _ e rows_passed))
    ∙ sym (m.laws.rows _ _ _ _)
