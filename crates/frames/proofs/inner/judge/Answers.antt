-- `frames::inner::judge` meets its contract: a row that holds is given with place 0; where none does the grid is good, and the positions decide.
use mathlib.Core.Path.{ap, ◌∙◌}
use Prim.Native.Nat.{ℕ}
use lib.ListN.{length}
use Rattle.std.proofs.lemmas.Result.{err_from_is_err_and}
use Rattle.names.specs.AnswersLaws.{number_nonzero}
use Rattle.names.specs.Refusals.{first_of}
use Rattle.frames.specs.Frames.{frame_rows}
use Rattle.frames.proofs.Whole.{row_first, position_first, grid_good}
use Rattle.frames.proofs.inner.judge.Goals as goal

pub returns-in_err-judge_rows : goal.returns-in_err-judge_rows
returns-in_err-judge_rows g c =
    let m = g.F.Looked in
    let a = c.args in
    let p = err_from_is_err_and c.from_residual.result c.from_residual.ensures.1 in
    let each = ap (λ (n : ℕ). first_of (frame_rows n a.axes a.corners (length a.list.now) (length a.positions.now) a.answers)) c.EACH.ensures in
    rw (p.1, p.2) (row_first m.EACH m.refusal _ _ _ _ _ _ (c.in_err-judge_rows.ensures ∙ each) (number_nonzero _))

pub judge_positions-requires-clause-grid : goal.judge_positions-requires-clause-grid
judge_positions-requires-clause-grid g c =
    let m = g.F.Looked in
    let a = c.args in
    let each = ap (λ (n : ℕ). first_of (frame_rows n a.axes a.corners (length a.list.now) (length a.positions.now) a.answers)) c.EACH.ensures in
    grid_good m.EACH m.refusal _ _ _ _ _ (c.in_ok-judge_rows.ensures ∙ each)

pub returns : goal.returns
returns g c =
    let m = g.F.Looked in
    let a = c.args in
    let each = ap (λ (n : ℕ). first_of (frame_rows n a.axes a.corners (length a.list.now) (length a.positions.now) a.answers)) c.EACH.ensures in
    position_first m.EACH m.refusal _ _ _ _ _ _ (c.in_ok-judge_rows.ensures ∙ each) c.judge_positions.ensures
