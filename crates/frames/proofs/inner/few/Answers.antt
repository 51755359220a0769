-- `frames::inner::few` meets its contract: a row that holds is given with place 0; where none does the grid is good, the positions decide, and what was kept
-- is what is written.
use mathlib.Core.Path.{refl, ap, ◌∙◌}
use Prim.Native.Nat.{ℕ}
use lib.ListN.{length}
use Rattle.std.proofs.lemmas.Result.{err_from_is_err_and}
use Rattle.names.specs.AnswersLaws.{number_nonzero}
use Rattle.names.specs.Refusals.{first_of}
use Rattle.frames.specs.Frames.{frame_rows}
use Rattle.frames.proofs.Whole.{row_first, position_first, frame_refused, frame_found, grid_good, answers_long}
use Rattle.frames.proofs.inner.few.Goals as goal

pub returns-in_err-judge_rows : goal.returns-in_err-judge_rows
returns-in_err-judge_rows g c =
    let m = g.F.Looked in
    let a = c.args in
    let p = err_from_is_err_and c.from_residual.result c.from_residual.ensures.1 in
    let each = ap (λ (n : ℕ). first_of (frame_rows n a.axes a.corners (length a.list.now) (length a.positions.now) (length a.answers.now))) c.EACH.ensures in
    rw (p.1, p.2) (frame_refused m.EACH m.refusal _ _ _ _ _ _ _ (row_first m.EACH m.refusal _ _ _ _ _ _ (c.in_err-judge_rows.ensures ∙ each) (number_nonzero _)) (number_nonzero _))

pub keep-requires-clause-grid : goal.keep-requires-clause-grid
keep-requires-clause-grid g c =
    let m = g.F.Looked in
    let a = c.args in
    let each = ap (λ (n : ℕ). first_of (frame_rows n a.axes a.corners (length a.list.now) (length a.positions.now) (length a.answers.now))) c.EACH.ensures in
    grid_good m.EACH m.refusal _ _ _ _ _ (c.in_ok-judge_rows.ensures ∙ each)

pub keep-requires-clause-long : goal.keep-requires-clause-long
keep-requires-clause-long g c =
    let m = g.F.Looked in
    let a = c.args in
    let each = ap (λ (n : ℕ). first_of (frame_rows n a.axes a.corners (length a.list.now) (length a.positions.now) (length a.answers.now))) c.EACH.ensures in
    c.requires ∙ answers_long m.EACH m.refusal _ _ _ _ _ (c.in_ok-judge_rows.ensures ∙ each) m.laws.some_numbers

pub returns-in_err-keep : goal.returns-in_err-keep
returns-in_err-keep g c =
    let m = g.F.Looked in
    let a = c.args in
    let p = err_from_is_err_and c.from_residual-in_err-keep.result c.from_residual-in_err-keep.ensures.1 in
    let each = ap (λ (n : ℕ). first_of (frame_rows n a.axes a.corners (length a.list.now) (length a.positions.now) (length a.answers.now))) c.EACH.ensures in
    rw (p.1, p.2) (frame_refused m.EACH m.refusal _ _ _ _ _ _ _ (position_first m.EACH m.refusal _ _ _ _ _ _ (c.in_ok-judge_rows.ensures ∙ each) c.in_err-keep.ensures.first) (number_nonzero _))

pub returns : goal.returns
returns g c =
    let m = g.F.Looked in
    let a = c.args in
    let each = ap (λ (n : ℕ). first_of (frame_rows n a.axes a.corners (length a.list.now) (length a.positions.now) (length a.answers.now))) c.EACH.ensures in
    let k = c.in_ok-keep.ensures in
    frame_found m.EACH m.refusal _ _ _ _ _ _ _ (position_first m.EACH m.refusal _ _ _ _ _ _ (c.in_ok-judge_rows.ensures ∙ each) k.first) (c.copy.ensures ∙ k.kept refl)
