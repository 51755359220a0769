-- `frames::inner::many` meets its contract: what is not refused fits and is filled; on a refusal nothing is written.
use Rattle.std.proofs.lemmas.Result.{err_from_is_err_and}
use Rattle.names.specs.AnswersLaws.{number_nonzero}
use Rattle.frames.proofs.Whole.{frame_refused, frame_found, rows_first_none, grid_good, answers_long, positions_first, none_first}
use Rattle.frames.proofs.inner.many.Goals as goal

pub returns-in_err-judge : goal.returns-in_err-judge
returns-in_err-judge g c =
    let m = g.F.Looked in
    let p = err_from_is_err_and c.from_residual.result c.from_residual.ensures.1 in
    rw (p.1, p.2) (frame_refused m.EACH m.refusal _ _ _ _ _ _ _ c.in_err-judge.ensures (number_nonzero _))

pub fill-requires-clause-grid : goal.fill-requires-clause-grid
fill-requires-clause-grid g c =
    let m = g.F.Looked in
    let e = c.in_ok-judge.ensures in grid_good m.EACH m.refusal _ _ _ _ _ (rows_first_none m.EACH m.refusal _ _ _ _ _ e)

pub fill-requires-clause-long : goal.fill-requires-clause-long
fill-requires-clause-long g c =
    let m = g.F.Looked in
    let e = c.in_ok-judge.ensures in answers_long m.EACH m.refusal _ _ _ _ _ (rows_first_none m.EACH m.refusal _ _ _ _ _ e) m.laws.some_numbers

pub fill-requires-clause-none : goal.fill-requires-clause-none
fill-requires-clause-none g c =
    let m = g.F.Looked in
    let e = c.in_ok-judge.ensures in none_first m.EACH m.refusal _ _ _ _ (positions_first m.EACH m.refusal _ _ _ _ _ (rows_first_none m.EACH m.refusal _ _ _ _ _ e) e)

pub returns : goal.returns
returns g c =
    let m = g.F.Looked in
    frame_found m.EACH m.refusal _ _ _ _ _ _ _ c.in_ok-judge.ensures c.fill.ensures
