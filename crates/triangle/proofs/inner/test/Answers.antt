-- `triangle::inner::test` meets its contract: u outside 0..1 is a miss; what the judgement misses is missed, absent or not; a hit of an absent triangle
-- is a miss, and any other stands.
use mathlib.Core.Path.{◌≡◌, sym, ◌∙◌}
use Rattle.triangle.specs.Halves.{two_halves, beside_missed}
use Rattle.triangle.specs.Meet.{solved_of, meet_of}
use Rattle.triangle.specs.Laws.{judged_missed}
use Rattle.triangle.proofs.inner.test.Goals as goal

pub returns-then-beside : goal.returns-then-beside
returns-then-beside c =
    sym (beside_missed _ _ (rw (← c.half_solved-h.ensures, ← c.beside.ensures) c.if-beside.true))

pub returns-in_err-hit : goal.returns-in_err-hit
returns-in_err-hit c =
    let solved : c.rest_solved.result ≡ solved_of c.args.ray c.args.triangle =
    rw (c.rest_solved.ensures, c.half_solved-h.ensures) (two_halves _ _) in
    c.from_residual.ensures ∙ sym (judged_missed _ _ (sym (rw solved at c.in_err-hit.ensures)))

pub returns-then-absent : goal.returns-then-absent
unfolding meet_of
returns-then-absent c = rw (← c.absent.ensures, c.if-absent.true)

pub returns-else-absent : goal.returns-else-absent
unfolding meet_of
returns-else-absent c =
    let solved : c.rest_solved.result ≡ solved_of c.args.ray c.args.triangle =
    rw (c.rest_solved.ensures, c.half_solved-h.ensures) (two_halves _ _) in
    rw (← c.absent.ensures, c.if-absent.false, ← solved) c.in_ok-hit.ensures
