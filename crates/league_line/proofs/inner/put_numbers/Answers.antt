-- One number more stands behind those before it, after a space.
use Rattle.std.proofs.Common.{◌∙◌, append_assoc, arith}
use Rattle.league_line.proofs.Runs.{spaced_next, stored_behind}
use Rattle.league_line.proofs.inner.put_numbers.Goals as goal

pub loop-n-preserved : goal.loop-n-preserved
loop-n-preserved c =
    let l = c.loop-n in
    let n = spaced_next c.args.numbers.now l.n-index c.loop-n-test.true in
    let s = stored_behind l.line l.end 32 (omega arith) in
    (c.put_decimal-end.ensures.0 ∙ rw (s, l.invariant.0, n) (simp append_assoc), omega arith)
