-- `frames::inner::judge_positions` meets its contract. The invariant: no place before k has a refusal, so that the least place is the least from k on.
use mathlib.Core.Path.{refl, ap, ◌∙◌}
use Prim.Native.Nat.{ℕ, ◌/◌}
use lib.ListN.{length}
use Rattle.names.specs.AnswersLaws.{number_nonzero}
use Rattle.frames.specs.Frames.{position_at}
use Rattle.frames.proofs.Clear.{walk_found, walk_next, walk_end}
use Rattle.frames.proofs.inner.judge_positions.Goals as goal

pub returns-in-Err : goal.returns-in-Err
returns-in-Err g c =
    let number = g.F.Looked.refusal c.args.axes c.args.corners c.args.list.now in
    walk_found (λ (j : ℕ). number (position_at c.args.positions.now j)) (length c.args.positions.now / 3) _ _ _ c.loop-k.invariant.1 c.loop-k-test.true (c.in-Err.ensures ∙ ap number c.position.ensures) (number_nonzero _)

pub loop-k-preserved : goal.loop-k-preserved
loop-k-preserved g c =
    let number = g.F.Looked.refusal c.args.axes c.args.corners c.args.list.now in
    (refl, walk_next (λ (j : ℕ). number (position_at c.args.positions.now j)) (length c.args.positions.now / 3) _ 0 _ c.loop-k.invariant.1 c.loop-k-test.true (c.in_default.ensures ∙ ap number c.position.ensures) refl)

pub returns : goal.returns
returns g c =
    let number = g.F.Looked.refusal c.args.axes c.args.corners c.args.list.now in
    walk_end (λ (j : ℕ). number (position_at c.args.positions.now j)) (length c.args.positions.now / 3) _ 0 _ c.loop-k.invariant.1 c.loop-k-test.false
