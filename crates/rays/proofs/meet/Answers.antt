-- `rays::meet` meets its contract: an accepted call answers the test's case, a refused one its number.
use Rattle.names.specs.Refusals.{kept, given}
use Rattle.rays.specs.Rays.{met_of}
use Rattle.rays.specs.RaysLaws.{meet_answered}
use Rattle.rays.proofs.meet.Goals as goal

pub returns-then-refusal-eq0 : goal.returns-then-refusal-eq0
unfolding met_of
returns-then-refusal-eq0 c =
    let e = c.meet_refusal-refusal.ensures in
    meet_answered _ _ _
    (rw (← e, ← c.test.ensures, ← c.as_met.ensures) (given c.meet_refusal-refusal.result c.as_met.result _ c.if-refusal-eq0.true))

pub returns : goal.returns
unfolding met_of
returns c =
    meet_answered _ _ _ (rw (← c.meet_refusal-refusal.ensures) (kept c.meet_refusal-refusal.result _ _ c.if-refusal-eq0.false))
