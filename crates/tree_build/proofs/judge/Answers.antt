-- `tree_build::judge` meets its contract: the first test that holds gives its row's number.
use Rattle.names.specs.Refusals.{refusals}
use Rattle.tree_build.specs.Build.{build_refusal}
use Rattle.tree_build.proofs.judge.Goals as goal

pub returns-then-wrong_build : goal.returns-then-wrong_build
unfolding build_refusal
returns-then-wrong_build c = rw (← c.wrong_build.ensures) (search refusals depth 12)

pub returns-then-points-gt-TRIANGLE_LIMIT : goal.returns-then-points-gt-TRIANGLE_LIMIT
unfolding build_refusal
returns-then-points-gt-TRIANGLE_LIMIT c = rw (← c.wrong_build.ensures) (search refusals depth 12)

pub returns-then-bad_points : goal.returns-then-bad_points
unfolding build_refusal
returns-then-bad_points c = rw (← c.wrong_build.ensures, ← c.bad_points.ensures) (search refusals depth 12)

pub returns : goal.returns
unfolding build_refusal
returns c = rw (← c.wrong_build.ensures, ← c.bad_points.ensures) (search refusals depth 12)
