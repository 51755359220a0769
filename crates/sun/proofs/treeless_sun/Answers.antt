-- `sun::treeless_sun` meets its contract: what is not refused fits the grid, and the pass over it leaves what it should.
use mathlib.Core.Bool.{false≢true}
use mathlib.Core.Path.{sym}
use Rattle.sun.specs.SunLaws.{sun_ready}
use Rattle.sun.proofs.Answered.{refused, passed}
use Rattle.sun.proofs.treeless_sun.Goals as goal

pub returns-in_err-judge : goal.returns-in_err-judge
returns-in_err-judge c = refused _ _ _ _ _ _ _ _ _ _ _ _ c.from_residual.ensures c.in_err-judge.ensures

pub pass-requires : goal.pass-requires
pass-requires c = record {
  sun_ready = sun_ready _ _ _ _ _ _ _ _ _ _ (sym c.in_ok-judge.ensures);
  through = λ e. absurd (false≢true e);
}

pub returns : goal.returns
returns c = passed _ _ _ _ _ _ _ _ _ _ c.in_ok-judge.ensures c.pass.ensures c.pass.auto.distances c.pass.auto.places
