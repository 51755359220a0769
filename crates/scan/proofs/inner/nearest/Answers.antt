-- `scan::inner::nearest` meets its contract. The loop's invariant: what is held is the nearest among the first i. What is missed changes nothing, and what is met
-- is one step of the definition.
use mathlib.Core.Path.{sym}
use native.Mathlib.Omega.{arith}
use native.Mathlib.Numerals.{add-one}
use Rattle.scan.specs.FirstHit.{nearest_first}
use Rattle.scan.proofs.inner.nearest.Goals as goal

pub loop-met-preserved : goal.loop-met-preserved
loop-met-preserved c = (
  omega (arith, c.in-Some.ensures.1),
  rw (add-one, c.nearer-best.ensures, c.loop-met.invariant.1) (sym (nearest_first _ _ _ _ _ c.in-Some.ensures)),
)
