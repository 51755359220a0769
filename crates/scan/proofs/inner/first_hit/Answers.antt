-- `scan::inner::first_hit` meets its contract. The loop's invariant: all from the first place up to i are missed, or do not count. What the search passes over
-- goes to them, and so does a triangle that is not met; what is met is the first.
use mathlib.Core.Path.{sym, ◌∙◌}
use native.Mathlib.Omega.{arith}
use Rattle.scan.proofs.Search.{passed_over, not_met}
use Rattle.panels.specs.PanelLaws.{by_list}
use Rattle.scan.proofs.inner.first_hit.Goals as goal

pub returns-then-place-n : goal.returns-then-place-n
returns-then-place-n c = λ l p q. passed_over _ _ _ _ _ _ _ c.loop-i.invariant.2 c.may_hit-place.ensures.2 l p (omega arith)

pub returns-in-Some : goal.returns-in-Some
returns-in-Some c = (
  omega arith,
  omega arith,
  passed_over _ _ _ _ _ _ _ c.loop-i.invariant.2 c.may_hit-place.ensures.2,
  by_list _ _ _ _ _ ∙ sym c.in-Some.ensures,
)

pub loop-i-preserved : goal.loop-i-preserved
loop-i-preserved c = (
  omega arith,
  omega arith,
  not_met _ _ _ _ _ _ _ c.loop-i.invariant.2 c.may_hit-place.ensures.2 (sym c.in_default.ensures),
)
