-- `tree_walk::inner::span_hit` meets its contract. The loop's invariant: all in the order from the first place up to k are missed. What the search passes over goes to them, and so does a triangle that is
-- not met; what is met is the first.
use mathlib.Core.Path.{sym}
use native.Mathlib.Omega.{arith}
use Rattle.triangle.specs.Missed.{missed_one}
use Rattle.tree_walk.proofs.Going.{span_passed}
use Rattle.tree_walk.proofs.inner.span_hit.Goals as goal

pub returns-then-j-end : goal.returns-then-j-end
returns-then-j-end c =
    let at = c.loop-k.invariant in
    λ l p q. span_passed _ _ _ _ _ _ _ c.requires.1 _ _ _ at.0 (omega arith) at.2 c.first_open-j.ensures.2 l p (omega arith)

pub returns-in-Some : goal.returns-in-Some
returns-in-Some c =
    let at = c.loop-k.invariant in (
      omega arith,
      omega arith,
      span_passed _ _ _ _ _ _ _ c.requires.1 _ _ _ at.0 (omega arith) at.2 c.first_open-j.ensures.2,
      c.word_at-place.ensures.0,
      sym c.in-Some.ensures,
    )

pub loop-k-preserved : goal.loop-k-preserved
loop-k-preserved c =
    let at = c.loop-k.invariant in (
      omega arith,
      omega arith,
      missed_one _ _ _ (span_passed _ _ _ _ _ _ _ c.requires.1 _ _ _ at.0 (omega arith) at.2 c.first_open-j.ensures.2) (rw (← c.word_at-place.ensures.0) (sym c.in_default.ensures)),
    )
