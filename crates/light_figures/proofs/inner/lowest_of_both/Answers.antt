-- Each way out is a case of the definition.
use native.Mathlib.Omega.{arith}
use mathlib.Core.Path.{refl}
use borrow.Author.Tests.{eq-eqb, ne_eqb}
use Rattle.light_figures.specs.LightFigures.{lowest_of_both}
use Rattle.light_figures.proofs.inner.lowest_of_both.Goals as goal

pub returns-then-p-eq0 : goal.returns-then-p-eq0
unfolding lowest_of_both
returns-then-p-eq0 c = rw (eq-eqb _ _ c.if-p-eq0.true) refl

pub returns-then-q-eq0 : goal.returns-then-q-eq0
unfolding lowest_of_both
returns-then-q-eq0 c = rw (ne_eqb _ _ c.if-p-eq0.false, eq-eqb _ _ c.if-q-eq0.true) refl

pub returns-then-first-second : goal.returns-then-first-second
unfolding lowest_of_both
returns-then-first-second c = rw (ne_eqb _ _ c.if-p-eq0.false, ne_eqb _ _ c.if-q-eq0.false) (omega arith)

pub returns : goal.returns
unfolding lowest_of_both
returns c = rw (ne_eqb _ _ c.if-p-eq0.false, ne_eqb _ _ c.if-q-eq0.false) (omega arith)
