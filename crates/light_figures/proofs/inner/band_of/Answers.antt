-- Exactly 2^24 falls in the last band, and the others in that of their quotient.
use mathlib.Core.Path.{refl}
use native.Mathlib.Omega.{arith}
use borrow.Author.Tests.{eq-eqb, ne_eqb}
use Rattle.light_figures.specs.LightFigures.{band_of}
use Rattle.light_figures.proofs.inner.band_of.Goals as goal

pub returns-then-units-eq-MOST_UNITS : goal.returns-then-units-eq-MOST_UNITS
unfolding band_of
returns-then-units-eq-MOST_UNITS c = (rw (eq-eqb _ _ c.if-units-eq-MOST_UNITS.true) refl, omega arith)

pub returns : goal.returns
unfolding band_of
returns c = (rw (ne_eqb _ _ c.if-units-eq-MOST_UNITS.false) refl, omega arith)
