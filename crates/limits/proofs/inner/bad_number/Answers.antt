-- `limits::inner::bad_number` meets its contract: the last of a material's seven is the transmission.
use borrow.Author.Tests.{eq-eqb, ne_eqb}
use Rattle.limits.proofs.inner.bad_number.Goals as goal

pub returns-then-place-eq6 : goal.returns-then-place-eq6
returns-then-place-eq6 c = rw (c.not_up_to.ensures, eq-eqb _ _ c.if-place-eq6.true)

pub returns : goal.returns
returns c = rw (c.out_of.ensures, ne_eqb _ _ c.if-place-eq6.false)
