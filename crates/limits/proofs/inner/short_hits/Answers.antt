-- `limits::inner::short_hits` meets its contract: the code is the definition, test for test.
use Rattle.limits.proofs.inner.short_hits.Goals as goal

pub returns-then-solid : goal.returns-then-solid
returns-then-solid c = rw c.if-solid.true

pub returns : goal.returns
returns c = rw c.if-solid.false
