-- `limits::inner::last_kind` meets its contract, for solid walls and otherwise.
use mathlib.Core.Path.{refl}
use Rattle.limits.proofs.inner.last_kind.Goals as goal

pub returns-then-solid : goal.returns-then-solid
returns-then-solid c = rw c.if-solid.true refl

pub returns-else-solid : goal.returns-else-solid
returns-else-solid c = rw c.if-solid.false refl
