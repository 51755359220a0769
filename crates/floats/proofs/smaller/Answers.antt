-- `floats::smaller` meets its contract: the tests are the definition's.
use mathlib.Core.Path.{sym}
use Rattle.floats.specs.Choice.{smaller_of}
use Rattle.floats.proofs.Choose.{no_number}
use Rattle.floats.proofs.smaller.Goals as goal

pub returns-then-is_nan : goal.returns-then-is_nan
unfolding smaller_of
returns-then-is_nan c = rw (← c.is_nan.ensures.value, ← c.is_nan-2.ensures.value, c.if-is_nan.true) (sym no_number)

pub returns-then-x-y : goal.returns-then-x-y
unfolding smaller_of
returns-then-x-y c = rw (← c.is_nan.ensures.value, ← c.is_nan-2.ensures.value, c.if-is_nan.false, c.if-x-y.true)

pub returns-else-x-y : goal.returns-else-x-y
unfolding smaller_of
returns-else-x-y c = rw (← c.is_nan.ensures.value, ← c.is_nan-2.ensures.value, c.if-is_nan.false, c.if-x-y.false)
