-- `floats::larger` meets its contract: the tests are the definition's.
use mathlib.Core.Path.{sym}
use Rattle.floats.specs.Choice.{larger_of}
use Rattle.floats.proofs.Choose.{no_number}
use Rattle.floats.proofs.larger.Goals as goal

pub returns-then-is_nan : goal.returns-then-is_nan
unfolding larger_of
returns-then-is_nan c = rw (← c.is_nan.ensures.value, ← c.is_nan-2.ensures.value, c.if-is_nan.true) (sym no_number)

pub returns-then-y-x : goal.returns-then-y-x
unfolding larger_of
returns-then-y-x c = rw (← c.is_nan.ensures.value, ← c.is_nan-2.ensures.value, c.if-is_nan.false, c.if-y-x.true)

pub returns-else-y-x : goal.returns-else-y-x
unfolding larger_of
returns-else-y-x c = rw (← c.is_nan.ensures.value, ← c.is_nan-2.ensures.value, c.if-is_nan.false, c.if-y-x.false)
