-- `floats::inner::whole_of` meets its contract: −0 is set aside, and every other such number is the float of the integer that it is cast to.
use mathlib.Core.Path.{sym}
use Rattle.floats.specs.WholeLaws.{whole_zero, whole_cast}
use Rattle.floats.proofs.inner.whole_of.Goals as goal

pub returns-then-x : goal.returns-then-x
returns-then-x c = sym (whole_zero c.args.x c.if-x.true)

pub float_to_int-result : goal.float_to_int-result
float_to_int-result c = (whole_cast c.args.x c.requires c.if-x.false).0

pub returns : goal.returns
returns c = (whole_cast c.args.x c.requires c.if-x.false).1
