-- `floats::number` meets its contract: past the infinity's pattern every pattern is a NaN's, and `of_bits` makes that the one NaN.
use mathlib.Core.Path.{sym, ◌∙◌}
use Rattle.floats.specs.PatternLaws.{nan_past}
use Rattle.floats.proofs.Choose.{no_number, number_pattern}
use Rattle.floats.proofs.number.Goals as goal

pub returns-then-b-gt2139095040 : goal.returns-then-b-gt2139095040
returns-then-b-gt2139095040 c = sym no_number ∙ sym (nan_past c.args.b c.if-b-gt2139095040.true)

pub float_from_bits-result : goal.float_from_bits-result
float_from_bits-result c = number_pattern c.args.b c.if-b-gt2139095040.false
