-- `floats::magnitude` meets its contract: a pattern with its sign cleared stands for the number with its sign made plus.
use mathlib.Core.Path.{sym, ◌∙◌, subst}
use lib.Dec.{T}
use lib.Ieee.{binary32, fits}
use Rattle.floats.proofs.Choose.{no_number, nan_magnitude, magnitude_of_lem, magnitude_pattern}
use Rattle.floats.proofs.magnitude.Goals as goal
use Rattle.floats.proofs.magnitude.Goals.{Start}

held : (c : Start) → T (fits binary32 c.args.x)
held c = subst T (sym c.well_formed.0.1) tt

pub returns-then-is_nan : goal.returns-then-is_nan
returns-then-is_nan c = sym no_number ∙ nan_magnitude c.args.x (sym c.is_nan.ensures.value ∙ c.if-is_nan.true)

pub float_from_bits-result : goal.float_from_bits-result
float_from_bits-result c = magnitude_pattern c.args.x (held c.before.before) (sym c.is_nan.ensures.value ∙ c.if-is_nan.false)

pub returns : goal.returns
returns c = magnitude_of_lem c.args.x (held c.before.before)
