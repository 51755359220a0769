-- `tree_rows::inner::of_pattern` meets its contract: below 2^23 no bit of the exponent is set, so that the pattern is no NaN's.
use Rattle.tree_rows.proofs.LayoutLaws.{no_nan_pattern}
use Rattle.tree_rows.proofs.inner.of_pattern.Goals as goal

pub float_from_bits-result : goal.float_from_bits-result
float_from_bits-result c = no_nan_pattern _ c.requires
