-- `floats::pattern` meets its contract: a NaN's pattern is the one that `to_bits` writes.
use mathlib.Core.Path.{sym, ap, ◌∙◌}
use lib.Ieee.{binary32, to_bits}
use Rattle.floats.specs.PatternLaws.{nan_of, nan_written}
use Rattle.floats.proofs.pattern.Goals as goal

pub returns-then-is_nan : goal.returns-then-is_nan
returns-then-is_nan c = sym (ap (to_bits binary32) (nan_of c.args.x (sym c.is_nan.ensures.value ∙ c.if-is_nan.true)) ∙ nan_written)
