-- `lookup::inner::floored` meets its contract: the code is the definition, and a clamped cell lies within its axis.
use Rattle.std.proofs.Common.{◌∙◌, arith}
use Rattle.lookup.specs.Place.{clamped_cell, between_of}
use Rattle.lookup.specs.PlaceLaws.{clamped_least}
use Rattle.lookup.proofs.inner.floored.Goals as goal

pub returns : goal.returns
unfolding clamped_cell between_of
returns c =
    let n = c.args.n in
    let cell = c.min-cell.ensures ∙ clamped_least n _ c.requires.0 in
    let next = c.min.ensures ∙ clamped_least n _ c.requires.0 in
    record {
      same = rw (next, cell, c.saturating_f32_to_usize.ensures, c.floor-floor.ensures);
      cell = omega (arith, c.min-cell.ensures, c.requires.0);
      next = omega (arith, c.min.ensures, c.requires.0);
    }
