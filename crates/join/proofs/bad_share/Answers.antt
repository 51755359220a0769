-- `join::bad_share` is the definition, by what its two tests say. Assumes nothing.
use mathlib.Core.Path.{refl}
use Rattle.join.specs.Join.{bad_share}
use Rattle.join.proofs.bad_share.Goals as goal

pub returns : goal.returns
unfolding bad_share
returns c = rw (c.unused_set.ensures, c.bad_coefficients.ensures) refl
