-- `tree_rows::inner::pattern_at` meets its contract: a number that is no NaN has one pattern, below 2^32.
use native.Mathlib.Omega.{arith}
use mathlib.Core.Path.{refl, sym, subst}
use mathlib.Core.Bool.{Bool, not}
use lib.Dec.{T}
use lib.Ieee.{binary32}
use lib.Ieee.Bits.{to_bits-lt}
use Rattle.tree_rows.specs.Rows.{pattern_at}
use Rattle.tree_rows.proofs.inner.pattern_at.Goals as goal

pub float_to_bits-result : goal.float_to_bits-result
float_to_bits-result c = subst (λ (b : Bool). T (not b)) (sym c.requires.1) tt

pub overflow_cast-result : goal.overflow_cast-result
overflow_cast-result c = omega (arith, to_bits-lt binary32 _ (c.shared_slice_known-1.given c.args.j))

pub returns : goal.returns
unfolding pattern_at
returns c = refl
