-- The pattern's four bytes: where there is no NaN the machine's pattern is the definition's.
use mathlib.Core.Path.{sym, subst}
use mathlib.Core.Bool.{Bool, not}
use lib.Dec.{T}
use Rattle.bytes_le.proofs.inner.put_number.Goals as goal

pub float_to_bits-x : goal.float_to_bits-x
float_to_bits-x c = subst (λ (b : Bool). T (not b)) (sym c.requires.1) tt

pub returns : goal.returns
returns c = c.put_u32.ensures
