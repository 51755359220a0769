-- `bounce::inner::basis_of` meets its contract: the code is the definition, call for call and operation for operation.
use Rattle.bounce.specs.Hemisphere.{basis_of, tangent_of}
use Rattle.bounce.proofs.inner.basis_of.Goals as goal

pub returns : goal.returns
unfolding basis_of tangent_of
returns c = rw (← c.up.ensures, ← c.cross.ensures, ← c.normalise-tangent.ensures, ← c.cross-bitangent.ensures)
