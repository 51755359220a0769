-- The u32 at the place, and its float.
use mathlib.Core.Path.{◌∙◌, ap}
use Rattle.names.specs.Bits.{lit}
use Rattle.bytes_le.specs.Bytes.{f32_at}
use Rattle.bytes_le.proofs.inner.f32_at.Goals as goal

pub returns : goal.returns
unfolding f32_at
returns c = c.float_of.ensures ∙ ap lit c.u32_at.ensures
