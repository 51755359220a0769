-- `lookup::inner::blended` meets its contract: the code is the definition, blend for blend.
use Rattle.lookup.specs.Place.{blended_of}
use Rattle.lookup.proofs.inner.blended.Goals as goal

pub returns : goal.returns
unfolding blended_of
returns c = rw (c.blend.ensures, c.blend-v0.ensures, c.blend-v1.ensures, c.pair-v00.ensures, c.pair-v10.ensures, c.pair-v01.ensures, c.pair-v11.ensures)
