-- `dilate::inner::cut`: what is shifted out at the top and back is the rest by a power of 2. Assumes nothing.
use Rattle.dilate.specs.RunLaws.{cut_low}
use Rattle.dilate.proofs.inner.cut.Goals as goal

pub returns : goal.returns
returns c = cut_low c.args.w c.args.m c.requires.1
