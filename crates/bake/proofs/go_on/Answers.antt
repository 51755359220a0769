-- A finished bake is left as it is; any other is started, walked and, at its end, finished.
use Rattle.bake.proofs.Parts.{goes}
use Rattle.bake.proofs.go_on.Goals as goal

pub returns : goal.returns
returns c = goes c.requires.fits c.if-next-n.false c.start.ensures c.walk-r.ensures c.end.ensures
