-- `limits::inner::wrong_scene` meets its contract: the code is the definition, test for test.
use Rattle.limits.specs.Limits.{wrong_scene}
use Rattle.limits.proofs.inner.wrong_scene.Goals as goal

pub returns : goal.returns
unfolding wrong_scene
returns c = rw (c.wrong_share.ensures, c.wrong_share-2.ensures)
