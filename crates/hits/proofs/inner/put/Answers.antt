-- `hits::inner::put` meets its contract: what is copied leaves place j, and x is stored there.
use Rattle.hits.proofs.Lists.{put_taken, put_dropped}
use Rattle.hits.proofs.inner.put.Goals as goal

pub returns : goal.returns
returns g c =
    rw c.copy_within.ensures.after (
      put_taken c.args.s.now c.args.j c.args.m c.args.x c.requires.0 c.requires.1,
      put_dropped c.args.s.now c.args.j c.args.m c.args.x c.requires.0 c.requires.1,
    )
