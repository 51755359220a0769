-- `hits::inner::add_hit` meets its contract: inserted at its rank into both lists, the hit stands where the definition inserts it.
use Rattle.std.proofs.Common.{◌≡◌, length, take, arith}
use Rattle.std.proofs.lemmas.Grind.{common_steps}
use Rattle.hits.proofs.Lists.{paired_put}
use Rattle.hits.proofs.inner.add_hit.Goals as goal

pub returns : goal.returns
returns c =
    let ts = take c.args.m c.args.distances.now in
    let is = take c.args.m c.args.places.now in
    let e : length ts ≡ length is = grind (arith, common_steps) in
    (rw (c.put.ensures.0, c.put-2.ensures.0, c.rank-j.ensures) (paired_put c.args.t c.args.i ts is e), c.put.ensures.1, c.put-2.ensures.1)
