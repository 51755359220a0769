-- `hits::inner::by_halves` meets its contract; the measure is how many hits there are. The first call of itself gets the front halves.
use Rattle.std.proofs.Common.{◌/◌, length, take, ap, sym, length-take-le, arith}
use Rattle.hits.proofs.Lists.{numbers_halves}
use Rattle.hits.proofs.inner.+by_halves.Goals as goal

pub by_halves-requires : goal.by_halves-requires
by_halves-requires t c =
    let a = c.args in
    let half = length a.distances.now / 2 in
    let n = numbers_halves a.distances.now a.places.now half c.requires.0 (omega arith) c.requires.3 in
    let d = ap (take half) (sym c.requires.1) in
    let p = ap (take half) (sym c.requires.2) in
    let f = length-take-le half a.distances.now (omega arith) in
    let g = length-take-le half a.places.now (omega arith) in
    (omega (arith, ap length d), (omega (arith, ap length d, ap length p), d, p, rw (c.requires.1, c.requires.2) n.0))
