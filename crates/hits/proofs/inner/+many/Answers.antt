-- `hits::inner::many` meets its contract; the measure is how many hits there are. What is past the room is inserted after the rest is in order.
use Rattle.std.proofs.Common.{sym, ◌∙◌, length-take-le, arith}
use Rattle.hits.proofs.Lists.{numbers_halves, then_inserted}
use Rattle.hits.proofs.inner.+many.Goals as goal

pub slice_bounds-many-end-then-n-gt-MOST : goal.slice_bounds-many-end-then-n-gt-MOST
slice_bounds-many-end-then-n-gt-MOST t c = sym (length-take-le 4096 c.args.distances.now (omega arith))

pub slice_bounds-many-end-then-n-gt-MOST-3 : goal.slice_bounds-many-end-then-n-gt-MOST-3
slice_bounds-many-end-then-n-gt-MOST-3 t c = sym (length-take-le 4096 c.args.places.now (omega arith))

pub many-requires : goal.many-requires
many-requires t c =
    let a = c.args in
    let d = length-take-le 4096 a.distances.now (omega arith) in
    let p = length-take-le 4096 a.places.now (omega arith) in
    (omega arith, (d ∙ sym p, (numbers_halves a.distances.now a.places.now 4096 c.requires.0 (omega arith) c.requires.1).0))

pub returns-then-n-gt-MOST : goal.returns-then-n-gt-MOST
returns-then-n-gt-MOST t c =
    let a = c.args in
    let x = c.many in
    c.one_by_one.ensures
    ∙ then_inserted a.distances.now x.new.distances a.places.now x.new.places 4096 c.requires.0 (omega arith) x.auto.distances x.auto.places x.ensures
