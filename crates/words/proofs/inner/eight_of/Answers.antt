-- `words::inner::eight_of` adds the eight bits, each at its place. Assumes nothing.
use mathlib.Core.Path.{refl}
use Rattle.marks.specs.Marks.{is_marked}
use Rattle.words.specs.BitLaws.{bit_is, packed_eight, packed_lt}
use Rattle.words.proofs.inner.eight_of.Goals as goal

pub returns : goal.returns
returns c =
    let f = is_marked c.args.entries.now in
    let i = c.args.first in
    rw (c.from.ensures, c.from-2.ensures, c.from-3.ensures, c.from-4.ensures, c.from-5.ensures, c.from-6.ensures, c.from-7.ensures, c.from-8.ensures)
    (simp (bit_is, packed_eight f i) (refl, packed_lt f 8 i))
