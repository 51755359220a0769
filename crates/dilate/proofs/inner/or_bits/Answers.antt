-- `dilate::inner::or_bits`: the bits go to one word or to two. Assumes nothing.
use native.Mathlib.Omega.{arith}
use Rattle.dilate.specs.RunLaws.{ored_within, ored_over}
use Rattle.dilate.proofs.inner.or_bits.Goals as goal

pub returns-then-o-len-le64 : goal.returns-then-o-len-le64
returns-then-o-len-le64 c =
    ored_within c.args.words.now c.args.o c.args.len c.args.v c.requires.1 c.requires.4 (omega arith) c.if-o-len-le64.true

pub returns : goal.returns
returns c =
    ored_over c.args.words.now c.args.o c.args.len c.args.v c.requires.1 c.requires.4 (omega arith) (omega arith)
