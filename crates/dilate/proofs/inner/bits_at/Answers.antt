-- `dilate::inner::bits_at`: the bits stand in one word or in two. Assumes nothing.
use native.Mathlib.Omega.{arith}
use Rattle.dilate.specs.RunLaws.{run_within, run_over}
use Rattle.dilate.proofs.inner.bits_at.Goals as goal

pub returns-then-o-len-le64 : goal.returns-then-o-len-le64
returns-then-o-len-le64 c = run_within c.args.words.now c.args.o c.args.len c.if-o-len-le64.true c.cut.ensures

pub returns : goal.returns
returns c = run_over c.args.words.now c.args.o c.args.len (λ k. (c.type_inv.words k).fits) c.requires.1 (omega arith) c.cut-2.ensures
