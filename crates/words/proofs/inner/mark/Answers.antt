-- `words::inner::mark` sets the bit of a voxel that is there; no entry is changed by one that is not. Assumes nothing.
use mathlib.Core.Path.{sym}
use native.Mathlib.Omega.{arith}
use lib.Seq.{set_out}
use Rattle.words.specs.Words.{entries_of}
use Rattle.words.specs.WordsLaws.{entries_length, put_holds}
use Rattle.words.proofs.inner.mark.Goals as goal

pub returns-then-n-i : goal.returns-then-n-i
returns-then-n-i c =
    let s = c.before.before in
    record {
      tidy = s.requires;
      same = sym (set_out (entries_of s.args.words.now s.args.n) s.args.i 1 (omega (arith, entries_length s.args.words.now s.args.n)));
    }

pub returns : goal.returns
returns c =
    let s = c.before.before.before.before.before.before in
    let a = s.args in
    put_holds a.words.now a.i 1 (omega (arith, s.requires.long)) (omega arith) a.n (omega (arith, c.if-n-i.false)) s.requires c.set_bit.ensures
