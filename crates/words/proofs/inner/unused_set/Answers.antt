-- `words::inner::unused_set` is the definition: where n is a multiple of 64 there is no word past it. Assumes nothing.
use mathlib.Core.Path.{sym}
use Rattle.words.specs.WordsLaws.{unused_none, unused_word}
use Rattle.words.proofs.inner.unused_set.Goals as goal

pub returns-else-n-ne0 : goal.returns-else-n-ne0
returns-else-n-ne0 c = let a = c.args in rw c.if-n-ne0.false (sym (unused_none a.words.now a.n c.requires c.if-n-ne0.false))

pub returns-then-n-ne0 : goal.returns-then-n-ne0
returns-then-n-ne0 c = let a = c.args in sym (unused_word a.words.now a.n (λ k. (c.type_inv.words k).fits) c.requires)
