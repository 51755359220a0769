-- `words::inner::is_marked` says what the entry says. Assumes nothing.
use mathlib.Core.Path.{ap, sym, ◌∙◌}
use Prim.Native.Nat.{ℕ}
use lib.Dec.{eqb}
use Rattle.words.specs.WordsLaws.{entries_at}
use Rattle.words.proofs.inner.is_marked.Goals as goal

pub returns : goal.returns
returns c = λ n h. let a = c.args in ap (λ (x : ℕ). eqb x 1) (c.bit_at.ensures ∙ sym (entries_at a.words.now n a.i h))
