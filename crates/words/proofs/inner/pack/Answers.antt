-- `words::inner::pack` fills the words: what is written and the words for the rest are the whole. Assumes nothing.
use mathlib.Core.Path.{◌≡◌, refl, sym, ◌∙◌}
use native.Mathlib.Omega.{arith}
use native.Mathlib.Nat.{sub-zero}
use lib.ListN.{length, length-set}
use Rattle.lists.specs.Fold.{tab_step, tab_end}
use Rattle.words.specs.Words.{word_count, word_of, words_of}
use Rattle.words.proofs.inner.pack.Goals as goal

pub loop-k-init : goal.loop-k-init
unfolding words_of
loop-k-init c =
    let l : length c.args.words.now ≡ word_count (length c.args.entries.now) = c.requires in
    rw (sub-zero, l) refl

pub loop-k-preserved : goal.loop-k-preserved
loop-k-preserved c =
    let l = c.loop-k in
    simp length-set (rw c.word_of.ensures (tab_step (word_of c.args.entries.now) l.words l.k (omega arith) ∙ l.invariant))

pub returns : goal.returns
returns c = let l = c.loop-k in sym (tab_end _ l.words l.k (omega arith)) ∙ l.invariant
