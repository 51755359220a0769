-- `words::inner::search`: from where the search is, the first is the same as from where it began. Assumes nothing.
use mathlib.Core.Path.{sym, ◌∙◌}
use native.Mathlib.Omega.{arith}
use native.Mathlib.Nat.{pos_of_ne-zero}
use Rattle.words.specs.NextLaws.{first_end, next_word, next_here}
use Rattle.words.proofs.inner.search.Goals as goal

pub returns-then-w-ne0 : goal.returns-then-w-ne0
returns-then-w-ne0 c =
    let l = c.loop-at in
    sym (l.invariant ∙ next_here c.args.words.now c.args.n (λ k. (c.type_inv.words k).fits) c.requires.0 l.at (pos_of_ne-zero c.if-w-ne0.true))

pub loop-at-preserved : goal.loop-at-preserved
loop-at-preserved c =
    let l = c.loop-at in
    l.invariant ∙ next_word c.args.words.now c.args.n (λ k. (c.type_inv.words k).fits) c.requires.0 l.at c.if-w-ne0.false

pub returns : goal.returns
returns c =
    let l = c.loop-at in
    sym (l.invariant ∙ first_end _ _ l.at (omega arith))
