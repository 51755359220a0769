-- The two tests, and then the body's.
use mathlib.Core.Path.{◌∙◌}
use borrow.Author.Tests.{le-ltb, lt-ltb, eq-eqb, ne_eqb}
use Rattle.contents.specs.Contents.{entry_good}
use Rattle.contents.proofs.inner.entry_fits.Goals as goal

pub returns-then-kind-previous : goal.returns-then-kind-previous
unfolding entry_good
returns-then-kind-previous c = simp (le-ltb _ _ c.if-kind-previous.true)

pub returns-then-offset-start : goal.returns-then-offset-start
unfolding entry_good
returns-then-offset-start c = simp (lt-ltb _ _ c.if-kind-previous.false, ne_eqb _ _ c.if-offset-start.true)

pub returns : goal.returns
unfolding entry_good
returns c =
    let if1 = c.if-kind-previous in
    let if2 = c.if-offset-start in
    let kind_of_lem = c.kind_of in
    c.body_fits.ensures ∙ simp (kind_of_lem.ensures, lt-ltb _ _ if1.false, eq-eqb _ _ if2.false)
