-- `limits::inner::any_from` meets its contract. The invariant: what the test says of the whole list it says of what is left at i.
use borrow.Author.Rules.{rules}
use mathlib.Core.Path.{refl, sym, ap, ◌∙◌}
use lib.Dec.{leb}
use borrow.Author.Tests.{le-leb, lt-leb}
use Rattle.lists.specs.Some.{some_found, some_next, some_end}
use Rattle.limits.proofs.inner.any_from.Goals as goal

pub loop-i-init : goal.loop-i-init
loop-i-init c = (search rules, refl)

pub returns-then-n-wide : goal.returns-then-n-wide
returns-then-n-wide c = let k = c in
    sym (k.loop-i.invariant.1 ∙ some_found _ _ _ 0 k.loop-i-test.true (ap (leb _) (sym c.wide.ensures) ∙ le-leb _ _ c.if-n-wide.true))

pub loop-i-preserved : goal.loop-i-preserved
loop-i-preserved c = let k = c in
    (search rules, k.loop-i.invariant.1 ∙ some_next _ _ _ 0 k.loop-i-test.true (ap (leb _) (sym c.wide.ensures) ∙ lt-leb _ _ c.if-n-wide.false))

pub returns : goal.returns
returns c = sym (c.loop-i.invariant.1 ∙ some_end _ _ _ c.loop-i-test.false)
