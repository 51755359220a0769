-- `limits::inner::any_out_of` meets its contract. The invariant: what the test says of the whole list is what was found, or what it says of what is left at i.
use borrow.Author.Rules.{rules}
use mathlib.Core.Path.{refl, sym, ◌∙◌}
use lib.Ieee.{nan}
use Rattle.lists.specs.Some.{some_more, some_all}
use Rattle.limits.specs.Limits.{outside}
use Rattle.limits.proofs.inner.any_out_of.Goals as goal

pub loop-i-init : goal.loop-i-init
loop-i-init c = (search rules, refl)

pub loop-i-preserved : goal.loop-i-preserved
loop-i-preserved c =
    let k = c in
    let a = k.args in
    (search rules, rw c.out_of-any.ensures (k.loop-i.invariant.1 ∙ some_more (outside a.b) a.l.now k.loop-i.i nan k.loop-i.any c.loop-i-test.true))

pub returns : goal.returns
returns c = sym (c.loop-i.invariant.1 ∙ some_all _ _ _ _ c.loop-i-test.false)
