-- `limits::inner::bad_numbers` meets its contract. The invariant: what the test says of the whole list it says of what is left at i.
use borrow.Author.Rules.{rules}
use mathlib.Core.Path.{refl, sym, ◌∙◌}
use Rattle.limits.specs.LimitsLaws.{numbers_found, numbers_next, numbers_end}
use Rattle.limits.proofs.inner.bad_numbers.Goals as goal

pub loop-i-init : goal.loop-i-init
loop-i-init c = (search rules, refl)

pub returns-then-bad_number : goal.returns-then-bad_number
returns-then-bad_number c = let k = c in
    sym (k.loop-i.invariant.1 ∙ numbers_found _ _ k.loop-i-test.true (sym c.bad_number.ensures ∙ c.if-bad_number.true))

pub loop-i-preserved : goal.loop-i-preserved
loop-i-preserved c = let k = c in
    (search rules, k.loop-i.invariant.1 ∙ numbers_next _ _ k.loop-i-test.true (sym c.bad_number.ensures ∙ c.if-bad_number.false))

pub returns : goal.returns
returns c = sym (c.loop-i.invariant.1 ∙ numbers_end _ _ c.loop-i-test.false)
