-- `limits::inner::bad_lamps` meets its contract. The invariant: whether one of all lamps is bad is whether one of those left at j is.
use borrow.Author.Rules.{rules}
use borrow.Author.Tests.{lt-ltb, le-ltb}
use mathlib.Core.Path.{refl, sym, ap, ◌∙◌}
use native.Mathlib.Nat.{sub-zero}
use native.Mathlib.Omega.{arith}
use Rattle.lists.specs.Any.{any_found, any_next, any_end}
use Rattle.limits.specs.Limits.{bad_lamp, bad_lamps}
use Rattle.limits.proofs.inner.bad_lamps.Goals as goal

pub returns-then-n-gt-LAMP_LIMIT : goal.returns-then-n-gt-LAMP_LIMIT
unfolding bad_lamps
returns-then-n-gt-LAMP_LIMIT c = rw (← c.lamp_count-n.ensures, lt-ltb _ _ c.if-n-gt-LAMP_LIMIT.true)

pub loop-j-init : goal.loop-j-init
loop-j-init c = (omega arith, rw sub-zero refl)

pub lamp_at-requires : goal.lamp_at-requires
lamp_at-requires c = rw (← c.lamp_count-n.ensures) c.loop-j-test.true

pub returns-then-bad_lamp : goal.returns-then-bad_lamp
unfolding bad_lamps
returns-then-bad_lamp c =
    let bad = ap bad_lamp (sym c.lamp_at.ensures) ∙ sym c.bad_lamp.ensures ∙ c.if-bad_lamp.true in
    rw (← c.lamp_count-n.ensures, le-ltb _ _ c.if-n-gt-LAMP_LIMIT.false, c.loop-j.invariant.1, any_found _ _ _ c.loop-j-test.true bad)

pub loop-j-preserved : goal.loop-j-preserved
loop-j-preserved c =
    let good = ap bad_lamp (sym c.lamp_at.ensures) ∙ sym c.bad_lamp.ensures ∙ c.if-bad_lamp.false in
    (search rules, c.loop-j.invariant.1 ∙ any_next _ _ _ c.loop-j-test.true good)

pub returns : goal.returns
unfolding bad_lamps
returns c =
    rw (← c.lamp_count-n.ensures, le-ltb _ _ c.if-n-gt-LAMP_LIMIT.false, c.loop-j.invariant.1, any_end _ _ _ c.loop-j-test.false)
