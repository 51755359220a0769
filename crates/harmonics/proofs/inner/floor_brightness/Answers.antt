-- `harmonics::inner::floor_brightness` meets its contract: its two tests are the definition's, and each way gives what the definition picks.
use Rattle.harmonics.specs.Harmonics.{floored_of, shortfall_of}
use Rattle.harmonics.proofs.inner.floor_brightness.Goals as goal

pub returns-then-least : goal.returns-then-least
unfolding floored_of
returns-then-least c = rw (← c.scale.ensures, ← c.luminance-least.ensures, c.if-least.true)

pub returns-then-current-least : goal.returns-then-current-least
unfolding floored_of
returns-then-current-least c =
    let a = c.before.before.before.before in
    rw (← a.scale.ensures, ← c.luminance-least.ensures, c.if-least.false, ← c.luminance-current.ensures, c.if-current-least.true)

pub returns : goal.returns
unfolding floored_of shortfall_of
returns c =
    let b = c.before.before in
    let a = b.before.before.before.before in
    rw (← a.scale.ensures, ← b.luminance-least.ensures, b.if-least.false, ← b.luminance-current.ensures, b.if-current-least.false, ← c.clamp-t.ensures, ← c.blend.ensures)
