-- Each axis is the u16 at its place.
use Rattle.contents.proofs.inner.axes_at.Goals as goal

pub returns : goal.returns
returns c =
    let u16_at_lem = c.u16_at in
    let size = c.size-w in
    let u16_at2 = c.u16_at-2 in
    let size2 = c.size-h in
    let u16_at3 = c.u16_at-3 in
    cc (size.ensures.0, u16_at_lem.ensures.0, size2.ensures.0, u16_at2.ensures.0, c.size-d.ensures.0, u16_at3.ensures.0)
