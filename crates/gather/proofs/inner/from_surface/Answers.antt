-- `gather::inner::from_surface` meets its contract: a surface is read from the scene's four lists alone.
use Rattle.surface.specs.SurfaceLaws.{surface_unread}
use Rattle.gather.proofs.inner.from_surface.Goals as goal

pub returns : goal.returns
returns c =
    let a = c.args in
    rw (surface_unread a.boxed a.points.now a.uses.now a.kinds.now a.numbers.now a.boxes.now a.nodes.now a.order.now a.ray a.place a.distance a.setting.biases.hit, ← c.surface_at-surface.ensures, ← c.bounce_light.ensures)
