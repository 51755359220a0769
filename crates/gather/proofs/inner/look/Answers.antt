-- `gather::inner::look` meets its contract: the place of what is met is one of the scene's, and a surface takes at most five rays and one for each lamp.
use mathlib.Core.Path.{sym, ◌∙◌}
use Prim.Native.Nat.{◌+◌, ◌≤◌}
use native.Mathlib.Omega.{arith}
use Rattle.limits.specs.Limits.{lamp_count}
use Rattle.surface.specs.SurfaceLaws.{extra_most}
use Rattle.gather.specs.GatherLaws.{place_below}
use Rattle.gather.proofs.inner.look.Goals as goal

pub from_surface-sent-requires-clause-place_in_bounds : goal.from_surface-sent-requires-clause-place_in_bounds
from_surface-sent-requires-clause-place_in_bounds c = place_below _ _ _ (sym c.nearest-found.ensures ∙ c.in-Some.is)

pub overflow_add-result : goal.overflow_add-result
overflow_add-result c =
    let sent = c.from_surface-sent in
    let h : sent.result.rays ≤ 5 + lamp_count c.args.lamps.now = rw sent.ensures (extra_most _ _ _ _) in
    omega (arith, c.requires.lamps_bound)
