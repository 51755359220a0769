use Rattle.std.proofs.Common.{◌≡◌, ◌*◌, take}
use Rattle.lists.specs.Laid.{laid}
use Rattle.ends.specs.Ends.{ambient_at}
use Rattle.ends.proofs.inner.fill.Given as goal

abbrev pub invariant-loop-i : goal.invariant-loop-i
invariant-loop-i l = take (l.i * 16) l.volume ≡ laid (ambient_at l.ambient l.lights) l.i 0
