use Prim.Native.Nat.{◌+◌, ◌-◌, ◌*◌}
use mathlib.Core.Path.{◌≡◌}
use mathlib.Core.Bool.{◌||◌}
use Rattle.lists.specs.Fold.{tab}
use Rattle.bytes_le.specs.Bytes.{f32_at, floats_at}
use Rattle.lists.specs.Some.{some}
use Rattle.light_units.specs.Units.{light_outside}
use Rattle.league_report.proofs.any_outside.Given as goal

abbrev pub invariant-loop-i : goal.invariant-loop-i
invariant-loop-i l = some light_outside (floats_at l.bytes l.at l.n) ≡ l.any || some light_outside (tab (λ k. f32_at l.bytes (l.at + k * 4)) (l.n - l.i) l.i)
