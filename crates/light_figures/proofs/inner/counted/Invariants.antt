use mathlib.Core.Path.{◌≡◌}
use Prim.Native.Nat.{◌+◌, ◌-◌, ◌*◌, ◌≤◌}
use Rattle.lists.specs.Fold.{tab}
use Rattle.bytes_le.specs.Bytes.{f32_at}
use Rattle.light_units.specs.Units.{units_of}
use Rattle.light_figures.specs.LightFigures.{figures_of}
use Rattle.light_figures.proofs.inner.counted.Given as goal

abbrev pub invariant-loop-i : goal.invariant-loop-i
invariant-loop-i l = (l.figures ≡ figures_of (tab (λ k. units_of (f32_at l.bytes (l.at + k * 4))) l.i 0)) × (l.i ≤ l.n)

abbrev pub decreases-loop-i : goal.decreases-loop-i
decreases-loop-i l = l.n - l.i
