use Prim.Native.Nat.{◌+◌, ◌-◌, ◌*◌, ◌≤◌}
use mathlib.Core.Path.{◌≡◌}
use Rattle.contents.specs.Contents.{contents_from, contents_good}
use Rattle.contents.proofs.inner.contents_fit.Given as goal

abbrev pub invariant-loop-i : goal.invariant-loop-i
invariant-loop-i l = (contents_from l.s l.voxels (l.entries - l.i) l.i l.previous l.start ≡ contents_good l.s l.entries l.voxels) × (l.i ≤ l.entries) × (l.start ≤ 204 + l.i * 4294967295)

abbrev pub decreases-loop-i : goal.decreases-loop-i
decreases-loop-i l = l.entries - l.i
