use Prim.Native.Nat.{◌+◌, ◌-◌, ◌*◌, ◌≤◌}
use mathlib.Core.Path.{◌≡◌}
use mathlib.Core.List.{◌++◌}
use lib.ListN.{length, take}
use Rattle.lists.specs.Fold.{tab}
use Rattle.bytes_le.specs.Bytes.{f32_at, floats_at}
use Rattle.bytes_le.proofs.inner.floats_into.Given as goal

abbrev pub invariant-loop-i : goal.invariant-loop-i
invariant-loop-i l = (length l.out ≡ length l.initial.out) × (take l.i l.out ++ tab (λ k. f32_at l.s (l.at + k * 4)) (length l.out - l.i) l.i ≡ floats_at l.s l.at (length l.initial.out)) × (l.i ≤ length l.initial.out)

abbrev pub decreases-loop-i : goal.decreases-loop-i
decreases-loop-i l = length l.initial.out - l.i
