use Prim.Native.Nat.{◌+◌, ◌-◌, ◌*◌, ◌≤◌}
use mathlib.Core.Path.{◌≡◌}
use Rattle.lists.specs.Fold.{tab}
use Rattle.bytes_le.specs.Bytes.{f32_at, floats_at}
use Rattle.volume.specs.Volume.{zero_count}
use Rattle.volume.proofs.count_zeros.Given as goal

abbrev pub invariant-loop-i : goal.invariant-loop-i
invariant-loop-i l = (l.count + zero_count (tab (λ k. f32_at l.bytes (l.at + k * 4)) (l.n - l.i) l.i) ≡ zero_count (floats_at l.bytes l.at l.n)) × (l.count ≤ l.i)
