use Rattle.std.proofs.Common.{◌≡◌, ◌||◌, ◌+◌, ◌-◌, ◌*◌}
use Rattle.lists.specs.Fold.{tab}
use Rattle.bytes_le.specs.Bytes.{f32_at, floats_at}
use Rattle.lists.specs.Some.{some}
use Rattle.limits.specs.Limits.{outside}
use Rattle.volume_file.proofs.inner.bad_floats.Given as goal

abbrev pub invariant-loop-i : goal.invariant-loop-i
invariant-loop-i l = some (outside l.b) (floats_at l.s l.at l.n) ≡ l.any || some (outside l.b) (tab (λ k. f32_at l.s (l.at + k * 4)) (l.n - l.i) l.i)
