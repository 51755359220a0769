use mathlib.Core.Path.{◌≡◌}
use Prim.Native.Nat.{ℕ, ◌-◌, ◌/◌}
use lib.ListN.{length}
use Rattle.frames.specs.Frames.{position_at, least_refused}
use Rattle.frames.specs.Passes.{first_position}
use Rattle.frames.proofs.inner.judge_positions.Given as goal

abbrev pub invariant-loop-k : goal.invariant-loop-k
invariant-loop-k g l =
    let refusal = g.F.Looked.refusal in
    (l.count ≡ length l.positions / 3)
    × (least_refused (λ (j : ℕ). refusal l.axes l.corners l.list (position_at l.positions j)) (l.count - l.k) l.k ≡ first_position refusal l.axes l.corners l.list l.positions)
