use mathlib.Core.Path.{◌≡◌}
use Prim.Native.Nat.{ℕ, ◌-◌, ◌*◌, ◌/◌}
use lib.ListN.{length, take}
use Rattle.lists.specs.Laid.{laid}
use Rattle.lookup.specs.Place.{cells_of}
use Rattle.frames.specs.Frames.{position_at, least_refused}
use Rattle.frames.specs.Passes.{first_position}
use Rattle.frames.proofs.inner.keep.Given as goal

abbrev pub invariant-loop-k : goal.invariant-loop-k
invariant-loop-k g l =
    let m = g.F.Looked in
    (l.count ≡ length l.positions / 3)
    × (least_refused (λ (j : ℕ). m.refusal l.axes l.corners l.list (position_at l.positions j)) (l.count - l.k) l.k ≡ first_position m.refusal l.axes l.corners l.list l.positions)
    × (take (l.k * m.EACH) l.room ≡ laid (λ (j : ℕ). g.F.Framed.numbers (m.blend l.list (cells_of l.axes l.corners (position_at l.positions j)))) l.k 0)
