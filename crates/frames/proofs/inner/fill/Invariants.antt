use mathlib.Core.Path.{◌≡◌}
use Prim.Native.Nat.{ℕ, ◌*◌, ◌/◌}
use lib.ListN.{length, take}
use Rattle.lists.specs.Laid.{laid}
use Rattle.lookup.specs.Place.{cells_of}
use Rattle.frames.specs.Frames.{position_at}
use Rattle.frames.proofs.inner.fill.Given as goal

abbrev pub invariant-loop-k : goal.invariant-loop-k
invariant-loop-k g l =
    let m = g.F.Looked in
    (l.count ≡ length l.positions / 3)
    × (take (l.k * m.EACH) l.answers ≡ laid (λ (j : ℕ). g.F.Framed.numbers (m.blend l.list (cells_of l.axes l.corners (position_at l.positions j)))) l.k 0)
