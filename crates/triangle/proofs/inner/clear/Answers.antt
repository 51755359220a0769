-- `triangle::inner::clear` meets its contract. The loop's invariant: of the first j triangles those before the c-th are missed. A triangle that is not
-- outside lowers c to its own place, so it is never counted.
use mathlib.Core.Path.{◌≡◌}
use mathlib.Core.Logic.{⊎_elim}
use Prim.Native.Nat.{◌+◌, ◌<◌}
use native.Mathlib.Nat.{eq-or-lt_of_le}
use native.Mathlib.Omega.{arith}
use Rattle.std.specs.Prelude.{None}
use Rattle.triangle.specs.Meet.{meet_of}
use Rattle.triangle.specs.Missed.{outside_missed}
use Rattle.triangle.specs.Places.{triangle_at}
use Rattle.triangle.proofs.inner.clear.Goals as goal
use Rattle.triangle.proofs.inner.clear.Goals.{then-outside, else-outside}

pub loop-j-preserved : goal.loop-j-preserved
loop-j-preserved c =
    let at = c.loop-j in
    let a = c.args in
    let missed : at.j < c.min-c.result → meet_of a.ray (triangle_at a.points.now (a.i + at.j)) ≡ None =
    λ g. elim c.if-outside.branch [
      | then-outside w ↦ outside_missed _ _ (rw (← c.at.ensures, ← c.solve-s.ensures, ← c.outside.ensures) w.if-outside.true)
      | else-outside w ↦ absurd (omega (arith, c.min-c.ensures, w.open-is))
    ] in (
      omega (arith, c.min-c.ensures),
      λ l p q g.
          ⊎_elim
          (λ (e : l ≡ a.i + at.j). rw e (missed (omega arith)))
          (λ (b : l < a.i + at.j). at.invariant.1 l p b (omega (arith, c.min-c.ensures)))
          (eq-or-lt_of_le (omega arith)),
    )
