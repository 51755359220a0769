use mathlib.Core.Path.{◌≡◌}
use Prim.Native.Nat.{ℕ, ◌+◌, ◌≤◌, ◌<◌}
use Rattle.std.specs.Prelude.{None}
use Rattle.triangle.specs.Meet.{meet_of}
use Rattle.triangle.specs.Places.{triangle_at}
use Rattle.triangle.proofs.inner.clear.Given as goal

abbrev pub invariant-loop-j : goal.invariant-loop-j
invariant-loop-j l =
    (l.c ≤ l.k) × ((k : ℕ) → l.i ≤ k → k < l.i + l.j → k < l.i + l.c → meet_of l.ray (triangle_at l.points k) ≡ None)
