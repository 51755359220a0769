-- `floats::roots::of_small` meets its contract. The loop's invariant: m * 2^e is the number, whose 24 digits m comes to have. The measure is e.
use mathlib.Core.Path.{◌∙◌}
use Prim.Native.Nat.{◌<◌}
use native.Mathlib.Omega.{arith}
use Rattle.floats.proofs.Square.{room, double}
use Rattle.floats.proofs.roots.of_small.Goals as goal
use Rattle.floats.proofs.roots.of_small.Goals.{In-loop-m}

some : (c : In-loop-m) → 0 < c.loop-m.e
some c = let l = c.loop-m in room c.args.t l.m l.e c.requires.0 l.invariant.1 l.invariant.0

pub loop-m-preserved : goal.loop-m-preserved
loop-m-preserved c = (double c.loop-m.m c.loop-m.e (some c) ∙ c.loop-m.invariant.0, omega arith, omega arith)
