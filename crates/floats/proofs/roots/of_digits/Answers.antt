-- `floats::roots::of_digits` meets its contract: the number under the root has 47 or 48 digits, and `settle` rounds its root.
use mathlib.Core.Path.{refl, subst}
use Prim.Native.Nat.{ℕ, ◌*◌, ◌%◌}
use native.Mathlib.Omega.{arith}
use Rattle.floats.specs.RootParts.{Rounds}
use Rattle.floats.proofs.Square.{scale}
use Rattle.floats.proofs.roots.of_digits.Goals as goal
use Rattle.floats.proofs.roots.of_digits.Goals.{Start}

pub returns : goal.returns
returns c =
    let a = c.args in
    record { r = c.settle-r.result; bits = refl; rounds = subst (λ (k : ℕ). Rounds (a.m * k) c.settle-r.result) (scale (a.e % 2) (omega arith)) c.settle-r.ensures }
