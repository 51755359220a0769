-- `floats::wholes::whole` meets its contract: adding 2^k - 1 before the shift is the step away from 0.
use mathlib.Core.Path.{◌≡◌, ap, ◌∙◌}
use Prim.Native.Nat.{ℕ, ◌*◌, ◌%◌, ◌^◌, ◌≤◌}
use native.Mathlib.Nat.{mod-eq_of_lt, one-mul}
use native.Mathlib.Omega.{arith}
use lib.Pow.{pow_pos, pow_mono}
use Rattle.floats.proofs.Steps.{away_is}
use Rattle.floats.proofs.wholes.whole.Goals as goal

pub returns : goal.returns
returns c =
    let a = c.args in
    let most : 2 ^ a.k ≤ 16777216 = pow_mono {j = 24} (omega arith) in
    let shifted : (1 * 2 ^ a.k) % 2 ^ 32 ≡ 2 ^ a.k = ap (λ (z : ℕ). z % 2 ^ 32) (one-mul (2 ^ a.k)) ∙ mod-eq_of_lt (omega arith) in
    rw (c.from.ensures, shifted) (away_is a.away a.m (2 ^ a.k) (pow_pos a.k))
