-- `words::inner::ones_below` cuts the word off at place j and takes the ones of what is left. Assumes nothing.
use mathlib.Core.Path.{◌≡◌, ap, ◌∙◌}
use Prim.Native.Nat.{ℕ, ◌*◌, ◌%◌, ◌^◌, ◌<◌}
use native.Mathlib.Omega.{arith}
use native.Mathlib.Nat.{one-mul}
use lib.Count.{ones}
use Rattle.words.specs.Words.{bit_of}
use Rattle.words.specs.BitLaws.{shifted, bit_lt, total_most, low_ones}
use Rattle.words.proofs.inner.ones_below.Goals as goal

bound : (j : ℕ) → j < 64 → 1 * 2 ^ j % 2 ^ 64 ≡ 2 ^ j
bound j h = shifted 1 j (omega arith) h ∙ one-mul (2 ^ j)

pub returns : goal.returns
returns c =
    let s = c.before in
    let w = s.args.w in
    let j = s.args.j in
    let e : c.from.result ≡ ones (w % 2 ^ j) = c.from.ensures ∙ ap (λ (y : ℕ). ones (w % y)) (bound j s.requires) in
    (e, omega (arith, e, low_ones j w, total_most (bit_of w) j 0 (bit_lt w)))
