-- `words::inner::set_bit` is the definition: `|` with a shifted 1 sets the bit. Assumes nothing.
use mathlib.Core.Path.{ap, ◌∙◌}
use Prim.Native.Nat.{ℕ, ◌/◌, ◌%◌, ◌^◌}
use native.Mathlib.Omega.{arith}
use native.Mathlib.Nat.{one-mul}
use lib.Bits.{bit_or}
use lib.ListN.{set, get_or}
use Rattle.words.specs.ByWords.{put_at}
use Rattle.words.specs.BitLaws.{shifted, or_puts}
use Rattle.words.proofs.inner.set_bit.Goals as goal

pub returns : goal.returns
unfolding put_at
returns c =
    let a = c.args in
    let w : ℕ = get_or a.words.now (a.i / 64) 0 in
    ap (λ (x : ℕ). set a.words.now (a.i / 64) x) (ap (bit_or w) (shifted 1 (a.i % 64) (omega arith) (omega arith) ∙ one-mul (2 ^ (a.i % 64))) ∙ or_puts w (a.i % 64))
