-- The pattern's four bytes.
use mathlib.Core.Path.{◌∙◌, ap}
use Prim.Native.Nat.{ℕ}
use lib.Seq.{sets}
use Rattle.bytes_le.specs.Bytes.{bytes4}
use Rattle.bytes_le.proofs.inner.put_f32.Goals as goal

pub returns : goal.returns
returns c =
    let args = c.args in
    let bits_of = c.bits_of in
    let put_u32 = c.put_u32 in
    put_u32.ensures ∙ ap (λ (n : ℕ). sets args.s.now args.at (bytes4 n)) bits_of.ensures
