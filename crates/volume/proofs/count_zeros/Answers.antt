-- What is counted so far and what is left make the whole.
use native.Mathlib.Omega.{arith}
use Prim.Native.Nat.{◌+◌, ◌*◌}
use Rattle.bytes_le.specs.Bytes.{f32_at}
use Rattle.volume.specs.Volume.{is_zero}
use Rattle.volume.proofs.Zeros.{one_more, at_end, at_most}
use Rattle.volume.proofs.count_zeros.Goals as goal

pub loop-i-preserved : goal.loop-i-preserved
loop-i-preserved c =
    let one = c.from-count.ensures in
    (rw one (one_more (λ i. f32_at c.args.bytes.now (c.args.at + i * 4)) _ _ _ _ c.loop-i-test.true c.f32_at.ensures c.loop-i.invariant.0), omega (arith, one, at_most (is_zero c.f32_at.result)))

pub returns : goal.returns
returns c = at_end (λ i. f32_at c.args.bytes.now (c.args.at + i * 4)) _ _ _ c.loop-i-test.false c.loop-i.invariant.0
