-- `dilate::inner::merge_above`: the first k pieces are set, and from there on all is as it was, what is read too. Assumes nothing.
use Rattle.std.proofs.Common.{◌≡◌, ◌+◌, ◌*◌, ◌∙◌, min, arith}
use Rattle.dilate.specs.RunLaws.{merged_next}
use Rattle.dilate.proofs.inner.merge_above.Goals as goal

pub loop-k-preserved : goal.loop-k-preserved
loop-k-preserved c =
    let l = c.loop-k in
    let a = c.args in
    let i : min (l.k * 64) a.n ≡ l.k * 64 = omega arith in
    let e : min ((l.k + 1) * 64) a.n ≡ l.k * 64 + c.min-len.result = omega arith in (
      c.or_bits.auto.words ∙ l.invariant.0,
      rw e (merged_next a.words.now l.words _ a.at a.from 0 (l.k * 64) _ _ c.requires.0 (omega arith) (rw i at l.invariant.1) c.bits_at-bits.ensures c.or_bits.ensures),
    )
