-- `dilate::inner::merge_below`: the bits from piece k on are set, and below all is as it was, what is read too. Assumes nothing.
use Rattle.std.proofs.Common.{◌≡◌, ◌-◌, ◌*◌, ◌∙◌, min, arith}
use Rattle.dilate.specs.RunLaws.{merged_before}
use Rattle.dilate.proofs.inner.merge_below.Goals as goal

pub loop-k-preserved : goal.loop-k-preserved
loop-k-preserved c =
    let l = c.loop-k in
    let a = c.args in
    let i : min ((l.k - 1) * 64) a.n ≡ (l.k - 1) * 64 = omega arith in
    let e : (l.k - 1) * 64 ≡ min (l.k * 64) a.n - c.min-len.result = omega arith in (
      c.or_bits.auto.words ∙ l.invariant.0,
      rw i (rw e (merged_before a.words.now l.words _ a.at a.from (min (l.k * 64) a.n) a.n _ _ c.requires.0 (omega arith) (omega arith) l.invariant.1 (rw e at c.bits_at-bits.ensures) (rw e at c.or_bits.ensures))),
    )
