-- `dilate::inner::dilate_block`: a block of at most 64 bits is dilated as one word, a longer one by merges. Assumes nothing.
use Rattle.dilate.specs.BlockLaws.{block_by_word}
use Rattle.dilate.proofs.inner.dilate_block.Goals as goal

pub returns-then-stride-rest-le64 : goal.returns-then-stride-rest-le64
returns-then-stride-rest-le64 c =
    let a = c.args in
    block_by_word a.mask.now _ a.o a.stride _ c.bits_at-bits.result c.dilate_word-marks.result
    c.bits_at-bits.ensures c.dilate_word-marks.ensures.0 c.dilate_word-marks.ensures.1 c.or_bits.ensures
