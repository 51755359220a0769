-- `dilate::inner::dilate_word`: each shift down widens by a place what a mark reaches below it, each shift up what it reaches above. Assumes nothing.
use mathlib.Core.Path.{◌≡◌}
use native.Mathlib.Omega.{arith}
use Rattle.names.specs.Numbers.{reach}
use Rattle.words.specs.Words.{bit_of}
use Rattle.words.specs.BitLaws.{bit_lt}
use Rattle.dilate.specs.BlockLaws.{spread_above, spread_below, word_above, word_above_beyond, word_below, word_cut, word_beyond}
use Rattle.dilate.proofs.inner.dilate_word.Goals as goal

pub down-preserved : goal.down-preserved
down-preserved c =
    let l = c.down in
    let a = c.args in (
      spread_above a.stride a.m (bit_of a.bits) l.counter 0 (bit_of l.marks) _ (bit_lt l.marks) l.invariant.0 (word_above a.stride a.m l.marks l.invariant.1),
      word_above_beyond a.stride a.m l.marks l.invariant.1,
    )

pub up-preserved : goal.up-preserved
up-preserved c =
    let l = c.up in
    let a = c.args in
    spread_below a.stride a.m (bit_of a.bits) reach l.counter (bit_of l.marks) _ (bit_lt l.marks) l.invariant (word_below a.stride a.m l.marks c.requires.2)

pub returns : goal.returns
returns c =
    let l = c.up in
    let a = c.args in
    let e : l.counter ≡ reach = omega arith in
    (word_cut a.stride a.m reach reach a.bits l.marks (rw e at l.invariant) c.cut.ensures, word_beyond a.m l.marks c.cut.ensures)
