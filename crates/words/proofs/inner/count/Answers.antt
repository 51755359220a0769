-- `words::inner::count` adds the ones of each word, and those are the marked entries. Assumes nothing.
use mathlib.Core.Path.{refl, ◌∙◌}
use Prim.Native.Nat.{◌+◌, ◌*◌}
use native.Mathlib.Omega.{arith}
use Rattle.words.specs.BitLaws.{total}
use Rattle.words.specs.WordsLaws.{bits_word, bits_room, ones_marked}
use Rattle.words.proofs.inner.count.Goals as goal

pub loop-word-init : goal.loop-word-init
unfolding total
loop-word-init c = refl

pub overflow_add-c : goal.overflow_add-c
overflow_add-c c =
    let k = c.loop-word.word-index in
    let words = c.args.words.now in
    omega (arith, c.from-c.ensures, bits_word words (λ j. (c.type_inv.words j).fits) k, bits_room words c.args.n c.requires ((k + 1) * 64))

pub loop-word-preserved : goal.loop-word-preserved
loop-word-preserved c = omega (arith, c.from-c.ensures, bits_word c.args.words.now (λ j. (c.type_inv.words j).fits) c.loop-word.word-index)

pub returns : goal.returns
returns c =
    let l = c.loop-word in
    l.invariant ∙ ones_marked c.args.words.now c.args.n c.requires (l.word-index * 64) (omega (arith, c.requires.long))
