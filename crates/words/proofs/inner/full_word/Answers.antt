-- `words::inner::full_word` puts the word together from its highest eight bits down. Assumes nothing.
use mathlib.Core.Path.{refl}
use Prim.Native.Nat.{◌^◌, ◌<◌}
use native.Mathlib.Omega.{arith}
use Rattle.marks.specs.Marks.{is_marked}
use Rattle.words.specs.Words.{packed}
use Rattle.words.specs.BitLaws.{packed_eight_next, packed_eight_room}
use Rattle.words.proofs.inner.full_word.Goals as goal
use Rattle.words.proofs.inner.full_word.Goals.{After-eight_of}

pub loop-j-init : goal.loop-j-init
unfolding packed
loop-j-init c = refl

-- there is room for eight bits more
room : (c : After-eight_of) → c.loop-j.w < 2 ^ 56
room c =
    let l = c.loop-j in
    let a = c.args in
    rw l.invariant (packed_eight_room (is_marked a.entries.now) a.first l.j c.loop-j-test.true)

pub overflow_mul-w : goal.overflow_mul-w
overflow_mul-w c = omega (arith, room c)

pub overflow_add-w : goal.overflow_add-w
overflow_add-w c = omega (arith, room c)

pub loop-j-preserved : goal.loop-j-preserved
loop-j-preserved c =
    let l = c.loop-j in
    let a = c.args in
    rw (c.eight_of.ensures.0, l.invariant) (packed_eight_next (is_marked a.entries.now) a.first l.j c.loop-j-test.true (omega arith))
