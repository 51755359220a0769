-- `words::inner::last_word` puts the word together from its highest bit down; past the last entry none is marked. Assumes nothing.
use mathlib.Core.Path.{sym, ap}
use Prim.Native.Nat.{ℕ, ◌-◌, ◌^◌, ◌<◌}
use native.Mathlib.Omega.{arith}
use lib.Dec.{eqb}
use lib.ListN.{length, get_or-eq_default}
use Rattle.marks.specs.Marks.{is_marked}
use Rattle.words.specs.BitLaws.{bit_is, one_below, packed_none, packed_next, packed_room}
use Rattle.words.proofs.inner.last_word.Goals as goal
use Rattle.words.proofs.inner.last_word.Goals.{After-from}

pub loop-j-init : goal.loop-j-init
loop-j-init c =
    let entries = c.args.entries.now in
    sym (packed_none (is_marked entries) (64 - (length entries - c.args.first)) _ (λ j h. ap (λ (x : ℕ). eqb x 1) (get_or-eq_default entries 0 (omega arith))))

-- there is room for a bit more
room : (c : After-from) → c.loop-j.w < 2 ^ 63
room c =
    let l = c.loop-j in
    let a = c.args in
    rw l.invariant (packed_room (is_marked a.entries.now) a.first l.j c.loop-j-test.true)

pub overflow_mul-w : goal.overflow_mul-w
overflow_mul-w c = omega (arith, room c)

pub overflow_add-w : goal.overflow_add-w
overflow_add-w c = grind (arith, room c, bit_is, one_below)

pub loop-j-preserved : goal.loop-j-preserved
loop-j-preserved c =
    let l = c.loop-j in
    let a = c.args in
    rw (c.from.ensures, bit_is, l.invariant) (packed_next (is_marked a.entries.now) a.first l.j c.loop-j-test.true (omega arith))
