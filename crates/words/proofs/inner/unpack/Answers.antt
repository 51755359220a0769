-- `words::inner::unpack` fills the entries: what is written and the bits for the rest are the whole. Assumes nothing.
use mathlib.Core.Path.{◌≡◌, refl, sym, ◌∙◌}
use Prim.Native.Nat.{◌+◌, ◌*◌, ◌/◌, ◌%◌, min}
use native.Mathlib.Omega.{arith}
use native.Mathlib.Nat.{sub-zero}
use lib.ListN.{length, length-set}
use Rattle.lists.specs.Fold.{tab_step, tab_end}
use Rattle.words.specs.Words.{bit_at, entries_of}
use Rattle.words.specs.EightLaws.{eight_more}
use Rattle.words.proofs.inner.unpack.Goals as goal

pub loop-k-init : goal.loop-k-init
unfolding entries_of
loop-k-init c =
    let none : min 0 (length c.args.entries.now / 8) * 8 ≡ 0 = omega arith in
    rw (none, sub-zero) refl

pub loop-j-preserved : goal.loop-j-preserved
loop-j-preserved c =
    let l = c.loop-j in
    let i = (c.loop-k.k * 8 + l.j) * 8 in
    let next : (c.loop-k.k * 8 + (l.j + 1)) * 8 ≡ i + 8 = omega arith in
    let word : c.loop-k.k ≡ i / 64 = omega arith in
    let place : l.j * 8 ≡ i % 64 = omega arith in
    rw next (eight_more c.args.words.now l.entries _ i _ _ (omega arith) (omega arith) (rw (word, place) at c.spread.ensures) c.put_eight.ensures l.invariant)

pub loop-i-preserved : goal.loop-i-preserved
loop-i-preserved c =
    let l = c.loop-i in
    simp length-set (rw c.bit_at.ensures (tab_step (bit_at c.args.words.now) l.entries l.i (omega arith) ∙ l.invariant))

pub returns : goal.returns
returns c = let l = c.loop-i in sym (tab_end _ l.entries l.i (omega arith)) ∙ l.invariant
