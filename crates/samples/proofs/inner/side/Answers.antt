-- `samples::inner::side` counts up as the definition does: what is left to try gives the same side. Assumes nothing.
use Rattle.std.proofs.Common.{◌≡◌, ℕ, zero, suc, ◌+◌, ◌-◌, ◌*◌, ◌<◌, ◌≤◌, sym, refl, ◌∙◌, arith, le-ltb, lt-ltb}
use native.Mathlib.Nat.{sub-zero}
use Rattle.lists.specs.Fold.{ahead}
use Rattle.samples.specs.Samples.{side_from, side_of}
use Rattle.samples.specs.SamplesLaws.{square_most}
use Rattle.samples.proofs.inner.side.Goals as goal

-- one more number tried, and none to try
further : (s n : ℕ) → n < s → n * n < s → side_from s (s - n) n ≡ side_from s (s - (n + 1)) (n + 1)
unfolding side_from
further s n h e = rw (ahead n s h, lt-ltb (n * n) s e) refl

found : (s k n : ℕ) → s ≤ n * n → side_from s k n ≡ n
unfolding side_from
found s zero n e = refl
found s (suc k) n e = rw (le-ltb (n * n) s e) refl

pub loop-n-init : goal.loop-n-init
unfolding side_of
loop-n-init c = (omega arith, rw sub-zero refl)

pub loop-n-preserved : goal.loop-n-preserved
loop-n-preserved c =
    let n = c.loop-n.n in
    let s = c.args.s in
    let h : n < s = omega (arith, square_most n) in
    (omega arith, c.loop-n.invariant.1 ∙ further s n h c.loop-n-test.true)

pub returns : goal.returns
returns c = sym (c.loop-n.invariant.1 ∙ found _ _ _ c.loop-n-test.false)
