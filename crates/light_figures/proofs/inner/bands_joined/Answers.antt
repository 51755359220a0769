-- The bands below i are written, and what is left is what the definition gives.
use native.Mathlib.Omega.{arith}
use mathlib.Core.Path.{refl}
use Prim.Native.Nat.{◌+◌}
use lib.ListN.{get_or, length-set}
use Rattle.light_figures.proofs.Counting.{bands_step, bands_end}
use Rattle.light_figures.proofs.inner.bands_joined.Goals as goal

pub loop-i-init : goal.loop-i-init
loop-i-init c = (refl, omega arith, refl)

pub overflow_add-sums : goal.overflow_add-sums
overflow_add-sums c = omega (arith, c.requires c.loop-i.i)

pub loop-i-preserved : goal.loop-i-preserved
loop-i-preserved c =
    let s = c.args in
    let loop = c.loop-i in
    (bands_step (λ k. get_or s.a k 0 + get_or s.b k 0) loop.sums loop.i loop.invariant.2 c.loop-i-test.true loop.invariant.0, omega arith, simp length-set loop.invariant.2)

pub returns : goal.returns
returns c =
    let s = c.args in
    let loop = c.loop-i in
    bands_end (λ k. get_or s.a k 0 + get_or s.b k 0) loop.sums loop.i loop.invariant.2 c.loop-i-test.false loop.invariant.0
