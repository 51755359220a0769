-- What is left of the contents at entry i is what the whole comes to; at an entry that does not fit both are false.
use native.Mathlib.Omega.{arith}
use Prim.Native.Nat.{ℕ, ◌+◌, ◌-◌, ◌*◌}
use native.Mathlib.Nat.{sub-zero}
use mathlib.Core.Path.{◌≡◌, refl, ◌∙◌}
use mathlib.Core.List.{List}
use Rattle.contents.specs.Contents.{contents_from, contents_good}
use Rattle.contents.proofs.Step.{held, failed, more, none, done}
use Rattle.contents.proofs.inner.contents_fit.Goals as goal

at_start : (s : List ℕ) (n entries : ℕ) → contents_from s n (entries - 0) 0 0 (12 + entries * 12) ≡ contents_good s entries n
at_start s n entries = rw sub-zero refl

pub loop-i-init : goal.loop-i-init
loop-i-init c = (at_start _ _ _, omega arith, omega arith)

pub returns-then-not-entry_fits : goal.returns-then-not-entry_fits
returns-then-not-entry_fits c =
    let args = c.args in
    let loop = c.loop-i in
    let loop_test = c.loop-i-test in
    let u32_at_lem = c.u32_at-kind in
    let u32_at2 = c.u32_at in
    let size = c.size-offset in
    let u32_at3 = c.u32_at-in-loop-i in
    let size2 = c.size-long in
    let entry_fits = c.entry_fits in
    none args.s.now args.voxels args.entries loop.i loop.previous loop.start _ _ _ _ loop_test.true u32_at_lem.ensures
    (size.ensures.0 ∙ u32_at2.ensures) (size2.ensures.0 ∙ u32_at3.ensures) (failed _ _ entry_fits.ensures c.if-not-entry_fits.true-raw) loop.invariant.0

pub loop-i-preserved : goal.loop-i-preserved
loop-i-preserved c =
    let args = c.args in
    let loop = c.loop-i in
    let loop_test = c.loop-i-test in
    let u32_at_lem = c.u32_at-kind in
    let u32_at2 = c.u32_at in
    let size = c.size-offset in
    let u32_at3 = c.u32_at-in-loop-i in
    let size2 = c.size-long in
    let entry_fits = c.entry_fits in
    (more args.s.now args.voxels args.entries loop.i loop.previous loop.start _ _ _ _ loop_test.true u32_at_lem.ensures (size.ensures.0 ∙ u32_at2.ensures) (size2.ensures.0 ∙ u32_at3.ensures) (held _ _ entry_fits.ensures c.if-not-entry_fits.false-raw) loop.invariant.0, omega arith, omega (arith, size2.ensures.1))

pub returns : goal.returns
returns c =
    let args = c.args in
    let loop = c.loop-i in
    done args.s.now args.voxels args.entries loop.i loop.previous loop.start _ c.loop-i-test.false loop.invariant.0
