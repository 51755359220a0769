-- After i turns the first i numbers are read, and what is left to read makes the whole.
use borrow.Author.Rules.{rules}
use native.Mathlib.Omega.{arith}
use Prim.Native.Nat.{ℕ, ◌+◌, ◌-◌, ◌*◌, ◌<◌}
use mathlib.Core.Path.{◌≡◌, refl, sym, ◌∙◌}
use mathlib.Core.List.{List, ◌++◌}
use lib.ListN.{length, take, set, length-set}
use native.Mathlib.Nat.{sub-zero}
use lib.Ieee.{Float}
use Rattle.lists.specs.Fold.{tab, tab_step, tab_end}
use Rattle.bytes_le.specs.Bytes.{f32_at}
use Rattle.bytes_le.proofs.inner.floats_into.Goals as goal

one_more_lem : (s : List ℕ) (out whole : List Float) (at i : ℕ) (v : Float) → i < length out → v ≡ f32_at s (at + i * 4)
    → take i out ++ tab (λ k. f32_at s (at + k * 4)) (length out - i) i ≡ whole
    → take (i + 1) (set out i v) ++ tab (λ k. f32_at s (at + k * 4)) (length (set out i v) - (i + 1)) (i + 1) ≡ whole
one_more_lem s out whole at i v h e w = rw (e, length-set out i (f32_at s (at + i * 4))) (tab_step (λ k. f32_at s (at + k * 4)) out i h ∙ w)

pub loop-i-init : goal.loop-i-init
loop-i-init c = (refl, rw sub-zero refl, search rules)

pub loop-i-preserved : goal.loop-i-preserved
loop-i-preserved c =
    let loop = c.loop-i in
    let loop_test = c.loop-i-test in
    (simp length-set loop.invariant.0, one_more_lem _ _ _ _ _ _ loop_test.true c.f32_at.ensures loop.invariant.1, omega arith)

pub returns : goal.returns
returns c = sym (tab_end _ _ _ c.loop-i-test.false) ∙ c.loop-i.invariant.1
