-- After i lights the figures are those of the first i.
use native.Mathlib.Omega.{arith}
use mathlib.Core.Path.{◌≡◌, refl, sym, ap, ◌∙◌}
use mathlib.Core.List.{[]}
use Prim.Native.Nat.{ℕ, ◌+◌, ◌*◌}
use Rattle.lists.specs.Fold.{tab}
use Rattle.bytes_le.specs.Bytes.{f32_at}
use Rattle.light_units.specs.Units.{units_of}
use Rattle.light_figures.specs.LightFigures.{figures_of}
use Rattle.light_figures.proofs.Counting.{run_next, each_tab, inside_at, run_sized}
use Rattle.light_figures.proofs.inner.counted.Goals as goal

nothing : (g : ℕ → ℕ) → figures_of [] ≡ figures_of (tab g 0 0)
unfolding tab
nothing g = refl

pub loop-i-init : goal.loop-i-init
loop-i-init c = (c.none-figures.ensures ∙ nothing _, omega arith)

pub units_of-units-requires : goal.units_of-units-requires
units_of-units-requires c =
    let loop = c.loop-i in
    rw c.f32_at.ensures (inside_at (λ k. f32_at c.args.bytes.now (c.args.at + k * 4)) c.args.n loop.i c.requires.2 c.loop-i-test.true)

pub with_light-figures-requires : goal.with_light-figures-requires
with_light-figures-requires c =
    let loop = c.loop-i in
    (rw loop.invariant.0 (run_sized (λ k. f32_at c.args.bytes.now (c.args.at + k * 4)) c.args.n loop.i c.requires.2 loop.invariant.1 c.requires.1), c.units_of-units.ensures.1)

pub loop-i-preserved : goal.loop-i-preserved
loop-i-preserved c =
    let loop = c.loop-i in
    let units = c.units_of-units.ensures.0 ∙ ap units_of c.f32_at.ensures in
    (c.with_light-figures.ensures ∙ rw (loop.invariant.0, units) (sym (run_next (λ k. units_of (f32_at c.args.bytes.now (c.args.at + k * 4))) loop.i)), omega arith)

pub returns : goal.returns
returns c =
    let loop = c.loop-i in
    let all : loop.i ≡ c.args.n = omega arith in
    loop.invariant.0 ∙ rw all (ap figures_of (sym (each_tab (λ k. f32_at c.args.bytes.now (c.args.at + k * 4)) c.args.n 0)))
