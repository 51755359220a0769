-- `surface::inner::light_fallen` meets its contract. The loop's invariant: the lamps that are left, added to what has fallen so far, give what falls
-- in all; and no more than five rays and one for each lamp passed are counted.
use mathlib.Core.Path.{refl, sym, ◌∙◌}
use Prim.Native.Nat.{◌+◌, ◌≤◌}
use native.Mathlib.Nat.{sub-zero}
use native.Mathlib.Omega.{arith}
use Rattle.lists.specs.Fold.{fold_step, fold_end}
use Rattle.surface.specs.Surface.{fallen_on}
use Rattle.surface.specs.SurfaceLaws.{day_most, lamp_most}
use Rattle.surface.proofs.inner.light_fallen.Goals as goal

pub loop-j-init : goal.loop-j-init
unfolding fallen_on
loop-j-init c =
    let day = c.light_day-fallen in
    record { rays = rw day.ensures (day_most _ _ _); left = rw (sub-zero, c.lamp_count-n.ensures, day.ensures) refl }

pub loop-j-preserved : goal.loop-j-preserved
loop-j-preserved c =
    let t = c.loop-j.invariant in
    let lit = c.light_lamp-fallen in
    let m : lit.result.rays ≤ c.loop-j.fallen.rays + 1 = rw lit.ensures (lamp_most _ _ _ _ _) in
    record {
      rays = omega (arith, m, t.rays);
      left = rw (lit.ensures, c.lamp_at-lamp.ensures) (sym (fold_step _ c.loop-j.j _ c.loop-j.fallen c.loop-j-test.true) ∙ t.left);
    }

pub returns : goal.returns
returns c = sym (fold_end _ c.loop-j.j _ c.loop-j.fallen (omega arith)) ∙ c.loop-j.invariant.left
