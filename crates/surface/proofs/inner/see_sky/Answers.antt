-- `surface::inner::see_sky` meets its contract. The loop's invariant: the fold over the rays that are left, from what is seen so far, is the
-- fold over all four; and as many rays are counted as are passed.
use mathlib.Core.Path.{refl, sym, ap, ◌∙◌}
use native.Mathlib.Omega.{arith}
use Rattle.lists.specs.Fold.{fold_step, fold_end}
use Rattle.surface.specs.declared.Seen.{Seen}
use Rattle.surface.specs.Surface.{seen_of, seen_by}
use Rattle.surface.proofs.inner.see_sky.Goals as goal

pub loop-j-init : goal.loop-j-init
unfolding seen_of
loop-j-init c = record { rays = refl; left = refl }

pub loop-j-preserved : goal.loop-j-preserved
unfolding seen_by
loop-j-preserved c =
    let t = c.loop-j.invariant in
    let seen = c.see-seen.ensures in
    record {
      rays = ap (λ (s : Seen). s.rays) seen ∙ omega (arith, t.rays);
      left = rw (seen, c.sky_ray-ray.ensures, c.basis_of-basis.ensures) (sym (fold_step _ c.loop-j.j 4 c.loop-j.seen c.loop-j-test.true) ∙ t.left);
    }

pub returns : goal.returns
returns c = sym (fold_end _ c.loop-j.j 4 c.loop-j.seen (omega arith)) ∙ c.loop-j.invariant.left
