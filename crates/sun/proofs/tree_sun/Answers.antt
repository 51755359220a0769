-- `sun::tree_sun` meets its contract: as a call without a tree, its tree accepted and laid out in rows.
use mathlib.Core.Path.{refl, sym}
use native.Mathlib.Omega.{arith}
use Rattle.sun.specs.SunLaws.{sun_ready}
use Rattle.sun.proofs.Answered.{refused, passed}
use Rattle.sun.proofs.tree_sun.Goals as goal

pub returns-in_err-judge : goal.returns-in_err-judge
returns-in_err-judge c = refused _ _ _ _ _ _ _ _ _ _ _ _ c.from_residual.ensures c.in_err-judge.ensures

-- the tree is accepted, and the triangles are no more than the limit
pub lay-requires : goal.lay-requires
lay-requires c =
    let r = sun_ready _ _ _ _ _ _ _ _ _ _ (sym c.in_ok-judge.ensures) in record {
      accepted_tree = r.tree_stands refl;
      points_len_bound = omega (arith, r.traceable.scene_fits.points, r.traceable.scene_fits.triangles);
      triangle_limit_in_bounds = omega arith;
    }

pub pass-requires : goal.pass-requires
pass-requires c = record {
  sun_ready = sun_ready _ _ _ _ _ _ _ _ _ _ (sym c.in_ok-judge.ensures);
  through = λ e. c.lay.ensures;
}

pub returns : goal.returns
returns c = passed _ _ _ _ _ _ _ _ _ _ c.in_ok-judge.ensures c.pass.ensures c.pass.auto.distances c.pass.auto.places
