-- A refusal returns at once; an accepted call is what follows, its tree laid out in rows.
use mathlib.Core.Path.{refl}
use native.Mathlib.Omega.{arith}
use Rattle.bake.proofs.Parts.{total_fits, refused, accepts, answers}
use Rattle.bake.proofs.tree_bake.Goals as goal

pub returns-in_err-judge : goal.returns-in_err-judge
returns-in_err-judge c = refused _ _ c.from_residual.ensures c.in_err-judge.ensures

-- the tree is accepted, and the triangles are no more than the limit
pub lay-requires : goal.lay-requires
lay-requires c =
    let f = accepts c.in_ok-judge.ensures in record {
      accepted_tree = f.tree refl;
      points_len_bound = omega (arith, f.scene.points, f.scene.triangles);
      triangle_limit_in_bounds = omega arith;
    }

pub go_on-reached-requires-clause-fits : goal.go_on-reached-requires-clause-fits
go_on-reached-requires-clause-fits c = accepts c.in_ok-judge.ensures

pub advanced-requires : goal.advanced-requires
advanced-requires c = total_fits _ _ _ c.in_ok-judge.ensures c.go_on-reached.ensures

pub returns : goal.returns
returns c =
    rw c.advanced.ensures (answers c.in_ok-judge.ensures c.go_on-reached.ensures c.go_on-reached.auto.distances c.go_on-reached.auto.places)
