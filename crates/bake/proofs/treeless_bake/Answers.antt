-- A refusal returns at once; an accepted call is what follows, between solid walls as elsewhere.
use Rattle.bake.proofs.Parts.{total_fits, refused, accepts, answers, fits_with_hits, accepts_without}
use Rattle.bake.proofs.treeless_bake.Goals as goal

pub returns-in_err-judge : goal.returns-in_err-judge
returns-in_err-judge c = refused _ _ c.from_residual.ensures c.in_err-judge.ensures

pub go_on-reached-requires-clause-fits : goal.go_on-reached-requires-clause-fits
go_on-reached-requires-clause-fits c = fits_with_hits _ _ _ (accepts c.in_ok-judge.ensures)

pub advanced-requires : goal.advanced-requires
advanced-requires c = total_fits _ _ _ c.in_ok-judge.ensures (accepts_without _ _ _ c.go_on-reached.ensures)

pub returns : goal.returns
returns c =
    rw c.advanced.ensures
    (answers c.in_ok-judge.ensures (accepts_without _ _ _ c.go_on-reached.ensures) c.go_on-reached.auto.distances c.go_on-reached.auto.places)
