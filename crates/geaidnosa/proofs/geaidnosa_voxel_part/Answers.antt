-- `geaidnosa::geaidnosa_voxel_part` meets its contract: where nothing is refused the index lies in the grid, so 16·index is small; else the start is 0.
use mathlib.Core.Path.{refl, sym, ◌∙◌}
use native.Mathlib.Omega.{arith}
use Rattle.names.specs.AnswersLaws.{number_nonzero}
use Rattle.names.specs.Refusals.{kept, given}
use Rattle.lookup.specs.LookupLaws.{granted, granted_end}
use Rattle.geaidnosa.specs.Exports.{chosen}
use Rattle.geaidnosa.proofs.geaidnosa_voxel_part.Goals as goal

pub overflow_mul-result : goal.overflow_mul-result
overflow_mul-result c = omega (arith, granted_end _ _ _ _ (granted _ _ _ _ (chosen c.args.unblurred) (sym c.in-Ok.ensures.answer)))

pub returns-in-Ok : goal.returns-in-Ok
returns-in-Ok c = record { refusal = c.in-Ok.ensures.answer; start = given 0 _ _ refl }

pub returns-in-Err : goal.returns-in-Err
returns-in-Err c = record { refusal = c.from.ensures ∙ c.in-Err.ensures.answer; start = kept _ _ _ (λ z. number_nonzero _ (sym c.from.ensures ∙ z)) }
