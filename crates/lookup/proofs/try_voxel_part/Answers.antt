-- `lookup::try_voxel_part` meets its contract: where nothing is refused the sixteen numbers lie within either list, and else there is no part.
use Rattle.std.proofs.Common.{◌≡◌, cond, sym, ◌∙◌, arith}
use Rattle.std.proofs.lemmas.Result.{err_from_is_err_and}
use Rattle.names.specs.AnswersLaws.{number_nonzero}
use Rattle.lookup.specs.LookupLaws.{granted, granted_end}
use Rattle.lookup.proofs.Answers.{shown, hidden, part_within}
use Rattle.lookup.proofs.try_voxel_part.Goals as goal
use Rattle.lookup.proofs.try_voxel_part.Goals.{Joined-unblurred, then-unblurred, else-unblurred}

pub returns-in_err-voxel_refusal-clause-lent : goal.returns-in_err-voxel_refusal-clause-lent
returns-in_err-voxel_refusal-clause-lent c =
    let p = err_from_is_err_and c.from_residual.result c.from_residual.ensures.1 in
    rw p.1 (record { part = hidden _ _ _ _ _ (λ e. number_nonzero _ (c.in_err-voxel_refusal.ensures.answer ∙ e)) })

chosen : (c : Joined-unblurred) → cond c.args.unblurred c.args.scratch.now c.args.volume.now ≡ c.if-unblurred.list.now
chosen c = elim c.if-unblurred.branch [ then-unblurred w ↦ rw (w.if-unblurred.true, w.list-is) | else-unblurred w ↦ rw (w.if-unblurred.false, w.list-is) ]

pub overflow_mul-at : goal.overflow_mul-at
overflow_mul-at c = omega (arith, granted_end _ _ _ _ (granted _ _ _ _ c.args.unblurred (sym c.in_ok-voxel_refusal.ensures.answer)))

pub overflow_add-result : goal.overflow_add-result
overflow_add-result c = omega (arith, granted_end _ _ _ _ (granted _ _ _ _ c.args.unblurred (sym c.in_ok-voxel_refusal.ensures.answer)))

pub offset_bounds-list-at : goal.offset_bounds-list-at
offset_bounds-list-at c = omega (arith, granted_end _ _ _ _ (granted _ _ _ _ c.args.unblurred (sym c.in_ok-voxel_refusal.ensures.answer)))

pub slice_bounds-result-end : goal.slice_bounds-result-end
slice_bounds-result-end c = part_within _ _ _ _ c.args.unblurred _ (chosen (goal.at.slice_bounds-result-end c).Joined-unblurred) (sym c.in_ok-voxel_refusal.ensures.answer)

pub returns-clause-lent : goal.returns-clause-lent
returns-clause-lent c = record { part = shown _ _ _ _ _ _ c.in_ok-voxel_refusal.ensures.answer (chosen (goal.at.returns-clause-lent c).Joined-unblurred) }
