-- The whole file and the lent lengths are judged first; what is read then is the bodies at their places.
use native.Mathlib.Omega.{arith}
use mathlib.Core.Path.{refl, sym, ◌∙◌}
use Rattle.names.specs.Refusals.{first_of}
use Rattle.volume.specs.Volume.{read_refusal}
use Rattle.volume.specs.VolumeLaws.{lists_row, accepted_room}
use Rattle.volume.proofs.Calls.{few, handed, refused, faultless, head_is, accepted, axes_fit, count_is, read_refused, read_given}
use Rattle.volume.proofs.read_volume.Goals as goal

pub returns-in_err-grid : goal.returns-in_err-grid
unfolding read_refusal first_of
returns-in_err-grid c =
    let r = refused _ _ c.in_err-grid.ensures in
    rw (handed _ _ c.from_residual.ensures, r.1) (read_refused _ _ _ _ _ 12 (rw r.0 refl) (λ h. omega arith))

pub voxel_count-n-requires : goal.voxel_count-n-requires
voxel_count-n-requires c = axes_fit _ _ c.in_ok-grid.ensures

pub wrong_lists-requires : goal.wrong_lists-requires
wrong_lists-requires c = few _ _ (axes_fit _ _ c.in_ok-grid.ensures) c.voxel_count-n.ensures

pub returns-then-wrong_lists : goal.returns-then-wrong_lists
unfolding read_refusal first_of
returns-then-wrong_lists c =
    let n = count_is _ _ c.in_ok-grid.ensures _ c.voxel_count-n.ensures in
    read_refused _ _ _ _ _ 3 (rw (faultless _ _ c.in_ok-grid.ensures, ← n, ← c.if-wrong_lists.ensures) refl) (λ h. omega arith)

pub read_bodies-requires : goal.read_bodies-requires
read_bodies-requires c =
    let n = count_is _ _ c.in_ok-grid.ensures _ c.voxel_count-n.ensures in
    let q = lists_row _ _ _ _ _ (sym c.if-wrong_lists.ensures) in
    accepted_room _ (accepted _ _ c.in_ok-grid.ensures) _ _ _ _ _ n (q.0 ∙ n) (rw n at q.1) (rw n at q.2) (rw n at q.3)

pub returns : goal.returns
unfolding read_refusal first_of
returns c =
    let n = count_is _ _ c.in_ok-grid.ensures _ c.voxel_count-n.ensures in
    read_given _ _ _ _ _ _ _ _ _ _ (rw (faultless _ _ c.in_ok-grid.ensures, ← n, ← c.if-wrong_lists.ensures) refl) (head_is _ _ c.in_ok-grid.ensures) c.read_bodies.ensures
