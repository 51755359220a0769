-- Length first, then the judge; then the counts are taken at the bodies' places.
use native.Mathlib.Omega.{arith}
use mathlib.Core.Path.{refl}
use borrow.Author.Tests.{lt-ltb, le-ltb}
use Rattle.names.specs.Refusals.{first_of}
use Rattle.volume.specs.Volume.{figures_refusal}
use Rattle.volume.proofs.Calls.{handed, refused, faultless, axes_fit, entry_room, room_light, room_active, room_occupied, figures_whole, figures_refused, figures_given}
use Rattle.volume.proofs.file_figures.Goals as goal

pub returns-then-bytes-gt-FIGURES_LIMIT : goal.returns-then-bytes-gt-FIGURES_LIMIT
unfolding figures_refusal first_of
returns-then-bytes-gt-FIGURES_LIMIT c =
    figures_refused _ 14 (rw (lt-ltb _ _ c.if-bytes-gt-FIGURES_LIMIT.true) refl) (λ h. omega arith)

pub returns-in_err-axes : goal.returns-in_err-axes
unfolding figures_refusal first_of
returns-in_err-axes c =
    let r = refused _ _ c.in_err-axes.ensures in
    rw (handed _ _ c.from_residual.ensures, r.1)
    (figures_refused _ 12 (rw (le-ltb _ _ c.if-bytes-gt-FIGURES_LIMIT.false, r.0) refl) (λ h. omega arith))

pub voxel_count-n-requires : goal.voxel_count-n-requires
voxel_count-n-requires c = axes_fit _ _ c.in_ok-axes.ensures

pub offset_at-requires : goal.offset_at-requires
offset_at-requires c = (entry_room _ _ c.in_ok-axes.ensures, omega arith)

pub count_ones-requires : goal.count_ones-requires
count_ones-requires c = room_occupied _ _ c.in_ok-axes.ensures _ c.voxel_count-n.ensures _ c.offset_at.ensures

pub offset_at-requires-2 : goal.offset_at-requires-2
offset_at-requires-2 c = let room = entry_room _ _ c.in_ok-axes.ensures in (omega arith, omega arith)

pub count_ones-requires-2 : goal.count_ones-requires-2
count_ones-requires-2 c = room_active _ _ c.in_ok-axes.ensures _ c.voxel_count-n.ensures _ c.offset_at-2.ensures

pub offset_at-requires-3 : goal.offset_at-requires-3
offset_at-requires-3 c = let room = entry_room _ _ c.in_ok-axes.ensures in (omega arith, omega arith)

pub count_zeros-requires : goal.count_zeros-requires
count_zeros-requires c = room_light _ _ c.in_ok-axes.ensures _ c.voxel_count-n.ensures _ c.offset_at-3.ensures

pub returns : goal.returns
unfolding figures_refusal first_of
returns c =
    figures_given _ _ (rw (le-ltb _ _ c.if-bytes-gt-FIGURES_LIMIT.false, faultless _ _ c.in_ok-axes.ensures) refl)
    (figures_whole _ _ c.in_ok-axes.ensures _ c.voxel_count-n.ensures _ _ _ _ _ _ c.offset_at-3.ensures c.offset_at-2.ensures c.offset_at.ensures c.count_zeros.ensures c.count_ones-2.ensures c.count_ones.ensures)
