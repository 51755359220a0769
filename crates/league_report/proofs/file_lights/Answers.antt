-- The length first, then the judge, then the lights; then the file is counted.
use native.Mathlib.Omega.{arith}
use mathlib.Core.Path.{refl, sym, ap, ◌∙◌}
use borrow.Author.Tests.{lt-ltb, le-ltb}
use Rattle.names.specs.Refusals.{first_of}
use Rattle.light_figures.specs.LightFigures.{light_figures}
use Rattle.league_report.specs.FileLights.{lights_refusal}
use Rattle.league_report.proofs.Judged.{head_room, entry_room, axes_fit, lights_place, lights_room, lights_fewer, lights_refused, lights_given}
use Rattle.league_report.proofs.file_lights.Goals as goal

pub returns-then-bytes-gt-LENGTH_LIMIT : goal.returns-then-bytes-gt-LENGTH_LIMIT
unfolding lights_refusal first_of
returns-then-bytes-gt-LENGTH_LIMIT c = lights_refused _ 18 (rw (lt-ltb _ _ c.if-bytes-gt-LENGTH_LIMIT.true) refl) (λ h. omega arith)

pub returns-then-is_faulty : goal.returns-then-is_faulty
unfolding lights_refusal first_of
returns-then-is_faulty c =
    lights_refused _ 12 (rw (le-ltb _ _ c.if-bytes-gt-LENGTH_LIMIT.false, ← c.if-is_faulty.ensures) refl) (λ h. omega arith)

pub axes_at-requires : goal.axes_at-requires
axes_at-requires c = head_room _ c.if-is_faulty.ensures

pub voxel_count-n-requires : goal.voxel_count-n-requires
voxel_count-n-requires c = axes_fit _ c.if-is_faulty.ensures _ c.axes_at.ensures

pub offset_at-at-requires : goal.offset_at-at-requires
offset_at-at-requires c = (entry_room _ c.if-is_faulty.ensures, omega arith)

pub any_outside-requires : goal.any_outside-requires
any_outside-requires c = lights_room _ c.if-is_faulty.ensures _ c.axes_at.ensures _ _ c.voxel_count-n.ensures c.offset_at-at.ensures

pub returns-then-any_outside : goal.returns-then-any_outside
unfolding lights_refusal first_of
returns-then-any_outside c =
    let place = lights_place _ c.if-is_faulty.ensures _ c.axes_at.ensures _ _ c.voxel_count-n.ensures c.offset_at-at.ensures in
    lights_refused _ 18 (rw (le-ltb _ _ c.if-bytes-gt-LENGTH_LIMIT.false, ← c.if-is_faulty.ensures, ← place, ← c.if-any_outside.ensures) refl) (λ h. omega arith)

pub counted-requires : goal.counted-requires
counted-requires c = (
  lights_room _ c.if-is_faulty.ensures _ c.axes_at.ensures _ _ c.voxel_count-n.ensures c.offset_at-at.ensures,
  lights_fewer _ c.if-is_faulty.ensures _ c.axes_at.ensures _ _ c.voxel_count-n.ensures c.offset_at-at.ensures,
  sym c.if-any_outside.ensures,
)

pub returns : goal.returns
unfolding lights_refusal first_of
returns c =
    let place = lights_place _ c.if-is_faulty.ensures _ c.axes_at.ensures _ _ c.voxel_count-n.ensures c.offset_at-at.ensures in
    lights_given _ _ (rw (le-ltb _ _ c.if-bytes-gt-LENGTH_LIMIT.false, ← c.if-is_faulty.ensures, ← place, ← c.if-any_outside.ensures) refl)
    (c.counted.ensures ∙ ap light_figures place)
