-- `rays::solid_transmittance` meets its contract: the rows that passed show that the lists fit each other and that hits take no room, and the scan
-- answers; a refused call answers its number.
use mathlib.Core.Path.{sym, ◌∙◌}
use Rattle.names.specs.Scene.{scene_of}
use Rattle.names.specs.Refusals.{unless_refused, kept}
use Rattle.rays.proofs.Judged.{solid_judged, solid_ready_of}
use Rattle.rays.proofs.solid_transmittance.Goals as goal

pub transmittance-passed-requires-clause-sound : goal.transmittance-passed-requires-clause-sound
transmittance-passed-requires-clause-sound c = (solid_ready_of (scene_of c.args.points.now c.args.uses.now c.args.kinds.now c.args.numbers.now) c.args.ray _ _ c.wrong_scene-wrong.ensures c.scene_refusal-refusal.ensures c.if-refusal-eq0.true).scene_fits

pub transmittance-passed-requires-clause-hits_fit : goal.transmittance-passed-requires-clause-hits_fit
transmittance-passed-requires-clause-hits_fit c = (solid_ready_of (scene_of c.args.points.now c.args.uses.now c.args.kinds.now c.args.numbers.now) c.args.ray _ _ c.wrong_scene-wrong.ensures c.scene_refusal-refusal.ensures c.if-refusal-eq0.true).hits_fit

pub returns-then-refusal-eq0 : goal.returns-then-refusal-eq0
unfolding unless_refused
returns-then-refusal-eq0 c =
    record { answer = sym c.if-refusal-eq0.true ∙ solid_judged (scene_of c.args.points.now c.args.uses.now c.args.kinds.now c.args.numbers.now) c.args.ray _ _ c.wrong_scene-wrong.ensures c.scene_refusal-refusal.ensures; transmittance = c.transmittance-passed.ensures }

pub returns : goal.returns
returns c =
    record { answer = solid_judged (scene_of c.args.points.now c.args.uses.now c.args.kinds.now c.args.numbers.now) c.args.ray _ _ c.wrong_scene-wrong.ensures c.scene_refusal-refusal.ensures; transmittance = kept c.scene_refusal-refusal.result _ _ c.if-refusal-eq0.false }
