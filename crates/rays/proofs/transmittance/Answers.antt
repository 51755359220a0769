-- `rays::transmittance` meets its contract: the rows that passed show that the lists fit each other and the scratch lists are long enough, and the
-- scan answers; a refused call answers its number and leaves the scratch lists alone.
use mathlib.Core.Path.{refl, sym, ◌∙◌}
use Rattle.names.specs.Scene.{scene_of}
use Rattle.names.specs.Refusals.{unless_refused, kept}
use Rattle.rays.proofs.Judged.{judged, ready_of}
use Rattle.rays.proofs.transmittance.Goals as goal

pub transmittance-passed-requires-clause-sound : goal.transmittance-passed-requires-clause-sound
transmittance-passed-requires-clause-sound c = (ready_of (scene_of c.args.points.now c.args.uses.now c.args.kinds.now c.args.numbers.now) c.args.ray _ _ c.wrong_scene-scene.ensures c.args.distances.now c.args.places.now _ c.short_hits.ensures c.scene_refusal-refusal.ensures c.if-refusal-eq0.true).scene_fits

pub transmittance-passed-requires-clause-hits_fit : goal.transmittance-passed-requires-clause-hits_fit
transmittance-passed-requires-clause-hits_fit c = (ready_of (scene_of c.args.points.now c.args.uses.now c.args.kinds.now c.args.numbers.now) c.args.ray _ _ c.wrong_scene-scene.ensures c.args.distances.now c.args.places.now _ c.short_hits.ensures c.scene_refusal-refusal.ensures c.if-refusal-eq0.true).hits_fit

pub returns-then-refusal-eq0 : goal.returns-then-refusal-eq0
unfolding unless_refused
returns-then-refusal-eq0 c =
    record {
      answer = sym c.if-refusal-eq0.true ∙ judged (scene_of c.args.points.now c.args.uses.now c.args.kinds.now c.args.numbers.now) c.args.ray _ _ c.wrong_scene-scene.ensures c.args.distances.now c.args.places.now _ c.short_hits.ensures c.scene_refusal-refusal.ensures;
      transmittance = c.transmittance-passed.ensures;
      distances_kept = λ n. absurd (n refl);
      places_kept = λ n. absurd (n refl);
      distances_long_is = c.transmittance-passed.auto.distances;
      places_long_lem = c.transmittance-passed.auto.places;
    }

pub returns : goal.returns
returns c =
    record {
      answer = judged (scene_of c.args.points.now c.args.uses.now c.args.kinds.now c.args.numbers.now) c.args.ray _ _ c.wrong_scene-scene.ensures c.args.distances.now c.args.places.now _ c.short_hits.ensures c.scene_refusal-refusal.ensures;
      transmittance = kept c.scene_refusal-refusal.result _ _ c.if-refusal-eq0.false;
      distances_kept = λ n. refl;
      places_kept = λ n. refl;
      distances_long_is = refl;
      places_long_lem = refl;
    }
