-- What the answers of the ray calls mean: which row refuses, each contract leaves one answer, an accepted scene's lists fit each other, and good calls are accepted.
use Rattle.std.specs.Prelude.{◌≡◌, Option, None, Some, Bool, ◌||◌, List, [], ◌∷◌, ℕ, zero, suc, ◌≤◌, eqb, length, Float}
use Rattle.std.proofs.Math.Path.{refl}
use Rattle.std.proofs.Common.{sym, ap, ap₂, ◌∙◌, arith, ne_eqb}
use Rattle.std.proofs.Math.Bool.{true, false, cond, or-false}
use Rattle.names.specs.Refusals.{row, first_of, unless_refused, Numbered, RefusedBy, refused_by}
use Rattle.names.specs.Scene.{Scene, Sound, other_kind, HitsFit}
use Rattle.vectors.specs.declared.Ray.{Ray}
use Rattle.vectors.specs.declared.Triangle.{Triangle}
use Rattle.limits.specs.Limits.{short_hits, too_many, bad_points, bad_materials_for, bad_ray}
use Rattle.limits.specs.LimitsLaws.{either, sound, materials_for, solid_same, long_hits, room}
use Rattle.names.specs.Passed.{passed}
use Rattle.tree.specs.Trees.{bad_tree, TreeStands}
use Rattle.tree.proofs.TreesLaws.{sound_tree}
use Rattle.triangle.specs.Meet.{meet_of}
use Rattle.triangle.specs.declared.Hit.{Hit}
use Rattle.scan.specs.Nearest.{nearest_of}
use Rattle.scan.specs.declared.PlacedHit.{PlacedHit}
use Rattle.rays.specs.declared.Met.{Met}
use Rattle.rays.specs.declared.Found.{Found}
use Rattle.rays.specs.declared.Transmitted.{Transmitted}
use Rattle.rays.specs.Rays.{Values, refused_values, values_of_met, values_of_found, meet_rows, meet_refusal, met_case, values_of_test, met_of, meet_values, MeetAnswered, wrong_scene_lists, scan_rows, nearest_refusal, found_case, scan_values, found_of, nearest_values, NearestAnswered, wrong_scratch, transmittance_refusal, TransmittanceAnswered, solid_transmittance_refusal, SolidTransmittanceAnswered}

-- ---- which row refuses, of each contract: k exactly when row k holds and none before it, 0 exactly when none holds

-- values that a refusal decides bear its number, where the others bear 0
number_of : (k : ℕ) (new : Values) → new.number ≡ 0 → (unless_refused k new (refused_values k)).number ≡ k
unfolding unless_refused
number_of zero new e = e
number_of (suc k) new e = rw (ne_eqb (suc k) 0 (λ z. omega (arith, z))) refl

pub meet_refused_by : (ray : Ray) (triangle : Triangle) (r : Met) → MeetAnswered ray triangle r → RefusedBy (meet_rows ray triangle) (values_of_met r).number
unfolding meet_values meet_refusal values_of_test
meet_refused_by ray triangle r a =
    refused_by (meet_rows ray triangle) _ (omega arith, (omega arith, tt))
    (ap (λ (x : Values). x.number) a.values ∙ number_of (meet_refusal ray triangle) (values_of_test (meet_of ray triangle)) (accepted (meet_of ray triangle)))
  where
    accepted : (m : Option Hit) → (values_of_test m).number ≡ 0
    accepted None = refl
    accepted (Some h) = refl

scene_numbered : (solid wrong : Bool) (scene : Scene) (ray : Ray) → Numbered (scan_rows solid wrong scene ray)
scene_numbered solid wrong scene ray = (omega arith, (omega arith, (omega arith, (omega arith, (omega arith, (omega arith, tt))))))

pub nearest_refused_by : (scene : Scene) (ray : Ray) (r : Found) → NearestAnswered scene ray r
    → RefusedBy (scan_rows false (wrong_scene_lists scene) scene ray) (values_of_found r).number
unfolding nearest_values nearest_refusal scan_values
nearest_refused_by scene ray r a =
    refused_by (scan_rows false (wrong_scene_lists scene) scene ray) _ (scene_numbered false (wrong_scene_lists scene) scene ray)
    (ap (λ (x : Values). x.number) a.values ∙ number_of (nearest_refusal scene ray) (scan_values (nearest_of scene ray)) (accepted (nearest_of scene ray)))
  where
    accepted : (n : Option PlacedHit) → (scan_values n).number ≡ 0
    accepted None = refl
    accepted (Some best) = refl

pub transmittance_refused_by : (scene : Scene) (ray : Ray) (distances : List Float) (places : List ℕ) (r : Transmitted) (distances' : List Float) (places' : List ℕ)
    → TransmittanceAnswered scene ray distances places r distances' places'
    → RefusedBy (scan_rows false (wrong_scratch scene (length distances) (length places)) scene ray) r.refusal
unfolding transmittance_refusal
transmittance_refused_by scene ray distances places r distances' places' a =
    let wrong = wrong_scratch scene (length distances) (length places) in
    refused_by (scan_rows false wrong scene ray) r.refusal (scene_numbered false wrong scene ray) a.answer

-- ---- one answer

pub meet_answered_once : (ray : Ray) (triangle : Triangle) (r s : Met) → MeetAnswered ray triangle r → MeetAnswered ray triangle s → r ≡ s
meet_answered_once ray triangle r s a b = a.answer ∙ sym b.answer

pub nearest_answered_once : (scene : Scene) (ray : Ray) (r s : Found) → NearestAnswered scene ray r → NearestAnswered scene ray s → r ≡ s
nearest_answered_once scene ray r s a b = a.answer ∙ sym b.answer

-- the scratch lists are one on a refusal, and their lengths always
pub record SameTransmitted (r s : Transmitted) (d e : List Float) (p q : List ℕ) : Type 0 where
  pub answer : r ≡ s
  pub distances : (r.refusal ≡ 0 → ⊥) → d ≡ e
  pub places : (r.refusal ≡ 0 → ⊥) → p ≡ q
  pub distances_long_is : length d ≡ length e
  pub places_long_lem : length p ≡ length q

abbrev transmitted : ℕ → Float → Transmitted
transmitted n f = record { refusal = n; transmittance = f }

pub transmittance_answered_once : (scene : Scene) (ray : Ray) (ds : List Float) (ps : List ℕ) (r s : Transmitted) (d e : List Float) (p q : List ℕ)
    → TransmittanceAnswered scene ray ds ps r d p → TransmittanceAnswered scene ray ds ps s e q → SameTransmitted r s d e p q
transmittance_answered_once scene ray ds ps r s d e p q a b =
    let f : r.refusal ≡ s.refusal = a.answer ∙ sym b.answer in
    let g : r.transmittance ≡ s.transmittance = a.transmittance ∙ rw f (sym b.transmittance) in
    record {
      answer = ap₂ transmitted f g;
      distances = λ n. a.distances_kept n ∙ sym (b.distances_kept (λ z. n (f ∙ z)));
      places = λ n. a.places_kept n ∙ sym (b.places_kept (λ z. n (f ∙ z)));
      distances_long_is = a.distances_long_is ∙ sym b.distances_long_is;
      places_long_lem = a.places_long_lem ∙ sym b.places_long_lem;
    }

-- ---- the values of an answer are the paper's

module _ {A : Type 0} (f : A → Values) where
  over : (k : ℕ) (new old : A) → f (unless_refused k new old) ≡ unless_refused k (f new) (f old)
  unfolding unless_refused
  over k new old = by (eqb k 0)
    where
      by : (b : Bool) → f (cond b new old) ≡ cond b (f new) (f old)
      by true = refl
      by false = refl

met_case_values : (m : Option Hit) → values_of_met (met_case m) ≡ values_of_test m
unfolding values_of_met met_case values_of_test
met_case_values None = refl
met_case_values (Some h) = refl

found_case_values : (n : Option PlacedHit) → values_of_found (found_case n) ≡ scan_values n
unfolding values_of_found found_case scan_values
found_case_values None = refl
found_case_values (Some best) = refl

pub meet_answered : (ray : Ray) (triangle : Triangle) (r : Met) → r ≡ met_of ray triangle → MeetAnswered ray triangle r
unfolding met_of meet_values values_of_met
meet_answered ray triangle r e =
    record {
      answer = e;
      values = ap values_of_met e ∙ over values_of_met _ _ _ ∙ rw (met_case_values (meet_of ray triangle)) refl;
    }

pub nearest_answered : (scene : Scene) (ray : Ray) (r : Found) → r ≡ found_of scene ray → NearestAnswered scene ray r
unfolding found_of nearest_values values_of_found
nearest_answered scene ray r e =
    record {
      answer = e;
      values = ap values_of_found e ∙ over values_of_found _ _ _ ∙ rw (found_case_values (nearest_of scene ray)) refl;
    }

-- ---- what an accepted call has

scene_sound : (solid wrong : Bool) (scene : Scene) (ray : Ray) → (wrong ≡ false → wrong_scene_lists scene ≡ false) → first_of (scan_rows solid wrong scene ray) ≡ 0
    → (wrong ≡ false) × Sound scene × (bad_materials_for solid scene.uses scene.kinds scene.numbers ≡ false) × TreeStands scene
scene_sound solid wrong scene ray w e =
    let p = passed (scan_rows solid wrong scene ray) (scene_numbered solid wrong scene ray) e in
    let m = p.1.1.1.0 in
    let fitting = sound scene (w p.0) p.1.0 (materials_for solid scene.uses scene.kinds scene.numbers m) in
    (p.0, fitting, m, sound_tree scene fitting p.1.1.1.1.0)

pub nearest_sound : (scene : Scene) (ray : Ray) → nearest_refusal scene ray ≡ 0 → Sound scene × TreeStands scene
unfolding nearest_refusal
nearest_sound scene ray e = let s = scene_sound false (wrong_scene_lists scene) scene ray (λ w. w) e in (s.1, s.3)

pub record TransmittanceReady (scene : Scene) (distances places : ℕ) : Type 0 where
  pub scene_fits : Sound scene
  pub hits_fit : HitsFit scene distances places
  pub tree_stands : TreeStands scene

pub transmittance_ready : (scene : Scene) (ray : Ray) (distances : List Float) (places : List ℕ) → transmittance_refusal scene ray distances places ≡ 0
    → TransmittanceReady scene (length distances) (length places)
unfolding transmittance_refusal wrong_scratch
transmittance_ready scene ray distances places e =
    let n : ℕ = length scene.uses in
    let wrong = wrong_scratch scene (length distances) (length places) in
    let parts = either (wrong_scene_lists scene) (short_hits false (length distances) (length places) n) in
    let s = scene_sound false wrong scene ray (λ w. (parts.0 w).0) e in
    record { scene_fits = s.1; hits_fit = room false scene (length distances) (length places) (parts.0 s.0).1 s.2; tree_stands = s.3 }

-- ---- solid walls

pub solid_transmittance_refused_by : (scene : Scene) (ray : Ray) (r : Transmitted) → SolidTransmittanceAnswered scene ray r
    → RefusedBy (scan_rows true (wrong_scene_lists scene) scene ray) r.refusal
unfolding solid_transmittance_refusal
solid_transmittance_refused_by scene ray r a =
    refused_by (scan_rows true (wrong_scene_lists scene) scene ray) r.refusal (scene_numbered true (wrong_scene_lists scene) scene ray) a.answer

pub solid_transmittance_answered_once : (scene : Scene) (ray : Ray) (r s : Transmitted) → SolidTransmittanceAnswered scene ray r → SolidTransmittanceAnswered scene ray s
    → r ≡ s
solid_transmittance_answered_once scene ray r s a b =
    let f : r.refusal ≡ s.refusal = a.answer ∙ sym b.answer in
    ap₂ transmitted f (a.transmittance ∙ rw f (sym b.transmittance))

-- an accepted call's lists fit each other, and its rays need no room for hits
pub solid_transmittance_ready : (scene : Scene) (ray : Ray) → solid_transmittance_refusal scene ray ≡ 0 → TransmittanceReady scene 0 0
unfolding solid_transmittance_refusal
solid_transmittance_ready scene ray e =
    let s = scene_sound true (wrong_scene_lists scene) scene ray (λ w. w) e in
    record { scene_fits = s.1; hits_fit = room true scene 0 0 refl s.2; tree_stands = s.3 }

-- where no other kind stands in the list and hit scratch is long enough, both engines have one answer, refusals too
pub transmittance_engines_agree : (scene : Scene) (ray : Ray) (distances : List Float) (places : List ℕ) (r s : Transmitted) (distances' : List Float) (places' : List ℕ)
    → other_kind scene.kinds ≡ false → length scene.uses ≤ length distances → length scene.uses ≤ length places
    → SolidTransmittanceAnswered scene ray r → TransmittanceAnswered scene ray distances places s distances' places' → r ≡ s
unfolding solid_transmittance_refusal transmittance_refusal wrong_scratch
transmittance_engines_agree scene ray distances places r s distances' places' o h k a b =
    let t : ℕ = length scene.uses in
    let long : wrong_scratch scene (length distances) (length places) ≡ wrong_scene_lists scene
    = ap (λ (short : Bool). wrong_scene_lists scene || short) (long_hits false (length distances) (length places) t h k) ∙ or-false (wrong_scene_lists scene) in
    let f : r.refusal ≡ s.refusal =
    a.answer
    ∙ ap₂ (λ (wrong bad : Bool). first_of (row 3 wrong ∷ row 4 (too_many t (length scene.kinds)) ∷ row 5 (bad_points scene.points) ∷ row 6 bad ∷ row 16 (bad_tree scene) ∷ row 8 (bad_ray ray) ∷ []))
    (sym long) (solid_same true scene.uses scene.kinds scene.numbers o)
    ∙ sym b.answer in
    ap₂ transmitted f (a.transmittance ∙ rw f (sym b.transmittance))
