-- The public calls over rays. Each tests rows in order, the first that holds is the refusal, and a refusal answers its number with every other number
-- zero. "Where an answer is an enum, a definition gives this paper's number and values for each of the enum's cases": `values_of_met` and `values_of_found`.
use Rattle.std.specs.Prelude.{◌≡◌, Option, None, Some, Bool, true, false, cond, ◌||◌, List, [], ◌∷◌, ℕ, length, Float}
use Rattle.names.specs.Bits.{zero32}
use Rattle.names.specs.Refusals.{Row, row, first_of, unless_refused}
use Rattle.names.specs.Scene.{Scene, tree_scene}
use Rattle.vectors.specs.declared.Ray.{Ray}
use Rattle.vectors.specs.declared.Triangle.{Triangle}
use Rattle.limits.specs.Limits.{wrong_scene, short_hits, bad_triangle, scene_rows, bad_ray}
use Rattle.tree.specs.Trees.{bad_tree}
use Rattle.triangle.specs.Meet.{meet_of}
use Rattle.triangle.specs.declared.Hit.{Hit}
use Rattle.scan.specs.Nearest.{nearest_of}
use Rattle.scan.specs.Transmittance.{transmittance_of}
use Rattle.scan.specs.declared.PlacedHit.{PlacedHit}
use Rattle.rays.specs.declared.Met.{Met}
use Rattle.rays.specs.declared.Found.{Found}
use Rattle.rays.specs.declared.Transmitted.{Transmitted}

-- ---- what an enum's case says

-- a refusal's number, 1 for a hit, its place, its distance, u and v, and 1 where the front was met. A hit at place 0 and distance 0 is told from a miss by
-- the second.
pub record Values : Type 0 where
  pub number : ℕ
  pub hit : ℕ
  pub place : ℕ
  pub t : Float
  pub u : Float
  pub v : Float
  pub front : ℕ

abbrev pub refused_values : ℕ → Values
refused_values k = record { number = k; hit = 0; place = 0; t = zero32; u = zero32; v = zero32; front = 0 }

abbrev pub miss_values : Values
miss_values = refused_values 0

abbrev pub hit_values : ℕ → Float → Float → Float → Bool → Values
hit_values i a b c side = record { number = 0; hit = 1; place = i; t = a; u = b; v = c; front = cond side 1 0 }

unfoldable pub values_of_met : Met → Values
values_of_met (Met.Refused k) = refused_values k
values_of_met Met.Miss = miss_values
values_of_met (Met.Hit t u v front) = hit_values 0 t u v front

unfoldable pub values_of_found : Found → Values
values_of_found (Found.Refused k) = refused_values k
values_of_found Found.Nothing = miss_values
values_of_found (Found.Hit i t u v front) = hit_values i t u v front

-- ---- the test of one triangle

abbrev pub meet_rows : Ray → Triangle → List Row
meet_rows ray triangle = row 5 (bad_triangle triangle) ∷ row 8 (bad_ray ray) ∷ []

unfoldable pub meet_refusal : Ray → Triangle → ℕ
meet_refusal ray triangle = first_of (meet_rows ray triangle)

-- what the test answers, as an answer of the call and as values
unfoldable pub met_case : Option Hit → Met
met_case None = Met.Miss
met_case (Some h) = Met.Hit h.t h.u h.v h.front

unfoldable pub values_of_test : Option Hit → Values
values_of_test None = miss_values
values_of_test (Some h) = hit_values 0 h.t h.u h.v h.front

unfoldable pub met_of : Ray → Triangle → Met
met_of ray triangle =
    unless_refused (meet_refusal ray triangle) (met_case (meet_of ray triangle)) (Met.Refused (meet_refusal ray triangle))

unfoldable pub meet_values : Ray → Triangle → Values
meet_values ray triangle =
    unless_refused (meet_refusal ray triangle) (values_of_test (meet_of ray triangle)) (refused_values (meet_refusal ray triangle))

pub record MeetAnswered (ray : Ray) (triangle : Triangle) (r : Met) : Type 0 where
  pub answer : r ≡ met_of ray triangle
  pub values : values_of_met r ≡ meet_values ray triangle

-- ---- a scene's rows

abbrev pub wrong_scene_lists : Scene → Bool
wrong_scene_lists scene = wrong_scene scene.points scene.uses scene.kinds scene.numbers

-- where `wrong` says whether a length is, and `solid` whether for the engine of solid walls
abbrev pub scan_rows : Bool → Bool → Scene → Ray → List Row
scan_rows solid wrong scene ray = row 3 wrong ∷ scene_rows solid scene (row 16 (bad_tree scene) ∷ row 8 (bad_ray ray) ∷ [])

-- ---- the nearest hit

unfoldable pub nearest_refusal : Scene → Ray → ℕ
nearest_refusal scene ray = first_of (scan_rows false (wrong_scene_lists scene) scene ray)

unfoldable pub found_case : Option PlacedHit → Found
found_case None = Found.Nothing
found_case (Some best) = Found.Hit best.place best.hit.t best.hit.u best.hit.v best.hit.front

unfoldable pub scan_values : Option PlacedHit → Values
scan_values None = miss_values
scan_values (Some best) = hit_values best.place best.hit.t best.hit.u best.hit.v best.hit.front

unfoldable pub found_of : Scene → Ray → Found
found_of scene ray =
    unless_refused (nearest_refusal scene ray) (found_case (nearest_of scene ray)) (Found.Refused (nearest_refusal scene ray))

unfoldable pub nearest_values : Scene → Ray → Values
nearest_values scene ray =
    unless_refused (nearest_refusal scene ray) (scan_values (nearest_of scene ray)) (refused_values (nearest_refusal scene ray))

pub record NearestAnswered (scene : Scene) (ray : Ray) (r : Found) : Type 0 where
  pub answer : r ≡ found_of scene ray
  pub values : values_of_found r ≡ nearest_values scene ray

-- ---- how much light passes

-- a list of the scene has the wrong length, or hit scratch is shorter than the triangle count
unfoldable pub wrong_scratch : Scene → ℕ → ℕ → Bool
wrong_scratch scene distances places =
    wrong_scene_lists scene || short_hits false distances places (length scene.uses)

unfoldable pub transmittance_refusal : Scene → Ray → List Float → List ℕ → ℕ
transmittance_refusal scene ray distances places =
    first_of (scan_rows false (wrong_scratch scene (length distances) (length places)) scene ray)

-- hit scratch keeps its length always, and what it held on a refusal; what it holds otherwise is open
pub record TransmittanceAnswered (scene : Scene) (ray : Ray) (distances : List Float) (places : List ℕ) (r : Transmitted) (distances' : List Float)
    (places' : List ℕ) : Type 0 where
  pub answer : r.refusal ≡ transmittance_refusal scene ray distances places
  pub transmittance : r.transmittance ≡ unless_refused r.refusal (transmittance_of scene ray) zero32
  pub distances_kept : (r.refusal ≡ 0 → ⊥) → distances' ≡ distances
  pub places_kept : (r.refusal ≡ 0 → ⊥) → places' ≡ places
  pub distances_long_is : length distances' ≡ length distances
  pub places_long_lem : length places' ≡ length places

-- ---- the same between solid walls: "a second engine that stops a transmittance ray at its first hit and needs no hit scratch"

unfoldable pub solid_transmittance_refusal : Scene → Ray → ℕ
solid_transmittance_refusal scene ray = first_of (scan_rows true (wrong_scene_lists scene) scene ray)

-- "On scenes with every material of kind 0 it equals the sorted product"
pub record SolidTransmittanceAnswered (scene : Scene) (ray : Ray) (r : Transmitted) : Type 0 where
  pub answer : r.refusal ≡ solid_transmittance_refusal scene ray
  pub transmittance : r.transmittance ≡ unless_refused r.refusal (transmittance_of scene ray) zero32

-- ---- the same of a scene that comes with a box tree: "For any accepted tree, nearest hit and transmittance equal the plain scan over the triangles whose own
-- padded box is not passed over, ties by place as before"

abbrev pub TreeNearestAnswered : List Float → List ℕ → List ℕ → List Float → List Float → List ℕ → List ℕ → Ray → Found → Type 0
TreeNearestAnswered points uses kinds numbers boxes nodes order = NearestAnswered (tree_scene points uses kinds numbers boxes nodes order)

abbrev pub TreeTransmittanceAnswered : List Float → List ℕ → List ℕ → List Float → List Float → List ℕ → List ℕ → Ray → List Float → List ℕ → Transmitted
    → List Float → List ℕ → Type 0
TreeTransmittanceAnswered points uses kinds numbers boxes nodes order = TransmittanceAnswered (tree_scene points uses kinds numbers boxes nodes order)
