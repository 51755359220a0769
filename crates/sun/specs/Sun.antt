-- The sun pass. "Inactive voxels get 1.0. Active: from centre + light·(3·voxel diagonal), distances 1e-4 to infinity. Then blur: sum in z,y,x order over
-- the in-grid 3×3×3, divide by the count, square. No active voxel: all 1.0, no blur. Rays reported: the active count." The light is the direction
-- normalised. The figures before the blur are a definition of their own, which the light's scratch list holds afterwards; where no voxel is active
-- that list stays as it was.
use Rattle.std.specs.Prelude.{◌≡◌, Bool, true, false, cond, ◌||◌, List, [], ◌∷◌, ℕ, eqb, length, Result, Ok, Err, Float}
use Rattle.std.specs.Float.Ieee as Ieee
use Rattle.std.specs.Float.{binary32}
use Rattle.names.specs.Bits.{one32}
use Rattle.names.specs.Numbers.{sun_shortest, sun_diagonals}
use Rattle.names.specs.declared.refusal.Refusal.{Refusal}
use Rattle.names.specs.Answers.{number_of}
use Rattle.names.specs.Refusals.{Row, row, first_of, unless_refused}
use Rattle.names.specs.Scene.{Scene, tree_scene, Sound, HitsFit}
use Rattle.lists.specs.Fold.{tab}
use Rattle.vectors.specs.Vectors.{normal_v}
use Rattle.vectors.specs.Rays.{ray_from}
use Rattle.vectors.specs.declared.Vec3.{Vec3}
use Rattle.vectors.specs.declared.Ray.{Ray}
use Rattle.grid.specs.Grid.{voxels, x_of, y_of, z_of, edges_of, centre_from, diagonal_of, AxesWithin}
use Rattle.grid.specs.declared.Axes.{Axes}
use Rattle.grid.specs.declared.Corners.{Corners}
use Rattle.limits.specs.Limits.{bad_axes, bad_grid, wrong_scene, wrong_length, short_hits, scene_rows, bad_direction}
use Rattle.tree.specs.Trees.{bad_tree}
use Rattle.means.specs.Box.{light_blur_of}
use Rattle.marks.specs.Marks.{is_marked, marked_count}
use Rattle.words.specs.Words.{word_count, entries_of, unused_set}
use Rattle.scan.specs.Transmittance.{transmittance_of}
use Rattle.sun.specs.declared.Sunned.{Sunned}

-- ---- before the blur

-- "3·voxel diagonal", as the Rust multiplies it
abbrev pub ahead_of : Vec3 → Float
ahead_of edges = Ieee.mul binary32 (diagonal_of edges) sun_diagonals

-- the ray from a voxel's centre along l
abbrev pub sun_ray : Vec3 → Float → Vec3 → Ray
sun_ray l ahead centre = ray_from centre l ahead sun_shortest

-- what voxel i sees of the sun, from the grid's lower corner, its edges, the light's direction and the way ahead
unfoldable pub figure_of : Axes → Vec3 → Vec3 → Vec3 → Float → Scene → List ℕ → ℕ → Float
figure_of axes low edges l ahead scene active i =
    cond (is_marked active i)
    (transmittance_of scene (sun_ray l ahead (centre_from low edges (x_of axes i) (y_of axes i) (z_of axes i))))
    one32

-- of voxel i, from the call's arguments
abbrev pub sun_at : Axes → Corners → Scene → Vec3 → List ℕ → ℕ → Float
sun_at axes corners scene direction active i =
    figure_of axes corners.min (edges_of corners axes) (normal_v direction) (ahead_of (edges_of corners axes)) scene active i

unfoldable pub sun_before : Axes → Corners → Scene → Vec3 → List ℕ → List Float
sun_before axes corners scene direction active = tab (sun_at axes corners scene direction active) (voxels axes) 0

-- ---- after it

abbrev pub none_active : List ℕ → Bool
none_active active = eqb (marked_count active) 0

-- 1.0 for each voxel
abbrev pub all_ones : Axes → List Float
all_ones axes = tab (λ (i : ℕ). one32) (voxels axes) 0

unfoldable pub sun_light : Axes → Corners → Scene → Vec3 → List ℕ → List Float
sun_light axes corners scene direction active =
    cond (none_active active) (all_ones axes)
    (light_blur_of (sun_before axes corners scene direction active) axes.width axes.height axes.depth)

-- what its scratch list holds, from what it held
unfoldable pub sun_scratch : Axes → Corners → Scene → Vec3 → List ℕ → List Float → List Float
sun_scratch axes corners scene direction active scratch =
    cond (none_active active) scratch (sun_before axes corners scene direction active)

-- ---- the call

-- `solid` says whether the call is the one for solid walls, which has no hit scratch and refuses any kind but opaque

-- a list of the scene, the mask, the light or its scratch has the wrong length, or hit scratch is lent and too short
unfoldable pub wrong_sun : Bool → ℕ → Scene → ℕ → ℕ → ℕ → ℕ → ℕ → Bool
wrong_sun solid n scene active_length light_length scratch_length distances_length places_length =
    wrong_scene scene.points scene.uses scene.kinds scene.numbers
    || wrong_length active_length (word_count n)
    || wrong_length light_length n
    || wrong_length scratch_length n
    || short_hits solid distances_length places_length (length scene.uses)

-- The mask is lent as words; what the pass sees of it, and what the definitions above take, is their entries.
-- Of the light, its scratch and the two lists of hits only the lengths are asked: what they hold is never tested.
abbrev pub sun_rows : Bool → Axes → Corners → Scene → Vec3 → List ℕ → ℕ → ℕ → ℕ → ℕ → List Row
sun_rows solid axes corners scene direction active light_length scratch_length distances_length places_length =
    row 1 (bad_axes axes)
    ∷ row 2 (bad_grid corners axes)
    ∷ row 3 (wrong_sun solid (voxels axes) scene (length active) light_length scratch_length distances_length places_length)
    ∷ scene_rows solid scene (row 7 (bad_direction direction) ∷ row 16 (bad_tree scene) ∷ row 13 (unused_set active (voxels axes)) ∷ [])

unfoldable pub sun_refusal : Bool → Axes → Corners → Scene → Vec3 → List ℕ → ℕ → ℕ → ℕ → ℕ → ℕ
sun_refusal solid axes corners scene direction active light_length scratch_length distances_length places_length =
    first_of (sun_rows solid axes corners scene direction active light_length scratch_length distances_length places_length)

-- the answer as C is told it: no refusal and the rays, or the refusal's number and none
abbrev pub sunned_of : Result ℕ Refusal → Sunned
sunned_of (Ok rays) = record { refusal = 0; rays = rays }
sunned_of (Err r) = record { refusal = number_of r; rays = 0 }

-- what the trace of a voxel asks
pub record Traceable (axes : Axes) (scene : Scene) (distances_length places_length : ℕ) : Type 0 where
  pub axes_fit : AxesWithin axes
  pub scene_fits : Sound scene
  pub hits_fit : HitsFit scene distances_length places_length

-- the lists of hits keep their lengths always, and what they held where no ray is traced; what they hold otherwise is open
pub record SunAnswered (solid : Bool) (axes : Axes) (corners : Corners) (scene : Scene) (direction : Vec3) (active : List ℕ) (light scratch distances : List Float)
    (places : List ℕ) (r : Sunned) (light' scratch' distances' : List Float) (places' : List ℕ) : Type 0 where
  pub answer : r.refusal ≡ sun_refusal solid axes corners scene direction active (length light) (length scratch) (length distances) (length places)
  pub rays : r.rays ≡ unless_refused r.refusal (marked_count (entries_of active (voxels axes))) 0
  pub light_after : light' ≡ unless_refused r.refusal (sun_light axes corners scene direction (entries_of active (voxels axes))) light
  pub scratch_after : scratch' ≡ unless_refused r.refusal (sun_scratch axes corners scene direction (entries_of active (voxels axes)) scratch) scratch
  pub distances_kept : r.rays ≡ 0 → distances' ≡ distances
  pub places_kept : r.rays ≡ 0 → places' ≡ places
  pub distances_long_is : length distances' ≡ length distances
  pub places_long_lem : length places' ≡ length places

-- the same between solid walls, where no lists of hits are lent
abbrev pub SolidSunAnswered : Axes → Corners → Scene → Vec3 → List ℕ → List Float → List Float → Sunned → List Float → List Float → Type 0
SolidSunAnswered axes corners scene direction active light scratch r light' scratch' =
    SunAnswered true axes corners scene direction active light scratch [] [] r light' scratch' [] []

-- the same of a scene that comes with a box tree
abbrev pub TreeSunAnswered : Axes → Corners → List Float → List ℕ → List ℕ → List Float → List Float → List ℕ → List ℕ → Vec3 → List ℕ → List Float → List Float → List Float → List ℕ
    → Sunned → List Float → List Float → List Float → List ℕ → Type 0
TreeSunAnswered axes corners points uses kinds numbers boxes nodes order = SunAnswered false axes corners (tree_scene points uses kinds numbers boxes nodes order)

-- what a pass that is not refused counts and leaves, of a mask of these entries
pub record SunPassed (axes : Axes) (corners : Corners) (scene : Scene) (direction : Vec3) (entries : List ℕ) (scratch distances : List Float) (places : List ℕ) (rays : ℕ)
    (light' scratch' distances' : List Float) (places' : List ℕ) : Type 0 where
  pub rays_counted : rays ≡ marked_count entries
  pub light_after : light' ≡ sun_light axes corners scene direction entries
  pub scratch_after : scratch' ≡ sun_scratch axes corners scene direction entries scratch
  pub distances_kept : rays ≡ 0 → distances' ≡ distances
  pub places_kept : rays ≡ 0 → places' ≡ places
