-- What a bake is handed, and when it is refused: rows 1 to 7, 19, 16, 9, 10 and 13 in that order. The mask's unused bits and the lights are tested always, the
-- volume's coefficients exactly when the next voxel lies strictly between 0 and the voxel count, the contents of scratch never. Assumes nothing.
use Rattle.std.specs.Prelude.{Bool, true, false, ◌&&◌, ◌||◌, List, [], ◌∷◌, ℕ, ◌*◌, ◌≤◌, ltb, length, Float}
use Rattle.names.specs.Numbers.{sky_numbers, voxel_cost, primary_rays}
use Rattle.names.specs.Refusals.{Row, row, first_of}
use Rattle.names.specs.Scene.{Scene}
use Rattle.spread.specs.declared.Progress.{Progress}
use Rattle.spread.specs.Spread.{Stage}
use Rattle.grid.specs.declared.Axes.{Axes}
use Rattle.grid.specs.declared.Corners.{Corners}
use Rattle.grid.specs.Grid.{voxels}
use Rattle.limits.specs.declared.Light.{Light}
use Rattle.limits.specs.declared.Ambient.{Ambient}
use Rattle.limits.specs.Limits.{bad_axes, bad_grid, wrong_length, short_hits, wrong_scene, scene_rows, bad_light, bad_ambient, bad_sky, lamp_count, wrong_lamps, bad_lamps, past_count, below_cost, bad_lights, bad_coefficients}
use Rattle.tree.specs.Trees.{bad_tree}
use Rattle.marks.specs.Marks.{marked_below}
use Rattle.words.specs.Words.{word_count, entries_of, unused_set}

-- what stays the same from call to call
pub record BakeInput : Type 0 where
  pub axes : Axes
  pub corners : Corners
  pub scene : Scene
  pub light : Light
  pub ambient : Ambient
  -- a colour for each place of the table of directions
  pub sky : List Float
  -- six numbers a lamp: position, colour
  pub lamps : List Float
  -- the words of the active mask
  pub active : List ℕ
  -- one a voxel
  pub lights : List Float
  -- whether the call is the one for solid walls, which has no hit scratch and refuses any kind but opaque
  pub solid : Bool
  -- how long the two lists of hit scratch are
  pub distances : ℕ
  pub places : ℕ

abbrev pub input_for : Bool → Axes → Corners → Scene → Light → Ambient → List Float → List Float → List ℕ → List Float → ℕ → ℕ → BakeInput
input_for solid axes corners scene light ambient sky lamps active lights distances places =
    record {
      axes = axes;
      corners = corners;
      scene = scene;
      light = light;
      ambient = ambient;
      sky = sky;
      lamps = lamps;
      active = active;
      lights = lights;
      solid = solid;
      distances = distances;
      places = places;
    }

-- of a call with hit scratch, and of one for solid walls
abbrev pub input_of : Axes → Corners → Scene → Light → Ambient → List Float → List Float → List ℕ → List Float → ℕ → ℕ → BakeInput
input_of = input_for false

abbrev pub solid_input : Axes → Corners → Scene → Light → Ambient → List Float → List Float → List ℕ → List Float → BakeInput
solid_input axes corners scene light ambient sky lamps active lights = input_for true axes corners scene light ambient sky lamps active lights 0 0

-- the same as b, but for solid walls
abbrev pub solid_of : BakeInput → BakeInput
solid_of b = solid_input b.axes b.corners b.scene b.light b.ambient b.sky b.lamps b.active b.lights

-- the numbers of a voxel in volume and scratch: four coefficients, each a colour and a fourth place
abbrev pub voxel_numbers : ℕ
voxel_numbers = 16

-- 3: a lent list of the wrong length, by the lengths: of n voxels and t triangles
unfoldable pub wrong_lengths : Bool → ℕ → ℕ → ℕ → ℕ → ℕ → ℕ → ℕ → ℕ → ℕ → ℕ → Bool
wrong_lengths solid n t sky_length lamps_length active_length lights_length volume_length scratch_length distances_length places_length =
    (wrong_length sky_length sky_numbers || wrong_length active_length (word_count n) || wrong_length lights_length n)
    || (wrong_length volume_length (n * voxel_numbers) || wrong_length scratch_length (n * voxel_numbers))
    || short_hits solid distances_length places_length t
    || wrong_lamps lamps_length

-- 7: bad light, ambient or sky number
unfoldable pub bad_lighting : Light → Ambient → List Float → Bool
bad_lighting light ambient sky = bad_light light || bad_ambient ambient || bad_sky sky

-- "rays so far lies between 64 and W for each mask entry 1 below next", W being what a voxel may cost with these lamps: outside that, of so many marked
abbrev pub rays_off : ℕ → ℕ → ℕ → Bool
rays_off lamps marked rays = ltb rays (marked * primary_rays) || ltb (marked * voxel_cost lamps) rays

-- 9: next above the voxel count n, or rays so far outside what the mask of these entries says
unfoldable pub bad_progress : ℕ → List ℕ → ℕ → Progress → Bool
bad_progress n entries lamps p = past_count p.next n || rays_off lamps (marked_below entries p.next) p.rays

-- next strictly between 0 and the count n
abbrev pub under_way : ℕ → ℕ → Bool
under_way next n = ltb 0 next && ltb next n

unfoldable pub bad_volume : List Float → ℕ → ℕ → Bool
bad_volume volume next n = under_way next n && bad_coefficients volume

-- 13: an unused bit of the mask set; light not finite or beyond ±2^64, coefficient not finite or beyond ±2^96
unfoldable pub bad_contents : List ℕ → List Float → List Float → ℕ → ℕ → Bool
bad_contents active lights volume next n = unused_set active n || bad_lights lights || bad_volume volume next n

module _ (b : BakeInput) where
  abbrev pub voxel_count : ℕ
  voxel_count = voxels b.axes

  -- what the mask says of each voxel
  abbrev pub active_entries : List ℕ
  active_entries = entries_of b.active voxel_count

  abbrev pub triangle_count : ℕ
  triangle_count = length b.scene.uses

  -- "With L lamps a voxel may cost 384+64L rays"
  abbrev pub bake_cost : ℕ
  bake_cost = voxel_cost (lamp_count b.lamps)

  unfoldable pub wrong_bake_lists : Stage Float → Bool
  wrong_bake_lists s =
      wrong_scene b.scene.points b.scene.uses b.scene.kinds b.scene.numbers
      || wrong_lengths b.solid voxel_count triangle_count (length b.sky) (length b.lamps) (length b.active) (length b.lights) (length s.volume) (length s.scratch)
      b.distances b.places

  -- a call with this allowance, at this stage
  unfoldable pub bake_rows : Stage Float → ℕ → List Row
  bake_rows s allowance =
      row 1 (bad_axes b.axes)
      ∷ row 2 (bad_grid b.corners b.axes)
      ∷ row 3 (wrong_bake_lists s)
      ∷ scene_rows b.solid b.scene
      (row 7 (bad_lighting b.light b.ambient b.sky)
      ∷ row 19 (bad_lamps b.lamps)
      ∷ row 16 (bad_tree b.scene)
      ∷ row 9 (bad_progress voxel_count active_entries (lamp_count b.lamps) s.progress)
      ∷ row 10 (below_cost (lamp_count b.lamps) allowance)
      ∷ row 13 (bad_contents b.active b.lights s.volume s.progress.next voxel_count)
      ∷ [])

  unfoldable pub bake_refusal : Stage Float → ℕ → ℕ
  bake_refusal s allowance = first_of (bake_rows s allowance)

-- ---- what row 9 asks of a progress, which `progress_row` of IntakeLaws shows: next at most the count, and its rays "between 64 and W for each mask entry 1
-- below next"
pub record GoodProgress (b : BakeInput) (p : Progress) : Type 0 where
  pub within : p.next ≤ voxel_count b
  pub least : marked_below (active_entries b) p.next * primary_rays ≤ p.rays
  pub most : p.rays ≤ marked_below (active_entries b) p.next * bake_cost b
