-- Where both trees are accepted the refusal is the same number: row 16 passes both, or a row before it refuses both, and no other row reads the tree.
use Rattle.std.specs.Prelude.{◌≡◌, refl, Bool, true, ◌||◌, List, [], ◌∷◌, ℕ, length, Float}
use Rattle.std.proofs.Common.{sym, ◌∙◌}
use Rattle.std.proofs.Math.Path.{ap}
use Rattle.std.proofs.Math.Bool.{false, cond}
use Rattle.names.specs.Refusals.{row, first_of}
use Rattle.names.specs.Scene.{Scene, tree_scene}
use Rattle.vectors.specs.declared.Vec3.{Vec3}
use Rattle.vectors.specs.declared.Ray.{Ray}
use Rattle.grid.specs.Grid.{voxels}
use Rattle.grid.specs.declared.Axes.{Axes}
use Rattle.grid.specs.declared.Corners.{Corners}
use Rattle.limits.specs.declared.Light.{Light}
use Rattle.limits.specs.declared.Ambient.{Ambient}
use Rattle.limits.specs.Limits.{bad_axes, bad_grid, wrong_scene, too_many, bad_points, bad_materials_for, bad_direction, bad_ray, bad_lamps, lamp_count, below_cost}
use Rattle.limits.specs.LimitsLaws.{either, few_points}
use Rattle.words.specs.Words.{unused_set}
use Rattle.tree.specs.Tree.{AcceptedTree}
use Rattle.tree.specs.Trees.{bad_tree}
use Rattle.tree.proofs.TreesLaws.{tree_row}
use Rattle.spread.specs.Spread.{Stage}
use Rattle.rays.specs.Rays.{wrong_scratch, nearest_refusal, transmittance_refusal}
use Rattle.sun.specs.Sun.{wrong_sun, sun_refusal}
use Rattle.intake.specs.Intake.{BakeInput, input_for, active_entries, wrong_bake_lists, bad_lighting, bad_progress, bad_contents, bake_rows, bake_refusal}

-- where rows 3 and 4 pass, the rest decides
after_four : (c d : Bool) (x y : ℕ) → (c ≡ false → d ≡ false → x ≡ y) → cond c 3 (cond d 4 x) ≡ cond c 3 (cond d 4 y)
after_four true d x y h = refl
after_four false true x y h = refl
after_four false false x y h = h refl refl

first_of_five : (a b c d e : Bool) → a || b || c || d || e ≡ false → a ≡ false
first_of_five a b c d e h = ((either a b).0 ((either (a || b) c).0 ((either (a || b || c) d).0 ((either (a || b || c || d) e).0 h).0).0).0).0

module _ (points : List Float) (uses kinds : List ℕ) (numbers boxes boxes' : List Float) (nodes order nodes' order' : List ℕ)
    (accepted : AcceptedTree points boxes nodes order) (accepted' : AcceptedTree points boxes' nodes' order') where
  abbrev one : Scene
  one = tree_scene points uses kinds numbers boxes nodes order

  abbrev other : Scene
  other = tree_scene points uses kinds numbers boxes' nodes' order'

  -- row 16, once rows 3 and 4 have passed
  row_alike : wrong_scene points uses kinds numbers ≡ false → too_many (length uses) (length kinds) ≡ false → bad_tree one ≡ bad_tree other
  row_alike lists few =
      let within = few_points points uses kinds numbers lists few in
      (tree_row one within).1 (λ b. accepted) ∙ sym ((tree_row other within).1 (λ b. accepted'))

  -- the rows of a ray
  module _ (ray : Ray) where
    rest_alike : wrong_scene points uses kinds numbers ≡ false → too_many (length uses) (length kinds) ≡ false
        → first_of (row 5 (bad_points points) ∷ row 6 (bad_materials_for false uses kinds numbers) ∷ row 16 (bad_tree one) ∷ row 8 (bad_ray ray) ∷ [])
        ≡ first_of (row 5 (bad_points points) ∷ row 6 (bad_materials_for false uses kinds numbers) ∷ row 16 (bad_tree other) ∷ row 8 (bad_ray ray) ∷ [])
    rest_alike lists few =
        ap (λ (t : Bool). first_of (row 5 (bad_points points) ∷ row 6 (bad_materials_for false uses kinds numbers) ∷ row 16 t ∷ row 8 (bad_ray ray) ∷ [])) (row_alike lists few)

    pub nearest_refusals_alike : nearest_refusal one ray ≡ nearest_refusal other ray
    unfolding nearest_refusal first_of
    nearest_refusals_alike = after_four (wrong_scene points uses kinds numbers) (too_many (length uses) (length kinds)) _ _ rest_alike

    pub transmittance_refusals_alike : (distances : List Float) (places : List ℕ) → transmittance_refusal one ray distances places ≡ transmittance_refusal other ray distances places
    unfolding transmittance_refusal first_of wrong_scratch
    transmittance_refusals_alike distances places =
        after_four (wrong_scratch one (length distances) (length places)) (too_many (length uses) (length kinds)) _ _
        (λ lists few. rest_alike ((either (wrong_scene points uses kinds numbers) _).0 lists).0 few)

  -- the sun's rows
  pub sun_refusals_alike : (axes : Axes) (corners : Corners) (direction : Vec3) (active : List ℕ) (light_length scratch_length distances_length places_length : ℕ)
      → sun_refusal false axes corners one direction active light_length scratch_length distances_length places_length
      ≡ sun_refusal false axes corners other direction active light_length scratch_length distances_length places_length
  unfolding sun_refusal first_of wrong_sun
  sun_refusals_alike axes corners direction active light_length scratch_length distances_length places_length =
      ap (λ (n : ℕ). cond (bad_axes axes) 1 (cond (bad_grid corners axes) 2 n))
      (after_four (wrong_sun false (voxels axes) one (length active) light_length scratch_length distances_length places_length) (too_many (length uses) (length kinds)) _ _
      (λ lists few.
      ap
      (λ (t : Bool). first_of
      (row 5 (bad_points points)
      ∷ row 6 (bad_materials_for false uses kinds numbers)
      ∷ row 7 (bad_direction direction)
      ∷ row 16 t
      ∷ row 13 (unused_set active (voxels axes))
      ∷ []))
      (row_alike (first_of_five (wrong_scene points uses kinds numbers) _ _ _ _ lists) few)))

  -- the bake's
  module _ (axes : Axes) (corners : Corners) (light : Light) (ambient : Ambient) (sky lamps : List Float) (active : List ℕ) (lights : List Float) (distances places : ℕ) where
    abbrev input_from : Scene → BakeInput
    input_from scene = input_for false axes corners scene light ambient sky lamps active lights distances places

    pub bake_refusals_alike : (s : Stage Float) (a : ℕ) → bake_refusal (input_from one) s a ≡ bake_refusal (input_from other) s a
    unfolding bake_refusal bake_rows first_of wrong_bake_lists
    bake_refusals_alike s a =
        ap (λ (n : ℕ). cond (bad_axes axes) 1 (cond (bad_grid corners axes) 2 n))
        (after_four (wrong_bake_lists (input_from one) s) (too_many (length uses) (length kinds)) _ _
        (λ lists few.
        ap
        (λ (t : Bool). first_of
        (row 5 (bad_points points)
        ∷ row 6 (bad_materials_for false uses kinds numbers)
        ∷ row 7 (bad_lighting light ambient sky)
        ∷ row 19 (bad_lamps lamps)
        ∷ row 16 t
        ∷ row 9 (bad_progress (voxels axes) (active_entries (input_from one)) (lamp_count lamps) s.progress)
        ∷ row 10 (below_cost (lamp_count lamps) a)
        ∷ row 13 (bad_contents active lights s.volume s.progress.next (voxels axes))
        ∷ []))
        (row_alike ((either (wrong_scene points uses kinds numbers) _).0 lists).0 few)))
