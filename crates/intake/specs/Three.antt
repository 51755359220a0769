-- A good input: a grid of 3×1×1 voxels, all active, no triangles, a black sky. It is accepted at an allowance of 384 rays, and refused 10 at 383;
-- with one lamp accepted at 448, and refused 10 at 447. Its mask is the word 7: with a bit of another voxel set, 15, it is refused 13, and with a word
-- more or none 3. A progress whose rays do not fit what the mask says is refused 9, a box tree that is not accepted 16.
use Rattle.std.specs.Prelude.{◌≡◌, refl, Bool, false, List, [], ◌∷◌, ◌++◌, map, ℕ, get_or, replicate, Float}
use Rattle.std.proofs.Common.{ap}
use Rattle.std.specs.Float.Ieee as Ieee
use Rattle.std.specs.Float.Ieee.{of_bits, of_int}
use Rattle.names.specs.Bits.{lit, zero32, one32, two32, inf32}
use Rattle.names.specs.Refusals.{first_of}
use Rattle.names.specs.Scene.{Scene, scene_of, tree_scene, other_kind}
use Rattle.lists.specs.Any.{any}
use Rattle.lists.specs.Fold.{fold, tab}
use Rattle.spread.specs.Spread.{progress_of, at_zero, Stage, stage}
use Rattle.vectors.specs.Vectors.{vec, dot_v}
use Rattle.vectors.specs.declared.Vec3.{Vec3}
use Rattle.grid.specs.Grid.{edges_of}
use Rattle.lists.specs.Some.{some}
use Rattle.limits.specs.Limits.{within, up_to, outside_v, bad_axes, bad_corners, bad_edges, wrong_share, wrong_scene, too_many, bad_points, bad_kinds, bad_from, bad_uses, bad_materials, bad_direction, bad_light, bad_ambient, bad_sky, lamp_at, bad_lamp, bad_lamps, bad_lights, bad_coefficients}
use Rattle.tree.specs.Trees.{not_accepted}
use Rattle.tree.specs.TreeFigures.{raised_to, box_from, accepted_trees, refused_trees}
use Rattle.words.specs.Words.{entries_of, unused_set}
use Rattle.intake.specs.Intake.{BakeInput, input_of, solid_input, wrong_lengths, wrong_bake_lists, bad_lighting, bad_progress, bad_volume, bad_contents, bake_rows, bake_refusal}

abbrev pub three_of : List ℕ → List Float → BakeInput
three_of active lamps =
    input_of (record { width = 3; height = 1; depth = 1 })
    (record { min = vec zero32 zero32 zero32; max = vec (lit 0x40400000) one32 one32 })
    (scene_of [] [] [] [])
    (record { direction = vec zero32 zero32 one32; colour = vec one32 one32 one32 })
    (record {
      c0 = vec one32 one32 one32;
      c1 = vec zero32 zero32 zero32;
      c2 = vec zero32 zero32 zero32;
      c3 = vec zero32 zero32 zero32;
    })
    (replicate 1728 zero32)
    lamps
    active
    (one32 ∷ one32 ∷ one32 ∷ [])
    0
    0

abbrev pub three_with : List Float → BakeInput
three_with lamps = three_of (7 ∷ []) lamps

abbrev pub three : BakeInput
three = three_with []

-- a white lamp at (1, 1, 1)
abbrev pub one_lamp : List Float
one_lamp = replicate 6 one32

abbrev pub three_lit : BakeInput
three_lit = three_with one_lamp

-- before the first call; what the lists hold is not read
abbrev pub begun : Stage Float
begun = stage at_zero (replicate 48 zero32) (replicate 48 zero32)

pub three_accepted : (bake_refusal three begun 384 ≡ 0) × (bake_refusal three begun 383 ≡ 10)
unfolding bake_refusal bake_rows first_of some within up_to outside_v bad_axes bad_corners bad_edges wrong_share wrong_scene too_many bad_points bad_kinds bad_from bad_uses bad_materials other_kind bad_direction bad_light bad_ambient bad_sky unused_set bad_lights bad_coefficients wrong_lengths wrong_bake_lists bad_lighting bad_lamp bad_lamps lamp_at any bad_progress entries_of tab fold bad_volume bad_contents edges_of dot_v of_bits of_int Ieee.add Ieee.sub Ieee.mul Ieee.div Ieee.neg Ieee.le Ieee.lt Ieee.eq not_accepted
three_accepted = (refl, refl)

-- with a lamp 448 are asked for; and 19 comes before 9 and 10
pub lit_accepted : (bake_refusal three_lit begun 448 ≡ 0) × (bake_refusal three_lit begun 447 ≡ 10) × (bake_refusal (three_with (replicate 54 one32)) begun 0 ≡ 19)
unfolding bake_refusal bake_rows first_of some within up_to outside_v bad_axes bad_corners bad_edges wrong_share wrong_scene too_many bad_points bad_kinds bad_from bad_uses bad_materials other_kind bad_direction bad_light bad_ambient bad_sky unused_set bad_lights bad_coefficients wrong_lengths wrong_bake_lists bad_lighting bad_lamp bad_lamps lamp_at any bad_progress entries_of tab fold bad_volume bad_contents edges_of dot_v of_bits of_int Ieee.add Ieee.sub Ieee.mul Ieee.div Ieee.neg Ieee.le Ieee.lt Ieee.eq not_accepted
lit_accepted = (refl, refl, refl)

-- three voxels take one word, in which bit 3 is the first unused: the word 15 is refused 13, and two words or none are refused 3
pub mask_judged : (bake_refusal (three_of (15 ∷ []) []) begun 384 ≡ 13) × (bake_refusal (three_of (7 ∷ 0 ∷ []) []) begun 384 ≡ 3) × (bake_refusal (three_of [] []) begun 384 ≡ 3)
unfolding bake_refusal bake_rows first_of some within up_to outside_v bad_axes bad_corners bad_edges wrong_share wrong_scene too_many bad_points bad_kinds bad_from bad_uses bad_materials other_kind bad_direction bad_light bad_ambient bad_sky unused_set bad_lights bad_coefficients wrong_lengths wrong_bake_lists bad_lighting bad_lamp bad_lamps lamp_at any bad_progress entries_of tab fold bad_volume bad_contents edges_of dot_v of_bits of_int Ieee.add Ieee.sub Ieee.mul Ieee.div Ieee.neg Ieee.le Ieee.lt Ieee.eq not_accepted
mask_judged = (refl, refl, refl)

-- progress with voxel 0 done, whose rays were 64 to 384, or to 448 with a lamp; with none done, whose rays are 0; with all done, 192 to 1,152; with voxels 0
-- and 1 passed, of which the mask 5 has voxel 0 alone; next past the count; 9 comes before 10 and 13, 19 and 7 before 9
abbrev pub under : ℕ → ℕ → Stage Float
under next rays = stage (progress_of next rays) begun.volume begun.scratch

pub progress_judged : (map (λ (r : ℕ). bake_refusal three (under 1 r) 384) (63 ∷ 64 ∷ 384 ∷ 385 ∷ 18446744073709551615 ∷ []) ≡ 9 ∷ 0 ∷ 0 ∷ 9 ∷ 9 ∷ [])
    × (map (λ (r : ℕ). bake_refusal three_lit (under 1 r) 448) (63 ∷ 64 ∷ 448 ∷ 449 ∷ []) ≡ 9 ∷ 0 ∷ 0 ∷ 9 ∷ [])
    × (map (λ (r : ℕ). bake_refusal three (under 0 r) 384) (0 ∷ 1 ∷ []) ≡ 0 ∷ 9 ∷ [])
    × (map (λ (r : ℕ). bake_refusal three (under 3 r) 384) (191 ∷ 192 ∷ 1152 ∷ 1153 ∷ []) ≡ 9 ∷ 0 ∷ 0 ∷ 9 ∷ [])
    × (map (λ (r : ℕ). bake_refusal (three_of (5 ∷ []) []) (under 2 r) 384) (63 ∷ 64 ∷ 384 ∷ 385 ∷ []) ≡ 9 ∷ 0 ∷ 0 ∷ 9 ∷ [])
    × (bake_refusal three (under 4 192) 384 ≡ 9)
    × (bake_refusal (three_of (15 ∷ []) []) (under 1 63) 383 ≡ 9)
    × (bake_refusal (three_with (replicate 54 one32)) (under 0 1) 384 ≡ 19)
    × (bake_refusal (input_of three.axes three.corners three.scene (record { direction = vec zero32 zero32 zero32; colour = vec one32 one32 one32 }) three.ambient three.sky [] three.active three.lights 0 0) (under 0 1) 384 ≡ 7)
unfolding bake_refusal bake_rows first_of some within up_to outside_v bad_axes bad_corners bad_edges wrong_share wrong_scene too_many bad_points bad_kinds bad_from bad_uses bad_materials other_kind bad_direction bad_light bad_ambient bad_sky unused_set bad_lights bad_coefficients wrong_lengths wrong_bake_lists bad_lighting bad_lamp bad_lamps lamp_at any bad_progress entries_of tab fold bad_volume bad_contents edges_of dot_v of_bits of_int Ieee.add Ieee.sub Ieee.mul Ieee.div Ieee.neg Ieee.le Ieee.lt Ieee.eq not_accepted
progress_judged = (refl, refl, refl, refl, refl, refl, refl, refl, refl)

-- the same grid about one triangle: with hit scratch for it the bake takes all three kinds, and refuses 3 without. For solid walls, without hit scratch, it takes
-- opaque alone. Another kind is refused 6: before a bad direction's 7, a bad record's 9 and an allowance's 10, after a bad point's 5 and a short list's 3
abbrev pub wall_of : ℕ → Float → Scene
wall_of kind x =
    scene_of (x ∷ zero32 ∷ zero32 ∷ one32 ∷ zero32 ∷ zero32 ∷ zero32 ∷ one32 ∷ zero32 ∷ []) (0 ∷ []) (kind ∷ [])
    (one32 ∷ one32 ∷ one32 ∷ zero32 ∷ zero32 ∷ zero32 ∷ one32 ∷ [])

abbrev pub three_about : ℕ → ℕ → BakeInput
three_about kind hits =
    input_of three.axes three.corners (wall_of kind zero32) three.light three.ambient three.sky [] three.active three.lights hits hits

abbrev pub solid_about : ℕ → Float → Vec3 → BakeInput
solid_about kind x direction =
    solid_input three.axes three.corners (wall_of kind x) (record { direction = direction; colour = vec one32 one32 one32 }) three.ambient three.sky []
    three.active three.lights

pub solid_judged : (map (λ (kind : ℕ). bake_refusal (solid_about kind zero32 (vec zero32 zero32 one32)) begun 384) (0 ∷ 1 ∷ 2 ∷ 3 ∷ []) ≡ 0 ∷ 6 ∷ 6 ∷ 6 ∷ [])
    × (map (λ (kind : ℕ). bake_refusal (three_about kind 1) begun 384) (0 ∷ 1 ∷ 2 ∷ 3 ∷ []) ≡ 0 ∷ 0 ∷ 0 ∷ 6 ∷ [])
    × (bake_refusal (three_about 0 0) begun 384 ≡ 3)
    × (bake_refusal (solid_about 1 zero32 (vec zero32 zero32 zero32)) begun 384 ≡ 6)
    × (bake_refusal (solid_about 1 zero32 (vec zero32 zero32 one32)) (under 4 192) 383 ≡ 6)
    × (bake_refusal (solid_about 1 inf32 (vec zero32 zero32 one32)) begun 384 ≡ 5)
    × (bake_refusal (solid_about 1 zero32 (vec zero32 zero32 one32)) (stage at_zero [] []) 384 ≡ 3)
unfolding bake_refusal bake_rows first_of some within up_to outside_v bad_axes bad_corners bad_edges wrong_share wrong_scene too_many bad_points bad_kinds bad_from bad_uses bad_materials other_kind bad_direction bad_light bad_ambient bad_sky unused_set bad_lights bad_coefficients wrong_lengths wrong_bake_lists bad_lighting bad_lamp bad_lamps lamp_at any bad_progress entries_of tab fold bad_volume bad_contents edges_of dot_v of_bits of_int Ieee.add Ieee.sub Ieee.mul Ieee.div Ieee.neg Ieee.le Ieee.lt Ieee.eq not_accepted
solid_judged = (refl, refl, refl, refl, refl, refl, refl)

-- ---- with a box tree: the same grid about the two sheets of tree's figures, of one material, in one leaf

-- both stand in its run; and a run that leaves the upper one out
abbrev good : List ℕ
good = 2 ∷ 0 ∷ 7 ∷ []

abbrev bad : List ℕ
bad = 1 ∷ 0 ∷ 0 ∷ []

abbrev pub sheets_about : List ℕ → ℕ → Vec3 → List Float → List ℕ → ℕ → BakeInput
sheets_about nodes kind direction lamps active hits =
    input_of three.axes three.corners
    (tree_scene (raised_to zero32 ++ raised_to one32) (0 ∷ 0 ∷ []) (kind ∷ []) (one32 ∷ one32 ∷ one32 ∷ zero32 ∷ zero32 ∷ zero32 ∷ one32 ∷ [])
    (box_from (lit 0xbf800000) two32) nodes (0 ∷ 1 ∷ []))
    (record { direction = direction; colour = vec one32 one32 one32 }) three.ambient three.sky lamps active three.lights hits hits

abbrev upward : Vec3
upward = vec zero32 zero32 one32

-- the good tree is taken with each kind and with a lamp, and what comes after it asked. The bad one is refused 16: before a bad record's 9, an allowance's 10 and an unused bit's 13,
-- after nine lamps' 19, a bad direction's 7, a bad material's 6 and short hit scratch's 3
pub tree_judged : (
    bake_refusal (sheets_about good 0 upward [] (7 ∷ []) 2) begun 384
    ∷ bake_refusal (sheets_about good 1 upward [] (7 ∷ []) 2) begun 384
    ∷ bake_refusal (sheets_about good 2 upward one_lamp (7 ∷ []) 2) (under 1 448) 448
    ∷ bake_refusal (sheets_about good 0 upward [] (15 ∷ []) 2) (under 4 192) 383
    ∷ []
    ≡ 0 ∷ 0 ∷ 0 ∷ 9 ∷ [])
    × (
    bake_refusal (sheets_about bad 0 upward [] (7 ∷ []) 2) begun 384
    ∷ bake_refusal (sheets_about bad 0 upward [] (15 ∷ []) 2) (under 4 192) 383
    ∷ bake_refusal (sheets_about bad 0 upward (replicate 54 one32) (15 ∷ []) 2) (under 4 192) 383
    ∷ bake_refusal (sheets_about bad 0 (vec zero32 zero32 zero32) [] (15 ∷ []) 2) (under 4 192) 383
    ∷ bake_refusal (sheets_about bad 3 upward [] (15 ∷ []) 2) (under 4 192) 383
    ∷ bake_refusal (sheets_about bad 0 upward [] (15 ∷ []) 1) (under 4 192) 383
    ∷ []
    ≡ 16 ∷ 16 ∷ 19 ∷ 7 ∷ 6 ∷ 3 ∷ [])
unfolding bake_refusal bake_rows raised_to first_of some within up_to outside_v bad_axes bad_corners bad_edges wrong_share wrong_scene too_many bad_points bad_kinds bad_from bad_uses bad_materials other_kind bad_direction bad_light bad_ambient bad_sky unused_set bad_lights bad_coefficients wrong_lengths wrong_bake_lists bad_lighting bad_lamp bad_lamps lamp_at any bad_progress entries_of tab fold bad_volume bad_contents edges_of dot_v of_bits of_int Ieee.add Ieee.sub Ieee.mul Ieee.div Ieee.neg Ieee.le Ieee.lt Ieee.eq not_accepted
tree_judged = (rw (ap (λ (l : List Bool). get_or l 0 false) accepted_trees), rw (ap (λ (l : List Bool). get_or l 0 false) refused_trees))
