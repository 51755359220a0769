-- A good call is accepted: one active voxel, so one word with its bit 0 set, no triangles, the light straight up. With bit 1 set too, which no voxel has,
-- it is refused.
use Rattle.std.specs.Prelude.{◌≡◌, refl, Bool, true, false, List, [], ◌∷◌, ◌++◌, map, ℕ, get_or, Float}
use Rattle.std.proofs.Common.{ap}
use Rattle.std.specs.Float.Ieee.{of_bits, of_fields, odd, neg, le, lt, eq, add, sub, mul, div, of_int, round, sum, units, size, climb, span}
use Rattle.names.specs.Bits.{lit, zero32, one32, two32, inf32}
use Rattle.names.specs.Refusals.{first_of}
use Rattle.names.specs.Scene.{Scene, scene_of, tree_scene, other_kind}
use Rattle.vectors.specs.Vectors.{vec, dot_v}
use Rattle.vectors.specs.declared.Vec3.{Vec3}
use Rattle.grid.specs.Grid.{edges_of}
use Rattle.grid.specs.declared.Axes.{Axes}
use Rattle.grid.specs.declared.Corners.{Corners}
use Rattle.limits.specs.Limits.{within, up_to, outside_v, bad_axes, bad_corners, bad_edges, wrong_share, wrong_scene, too_many, bad_points, bad_kinds, bad_from, bad_uses, bad_materials, bad_direction}
use Rattle.tree.specs.Trees.{not_accepted}
use Rattle.tree.specs.TreeFigures.{raised_to, box_from, accepted_trees, refused_trees}
use Rattle.lists.specs.Some.{some}
use Rattle.lists.specs.Any.{any}
use Rattle.words.specs.Words.{unused_set}
use Rattle.sun.specs.Sun.{wrong_sun, sun_refusal}

unfoldable pub one_voxel : Axes
one_voxel = record { width = 1; height = 1; depth = 1 }

unfoldable pub unit_box : Corners
unit_box = record { min = vec zero32 zero32 zero32; max = vec one32 one32 one32 }

unfoldable pub upward : Vec3
upward = vec zero32 zero32 one32

abbrev pub empty_scene : Scene
empty_scene = scene_of [] [] [] []

pub sun_accepted : sun_refusal false one_voxel unit_box empty_scene upward (1 ∷ []) 1 1 0 0 ≡ 0
unfolding sun_refusal wrong_sun one_voxel unit_box upward first_of bad_axes bad_corners bad_edges edges_of wrong_scene wrong_share too_many bad_points bad_kinds bad_from bad_uses bad_materials bad_direction unused_set any some outside_v within dot_v of_bits of_fields odd neg le lt eq add sub mul div of_int round sum units size climb span not_accepted
sun_accepted = refl

pub sun_bit_refused : sun_refusal false one_voxel unit_box empty_scene upward (3 ∷ []) 1 1 0 0 ≡ 13
unfolding sun_refusal wrong_sun one_voxel unit_box upward first_of bad_axes bad_corners bad_edges edges_of wrong_scene wrong_share too_many bad_points bad_kinds bad_from bad_uses bad_materials bad_direction unused_set any some outside_v within dot_v of_bits of_fields odd neg le lt eq add sub mul div of_int round sum units size climb span not_accepted
sun_bit_refused = refl

-- one triangle is accepted between solid walls without hit scratch, and refused 3 by the other engine, which with it takes all three kinds. Of another kind than
-- opaque it is refused 6 between solid walls: before a bad direction's 7 and an unused bit's 13, after a bad point's 5
abbrev pub one_wall : ℕ → Float → Scene
one_wall kind x =
    scene_of (x ∷ zero32 ∷ zero32 ∷ one32 ∷ zero32 ∷ zero32 ∷ zero32 ∷ one32 ∷ zero32 ∷ []) (0 ∷ []) (kind ∷ [])
    (one32 ∷ one32 ∷ one32 ∷ zero32 ∷ zero32 ∷ zero32 ∷ zero32 ∷ [])

pub solid_sun_accepted : (map (λ (kind : ℕ). sun_refusal true one_voxel unit_box (one_wall kind zero32) upward (1 ∷ []) 1 1 0 0) (0 ∷ 1 ∷ 2 ∷ 3 ∷ []) ≡ 0 ∷ 6 ∷ 6 ∷ 6 ∷ [])
    × (map (λ (kind : ℕ). sun_refusal false one_voxel unit_box (one_wall kind zero32) upward (1 ∷ []) 1 1 1 1) (0 ∷ 1 ∷ 2 ∷ 3 ∷ []) ≡ 0 ∷ 0 ∷ 0 ∷ 6 ∷ [])
    × (sun_refusal false one_voxel unit_box (one_wall 0 zero32) upward (1 ∷ []) 1 1 0 0 ≡ 3)
    × (sun_refusal true one_voxel unit_box (one_wall 1 zero32) upward (3 ∷ []) 1 1 0 0 ≡ 6)
    × (sun_refusal true one_voxel unit_box (one_wall 2 zero32) (vec zero32 zero32 zero32) (1 ∷ []) 1 1 0 0 ≡ 6)
    × (sun_refusal true one_voxel unit_box (one_wall 1 inf32) upward (1 ∷ []) 1 1 0 0 ≡ 5)
unfolding sun_refusal wrong_sun one_voxel unit_box upward first_of bad_axes bad_corners bad_edges edges_of wrong_scene wrong_share too_many bad_points bad_kinds bad_from bad_uses bad_materials other_kind bad_direction unused_set any some outside_v within up_to dot_v of_bits of_fields odd neg le lt eq add sub mul div of_int round sum units size climb span not_accepted
solid_sun_accepted = (refl, refl, refl, refl, refl, refl)

-- ---- with a box tree: the two sheets of tree's figures, of one material, in one leaf

-- both stand in its run; and a run that leaves the upper one out
abbrev good : List ℕ
good = 2 ∷ 0 ∷ 7 ∷ []

abbrev bad : List ℕ
bad = 1 ∷ 0 ∷ 0 ∷ []

-- so judged, with the light's direction, the mask's word and how long hit scratch is
abbrev tree_sun_by : List ℕ → ℕ → Vec3 → ℕ → ℕ → ℕ
tree_sun_by nodes kind direction word hits =
    sun_refusal false one_voxel unit_box
    (tree_scene (raised_to zero32 ++ raised_to one32) (0 ∷ 0 ∷ []) (kind ∷ []) (one32 ∷ one32 ∷ one32 ∷ zero32 ∷ zero32 ∷ zero32 ∷ zero32 ∷ [])
    (box_from (lit 0xbf800000) two32) nodes (0 ∷ 1 ∷ []))
    direction (word ∷ []) 1 1 hits hits

-- the good tree is taken with each kind, the bad one refused 16: before an unused bit's 13, after a bad direction's 7, a bad material's 6 and short hit scratch's 3
pub tree_sun_accepted :
    tree_sun_by good 0 upward 1 2
    ∷ tree_sun_by good 1 upward 1 2
    ∷ tree_sun_by good 2 upward 1 2
    ∷ tree_sun_by bad 0 upward 1 2
    ∷ tree_sun_by bad 0 upward 3 2
    ∷ tree_sun_by good 0 upward 3 2
    ∷ tree_sun_by bad 0 (vec zero32 zero32 zero32) 3 2
    ∷ tree_sun_by bad 3 upward 3 2
    ∷ tree_sun_by bad 0 upward 3 1
    ∷ []
    ≡ 0 ∷ 0 ∷ 0 ∷ 16 ∷ 16 ∷ 13 ∷ 7 ∷ 6 ∷ 3 ∷ []
unfolding sun_refusal wrong_sun one_voxel unit_box upward raised_to first_of bad_axes bad_corners bad_edges edges_of wrong_scene wrong_share too_many bad_points bad_kinds bad_from bad_uses bad_materials bad_direction unused_set any some outside_v within up_to dot_v of_bits of_fields odd neg le lt eq add sub mul div of_int round sum units size climb span not_accepted
tree_sun_accepted = rw (ap (λ (l : List Bool). get_or l 0 false) accepted_trees, ap (λ (l : List Bool). get_or l 0 false) refused_trees)
