-- Good calls are accepted: the ray down on triangle Q, alone, as a scene of one opaque triangle, and with a second sheet above it in a box tree.
use Rattle.std.specs.Prelude.{◌≡◌, refl, Bool, false, List, [], ◌∷◌, ◌++◌, map, ℕ, get_or, Float}
use Rattle.std.proofs.Common.{ap}
use Rattle.std.specs.Float.Ieee.{of_bits, of_fields, odd, neg, le, lt, eq, is_nan}
use Rattle.names.specs.Bits.{lit, zero32, quarter32, one32, two32, inf32}
use Rattle.names.specs.Refusals.{first_of}
use Rattle.names.specs.Scene.{Scene, scene_of, tree_scene, other_kind}
use Rattle.vectors.specs.Vectors.{vec}
use Rattle.vectors.specs.declared.Ray.{Ray}
use Rattle.vectors.specs.declared.Triangle.{Triangle}
use Rattle.limits.specs.Limits.{within, up_to, outside_v, wrong_share, wrong_scene, too_many, bad_points, bad_triangle, bad_kinds, bad_from, bad_uses, bad_materials, bad_ray}
use Rattle.tree.specs.Trees.{not_accepted}
use Rattle.tree.specs.TreeFigures.{raised_to, box_from, accepted_trees, refused_trees}
use Rattle.lists.specs.Some.{some}
use Rattle.rays.specs.Rays.{meet_refusal, nearest_refusal, wrong_scratch, transmittance_refusal, solid_transmittance_refusal}

-- from (.25, .25, 1) down, from 0 to infinity
unfoldable pub down : Ray
down =
    record { origin = vec quarter32 quarter32 one32; direction = vec zero32 zero32 (lit 0xbf800000); shortest = zero32; longest = inf32 }

-- "Triangle Q is (0,0,0),(1,0,0),(0,1,0)"
unfoldable pub Q : Triangle
Q = record { p0 = vec zero32 zero32 zero32; p1 = vec one32 zero32 zero32; p2 = vec zero32 one32 zero32 }

-- and as a scene, opaque and white
unfoldable pub hall : Scene
hall =
    scene_of
    (zero32 ∷ zero32 ∷ zero32 ∷ one32 ∷ zero32 ∷ zero32 ∷ zero32 ∷ one32 ∷ zero32 ∷ [])
    (0 ∷ [])
    (0 ∷ [])
    (one32 ∷ one32 ∷ one32 ∷ zero32 ∷ zero32 ∷ zero32 ∷ zero32 ∷ [])

pub meet_accepted : meet_refusal down Q ≡ 0
unfolding meet_refusal down Q first_of bad_triangle bad_ray outside_v within up_to of_bits of_fields odd neg le lt eq is_nan
meet_accepted = refl

pub nearest_accepted : nearest_refusal hall down ≡ 0
unfolding nearest_refusal hall down first_of wrong_scene wrong_share too_many bad_points bad_materials bad_kinds bad_from bad_uses some bad_ray outside_v within up_to of_bits of_fields odd neg le lt eq is_nan not_accepted
nearest_accepted = refl

pub transmittance_accepted : transmittance_refusal hall down (zero32 ∷ []) (0 ∷ []) ≡ 0
unfolding transmittance_refusal wrong_scratch hall down first_of wrong_scene wrong_share too_many bad_points bad_materials bad_kinds bad_from bad_uses some bad_ray outside_v within up_to of_bits of_fields odd neg le lt eq is_nan not_accepted
transmittance_accepted = refl

-- the engine of solid walls takes it too, without hit scratch. Beside a material of another kind, which no triangle uses, it refuses it with 6: before a bad
-- ray's 8, after a bad point's 5
unfoldable pub beside_kind : ℕ → Float → Scene
beside_kind kind x =
    scene_of (x ∷ zero32 ∷ zero32 ∷ one32 ∷ zero32 ∷ zero32 ∷ zero32 ∷ one32 ∷ zero32 ∷ []) (0 ∷ []) (0 ∷ kind ∷ [])
    (one32 ∷ one32 ∷ one32 ∷ zero32 ∷ zero32 ∷ zero32 ∷ zero32 ∷ one32 ∷ one32 ∷ one32 ∷ zero32 ∷ zero32 ∷ zero32 ∷ one32 ∷ [])

unfoldable pub unbounded : Ray
unbounded = record { origin = down.origin; direction = down.direction; shortest = zero32; longest = lit 0x7fc00000 }

pub solid_transmittance_accepted : (solid_transmittance_refusal hall down ≡ 0) × (transmittance_refusal hall down [] [] ≡ 3)
    × (map (λ (kind : ℕ). solid_transmittance_refusal (beside_kind kind zero32) down) (0 ∷ 1 ∷ 2 ∷ 3 ∷ []) ≡ 0 ∷ 6 ∷ 6 ∷ 6 ∷ [])
    × (solid_transmittance_refusal (beside_kind 1 zero32) unbounded ≡ 6)
    × (solid_transmittance_refusal (beside_kind 1 inf32) down ≡ 5)
unfolding solid_transmittance_refusal transmittance_refusal wrong_scratch beside_kind hall down unbounded first_of wrong_scene wrong_share too_many bad_points bad_materials bad_kinds bad_from bad_uses some other_kind bad_ray outside_v within up_to of_bits of_fields odd neg le lt eq is_nan not_accepted
solid_transmittance_accepted = (refl, refl, refl, refl, refl)

-- ---- with a box tree: the two sheets of tree's figures, of one material, in one leaf

abbrev pub sheets_by : List ℕ → ℕ → Scene
sheets_by nodes kind =
    tree_scene (raised_to zero32 ++ raised_to one32) (0 ∷ 0 ∷ []) (kind ∷ []) (one32 ∷ one32 ∷ one32 ∷ zero32 ∷ zero32 ∷ zero32 ∷ zero32 ∷ [])
    (box_from (lit 0xbf800000) two32) nodes (0 ∷ 1 ∷ [])

-- both stand in its run; and a run that leaves the upper one out
abbrev good : List ℕ
good = 2 ∷ 0 ∷ 7 ∷ []

abbrev bad : List ℕ
bad = 1 ∷ 0 ∷ 0 ∷ []

-- both calls take the good tree with each kind, and refuse the bad one 16: before a bad ray's 8, after a bad material's 6 and short hit scratch's 3
abbrev tree_cases : List (Scene × Ray)
tree_cases =
    (sheets_by good 0, down) ∷ (sheets_by good 1, down) ∷ (sheets_by good 2, down) ∷ (sheets_by bad 0, down) ∷ (sheets_by bad 0, unbounded) ∷ (sheets_by good 0, unbounded)
    ∷ (sheets_by bad 3, unbounded) ∷ []

pub tree_rays_accepted : (map (λ (c : Scene × Ray). nearest_refusal c.0 c.1) tree_cases ≡ 0 ∷ 0 ∷ 0 ∷ 16 ∷ 16 ∷ 8 ∷ 6 ∷ [])
    × (map (λ (c : Scene × Ray). transmittance_refusal c.0 c.1 (zero32 ∷ zero32 ∷ []) (0 ∷ 0 ∷ [])) tree_cases ≡ 0 ∷ 0 ∷ 0 ∷ 16 ∷ 16 ∷ 8 ∷ 6 ∷ [])
    × (transmittance_refusal (sheets_by bad 0) down (zero32 ∷ []) (0 ∷ 0 ∷ []) ≡ 3)
unfolding nearest_refusal transmittance_refusal wrong_scratch down unbounded raised_to first_of wrong_scene wrong_share too_many bad_points bad_materials bad_kinds bad_from bad_uses some bad_ray outside_v within up_to of_bits of_fields odd neg le lt eq is_nan not_accepted
tree_rays_accepted =
    let g = ap (λ (l : List Bool). get_or l 0 false) accepted_trees in
    let b = ap (λ (l : List Bool). get_or l 0 false) refused_trees in
    (rw (g, b), rw (g, b), refl)
