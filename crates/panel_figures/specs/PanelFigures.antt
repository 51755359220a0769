-- Panels from both sides, computed from the definitions that the public ray calls cite, refusals included: what is nearest, and how much light passes, bit for bit.
-- Triangle Q is document 01's, (0,0,0),(1,0,0),(0,1,0): from above its front is met, from below its back.
use Rattle.std.specs.Prelude.{◌≡◌, refl, List, [], ◌∷◌, map, ◌++◌, ℕ, length, replicate, Float}
use Rattle.std.specs.Float.Ieee as Ieee
use Rattle.std.specs.Float.{binary32}
use Rattle.std.specs.Float.Ieee.{to_bits}
use Rattle.names.specs.Bits.{lit, zero32, quarter32, half32, one32, inf32}
use Rattle.names.specs.Refusals.{first_of, unless_refused}
use Rattle.names.specs.Scene.{Scene, scene_of}
use Rattle.lists.specs.Some.{some}
use Rattle.floats.specs.Choice.{magnitude_of}
use Rattle.vectors.specs.Vectors.{vec, sub_v, dot_v, cross_v}
use Rattle.vectors.specs.declared.Ray.{Ray}
use Rattle.limits.specs.Limits.{within, up_to, outside_v, wrong_share, wrong_scene, too_many, bad_points, bad_triangle, bad_kinds, bad_from, bad_uses, bad_materials, bad_ray}
use Rattle.tree.specs.Trees.{not_accepted}
use Rattle.triangle.specs.Meet.{absent_of, solved_of, front_of, judged_of, meet_of}
use Rattle.triangle.specs.Places.{triangle_at}
use Rattle.panels.specs.Panels.{counts, stops_light, counted_of, met_at, met_by}
use Rattle.hits.specs.Hits.{before, insert_of, with_meet, hits_of}
use Rattle.scan.specs.Nearest.{beats, nearer_of, nearest_to, nearest_of}
use Rattle.scan.specs.Transmittance.{pass_of, transmittance_of}
use Rattle.rays.specs.Rays.{Values, meet_refusal, values_of_test, meet_values, nearest_refusal, scan_values, nearest_values, wrong_scratch, transmittance_refusal}

-- ---- rays and scenes

abbrev minus_one : Float
minus_one = lit 0xbf800000

-- from (.25, .25, z) along (0, 0, d), from 0 to infinity
unfoldable pub ray_along : Float → Float → Ray
ray_along z d = record { origin = vec quarter32 quarter32 z; direction = vec zero32 zero32 d; shortest = zero32; longest = inf32 }

unfoldable pub ray_down : Ray
ray_down = ray_along one32 minus_one

unfoldable pub ray_up : Ray
ray_up = ray_along minus_one one32

-- triangle Q raised to a height, and the same turned about
unfoldable pub sheet_at : Float → List Float
sheet_at z = zero32 ∷ zero32 ∷ z ∷ one32 ∷ zero32 ∷ z ∷ zero32 ∷ one32 ∷ z ∷ []

unfoldable pub turned_at : Float → List Float
turned_at z = zero32 ∷ zero32 ∷ z ∷ zero32 ∷ one32 ∷ z ∷ one32 ∷ zero32 ∷ z ∷ []

-- three materials, an opaque one, a translucent one at .5 and a panel, whose transmission of .5 is never read; each triangle uses the one of its kind
unfoldable pub hall_of : List Float → List ℕ → Scene
hall_of points uses =
    scene_of points uses (0 ∷ 1 ∷ 2 ∷ [])
    (one32 ∷ one32 ∷ one32 ∷ zero32 ∷ zero32 ∷ zero32 ∷ zero32
    ∷ one32 ∷ one32 ∷ one32 ∷ zero32 ∷ zero32 ∷ zero32 ∷ half32
    ∷ one32 ∷ one32 ∷ one32 ∷ zero32 ∷ zero32 ∷ zero32 ∷ half32 ∷ [])

-- refusal, hit or not, place, 1 where the front was met, distance
abbrev told : Values → List ℕ
told a = a.number ∷ a.hit ∷ a.place ∷ a.front ∷ to_bits binary32 a.t ∷ []

unfoldable pub nearest_told : Scene → Ray → List ℕ
nearest_told scene ray = told (nearest_values scene ray)

-- refusal and transmittance
unfoldable pub light_told : Scene → Ray → List ℕ
light_told scene ray =
    let n = length scene.uses in
    let r = transmittance_refusal scene ray (replicate n zero32) (replicate n 0) in
    r ∷ to_bits binary32 (unless_refused r (transmittance_of scene ray) zero32) ∷ []

-- what the ray calls answer of a scene along a ray
unfoldable pub scene_told : Scene → Ray → List ℕ
scene_told scene ray = nearest_told scene ray ++ light_told scene ray

-- nothing met, and all light passes; a hit at a place on the front, or on the back, one off, and so much light
abbrev clear : List ℕ
clear = 0 ∷ 0 ∷ 0 ∷ 0 ∷ 0 ∷ 0 ∷ 0x3f800000 ∷ []

abbrev on_front : ℕ → ℕ → List ℕ
on_front place light = 0 ∷ 1 ∷ place ∷ 1 ∷ 0x3f800000 ∷ 0 ∷ light ∷ []

abbrev on_back : ℕ → ℕ → List ℕ
on_back place light = 0 ∷ 1 ∷ place ∷ 0 ∷ 0x3f800000 ∷ 0 ∷ light ∷ []

-- ---- the same sheet from both sides

-- opaque, translucent, panel, each from above and from below
pub both_sides : map (λ (kind : ℕ). scene_told (hall_of (sheet_at zero32) (kind ∷ [])) ray_down) (0 ∷ 1 ∷ 2 ∷ [])
    ++ map (λ (kind : ℕ). scene_told (hall_of (sheet_at zero32) (kind ∷ [])) ray_up) (0 ∷ 1 ∷ 2 ∷ [])
    ≡ on_front 0 0 ∷ on_front 0 0x3f000000 ∷ on_front 0 0 ∷ on_back 0 0 ∷ on_back 0 0x3f000000 ∷ clear ∷ []
unfolding ray_along ray_down ray_up sheet_at turned_at hall_of nearest_told light_told scene_told first_of unless_refused magnitude_of sub_v dot_v cross_v within up_to outside_v wrong_share wrong_scene too_many bad_points bad_kinds bad_from bad_uses bad_materials bad_ray some absent_of solved_of front_of judged_of meet_of triangle_at counts stops_light counted_of met_at met_by before insert_of with_meet hits_of beats nearer_of nearest_to nearest_of pass_of transmittance_of nearest_refusal scan_values nearest_values wrong_scratch transmittance_refusal Ieee.of_bits Ieee.of_fields Ieee.odd Ieee.to_bits Ieee.neg Ieee.le Ieee.lt Ieee.eq Ieee.is_nan Ieee.add Ieee.sub Ieee.mul Ieee.div Ieee.round Ieee.sum Ieee.units Ieee.size Ieee.span Ieee.climb not_accepted
both_sides = refl

-- ---- a back face nearer than a front face

-- a panel turned away at .5 and, one off, an opaque sheet, a translucent one and a panel, then the turned panel alone; in both orders of the list
pub nearer_back : map (λ (kind : ℕ). scene_told (hall_of (turned_at half32 ++ sheet_at zero32) (2 ∷ kind ∷ [])) ray_down) (0 ∷ 1 ∷ 2 ∷ [])
    ++ map (λ (kind : ℕ). scene_told (hall_of (sheet_at zero32 ++ turned_at half32) (kind ∷ 2 ∷ [])) ray_down) (0 ∷ 1 ∷ 2 ∷ [])
    ++ (scene_told (hall_of (turned_at half32) (2 ∷ [])) ray_down ∷ [])
    ≡ on_front 1 0 ∷ on_front 1 0x3f000000 ∷ on_front 1 0 ∷ on_front 0 0 ∷ on_front 0 0x3f000000 ∷ on_front 0 0 ∷ clear ∷ []
unfolding ray_along ray_down ray_up sheet_at turned_at hall_of nearest_told light_told scene_told first_of unless_refused magnitude_of sub_v dot_v cross_v within up_to outside_v wrong_share wrong_scene too_many bad_points bad_kinds bad_from bad_uses bad_materials bad_ray some absent_of solved_of front_of judged_of meet_of triangle_at counts stops_light counted_of met_at met_by before insert_of with_meet hits_of beats nearer_of nearest_to nearest_of pass_of transmittance_of nearest_refusal scan_values nearest_values wrong_scratch transmittance_refusal Ieee.of_bits Ieee.of_fields Ieee.odd Ieee.to_bits Ieee.neg Ieee.le Ieee.lt Ieee.eq Ieee.is_nan Ieee.add Ieee.sub Ieee.mul Ieee.div Ieee.round Ieee.sum Ieee.units Ieee.size Ieee.span Ieee.climb not_accepted
nearer_back = refl

-- ---- coincident triangles of kinds 0, 1 and 2, in every order

abbrev orders : List (List ℕ)
orders =
    (0 ∷ 1 ∷ 2 ∷ []) ∷ (0 ∷ 2 ∷ 1 ∷ []) ∷ (1 ∷ 0 ∷ 2 ∷ []) ∷ (1 ∷ 2 ∷ 0 ∷ []) ∷ (2 ∷ 0 ∷ 1 ∷ []) ∷ (2 ∷ 1 ∷ 0 ∷ []) ∷ []

abbrev three : List Float
three = sheet_at zero32 ++ sheet_at zero32 ++ sheet_at zero32

-- from above the last of the list; from below the last that is no panel
pub coincident_front : map (λ (uses : List ℕ). scene_told (hall_of three uses) ray_down) orders ≡ replicate 6 (on_front 2 0)
unfolding ray_along ray_down ray_up sheet_at turned_at hall_of nearest_told light_told scene_told first_of unless_refused magnitude_of sub_v dot_v cross_v within up_to outside_v wrong_share wrong_scene too_many bad_points bad_kinds bad_from bad_uses bad_materials bad_ray some absent_of solved_of front_of judged_of meet_of triangle_at counts stops_light counted_of met_at met_by before insert_of with_meet hits_of beats nearer_of nearest_to nearest_of pass_of transmittance_of nearest_refusal scan_values nearest_values wrong_scratch transmittance_refusal Ieee.of_bits Ieee.of_fields Ieee.odd Ieee.to_bits Ieee.neg Ieee.le Ieee.lt Ieee.eq Ieee.is_nan Ieee.add Ieee.sub Ieee.mul Ieee.div Ieee.round Ieee.sum Ieee.units Ieee.size Ieee.span Ieee.climb not_accepted
coincident_front = refl

pub coincident_back : map (λ (uses : List ℕ). scene_told (hall_of three uses) ray_up) orders
    ≡ on_back 1 0 ∷ on_back 2 0 ∷ on_back 1 0 ∷ on_back 2 0 ∷ on_back 2 0 ∷ on_back 2 0 ∷ []
unfolding ray_along ray_down ray_up sheet_at turned_at hall_of nearest_told light_told scene_told first_of unless_refused magnitude_of sub_v dot_v cross_v within up_to outside_v wrong_share wrong_scene too_many bad_points bad_kinds bad_from bad_uses bad_materials bad_ray some absent_of solved_of front_of judged_of meet_of triangle_at counts stops_light counted_of met_at met_by before insert_of with_meet hits_of beats nearer_of nearest_to nearest_of pass_of transmittance_of nearest_refusal scan_values nearest_values wrong_scratch transmittance_refusal Ieee.of_bits Ieee.of_fields Ieee.odd Ieee.to_bits Ieee.neg Ieee.le Ieee.lt Ieee.eq Ieee.is_nan Ieee.add Ieee.sub Ieee.mul Ieee.div Ieee.round Ieee.sum Ieee.units Ieee.size Ieee.span Ieee.climb not_accepted
coincident_back = refl

-- without the opaque one the panel alone stops light, and from the front alone
pub coincident_pair : map (λ (uses : List ℕ). scene_told (hall_of (sheet_at zero32 ++ sheet_at zero32) uses) ray_down) ((1 ∷ 2 ∷ []) ∷ (2 ∷ 1 ∷ []) ∷ [])
    ++ map (λ (uses : List ℕ). scene_told (hall_of (sheet_at zero32 ++ sheet_at zero32) uses) ray_up) ((1 ∷ 2 ∷ []) ∷ (2 ∷ 1 ∷ []) ∷ [])
    ≡ on_front 1 0 ∷ on_front 1 0 ∷ on_back 0 0x3f000000 ∷ on_back 1 0x3f000000 ∷ []
unfolding ray_along ray_down ray_up sheet_at turned_at hall_of nearest_told light_told scene_told first_of unless_refused magnitude_of sub_v dot_v cross_v within up_to outside_v wrong_share wrong_scene too_many bad_points bad_kinds bad_from bad_uses bad_materials bad_ray some absent_of solved_of front_of judged_of meet_of triangle_at counts stops_light counted_of met_at met_by before insert_of with_meet hits_of beats nearer_of nearest_to nearest_of pass_of transmittance_of nearest_refusal scan_values nearest_values wrong_scratch transmittance_refusal Ieee.of_bits Ieee.of_fields Ieee.odd Ieee.to_bits Ieee.neg Ieee.le Ieee.lt Ieee.eq Ieee.is_nan Ieee.add Ieee.sub Ieee.mul Ieee.div Ieee.round Ieee.sum Ieee.units Ieee.size Ieee.span Ieee.climb not_accepted
coincident_pair = refl

-- ---- the determinant at the limit

-- along (0, 0, −d) the determinant of Q is d: 1e-8 itself is a miss and the next float a front; minus 1e-8 is a miss and the next float down a back
abbrev graze : ℕ → ℕ → List ℕ
graze z d =
    let a = meet_values (ray_along (lit z) (lit d)) (record { p0 = vec zero32 zero32 zero32; p1 = vec one32 zero32 zero32; p2 = vec zero32 one32 zero32 }) in
    a.number ∷ a.hit ∷ a.front ∷ []

pub limit_sides : graze 0x32000000 0xb22bcc77 ∷ graze 0x32000000 0xb22bcc78 ∷ graze 0xb2000000 0x322bcc77 ∷ graze 0xb2000000 0x322bcc78 ∷ []
    ≡ (0 ∷ 0 ∷ 0 ∷ []) ∷ (0 ∷ 1 ∷ 1 ∷ []) ∷ (0 ∷ 0 ∷ 0 ∷ []) ∷ (0 ∷ 1 ∷ 0 ∷ []) ∷ []
unfolding ray_along first_of unless_refused magnitude_of sub_v dot_v cross_v within up_to outside_v bad_triangle bad_ray absent_of solved_of front_of judged_of meet_of meet_refusal values_of_test meet_values Ieee.of_bits Ieee.of_fields Ieee.odd Ieee.neg Ieee.le Ieee.lt Ieee.eq Ieee.is_nan Ieee.add Ieee.sub Ieee.mul Ieee.div Ieee.round Ieee.sum Ieee.units Ieee.size Ieee.span Ieee.climb
limit_sides = refl
