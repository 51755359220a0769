-- The numbers accepted. For each row of document 01's table one test of the arguments that it concerns: true where the row's number
-- is given. A bound is tested as −b ≤ x ≤ b, which no NaN and no infinity passes, so that it says finite too. A call's chain is a
-- list of such rows in its own order; a row that speaks of voxels or edges stands after row 1. Assumes nothing.
use Rattle.std.specs.Prelude.{Bool, false, cond, not, ◌&&◌, ◌||◌, List, [], ◌∷◌, ℕ, ◌+◌, ◌*◌, ◌/◌, ◌%◌, ltb, leb, eqb, length, Float}
use Rattle.std.specs.Float.Ieee as Ieee
use Rattle.std.specs.Float.Ieee.{is_nan}
use Rattle.names.specs.Bits.{zero32, one32}
use Rattle.names.specs.Numbers.{axis_limit, triangle_limit, material_limit, last_kind, lamp_limit, voxel_cost, point_limit, edge_limit, colour_limit, light_direction_limit, origin_limit, direction_limit, shortest_limit, position_limit, light_limit, coefficient_limit, thin_limit}
use Rattle.names.specs.Refusals.{Row, row}
use Rattle.names.specs.Scene.{Scene, other_kind}
use Rattle.lists.specs.Any.{any}
use Rattle.vectors.specs.declared.Vec3.{Vec3}
use Rattle.vectors.specs.declared.Ray.{Ray}
use Rattle.vectors.specs.declared.Triangle.{Triangle}
use Rattle.vectors.specs.Vectors.{dot_v}
use Rattle.vectors.specs.Places.{vec_at}
use Rattle.grid.specs.declared.Axes.{Axes}
use Rattle.grid.specs.declared.Corners.{Corners}
use Rattle.grid.specs.Grid.{edges_of}
use Rattle.lists.specs.Some.{some}
use Rattle.limits.specs.declared.Light.{Light}
use Rattle.limits.specs.declared.Ambient.{Ambient}
use Rattle.limits.specs.declared.Lamp.{Lamp}

-- ---- one number, and three

-- finite, and of magnitude at most b
unfoldable pub within : Float → Float → Bool
within b x = Ieee.le (Ieee.neg b) x && Ieee.le x b

abbrev pub outside : Float → Float → Bool
outside b x = not (within b x)

-- from 0 to b; −0 is 0
unfoldable pub up_to : Float → Float → Bool
up_to b x = Ieee.le zero32 x && Ieee.le x b

-- a component lies outside ±b
unfoldable pub outside_v : Float → Vec3 → Bool
outside_v b v = outside b v.x || outside b v.y || outside b v.z

-- ---- 1: an axis outside 1..128

-- outside 1..most, for any most: C-21 speaks of readers whose limit is another
abbrev pub bad_axis : ℕ → ℕ → Bool
bad_axis most n = ltb n 1 || ltb most n

abbrev pub bad_axes_under : ℕ → Axes → Bool
bad_axes_under most a = bad_axis most a.width || bad_axis most a.height || bad_axis most a.depth

unfoldable pub bad_axes : Axes → Bool
bad_axes a = bad_axes_under axis_limit a

-- ---- 2: bad corners or voxel edge

abbrev pub bad_edge : Float → Bool
bad_edge e = not (Ieee.le edge_limit e)

unfoldable pub bad_corners : Corners → Bool
bad_corners c = outside_v point_limit c.min || outside_v point_limit c.max

unfoldable pub bad_edges : Corners → Axes → Bool
bad_edges c a = bad_edge (edges_of c a).x || bad_edge (edges_of c a).y || bad_edge (edges_of c a).z

abbrev pub bad_grid : Corners → Axes → Bool
bad_grid c a = bad_corners c || bad_edges c a

-- ---- 3: a lent list of the wrong length

-- not exactly n
abbrev pub wrong_length : ℕ → ℕ → Bool
wrong_length len n = not (eqb len n)

-- not exactly k for each of n, by quotient and remainder: n is not bounded before row 4, and a product could wrap
unfoldable pub wrong_share : ℕ → ℕ → ℕ → Bool
wrong_share k len n = not (eqb (len / k) n && eqb (len % k) 0)

-- hit scratch: shorter than the triangle count
abbrev pub too_short : ℕ → ℕ → Bool
too_short len n = ltb len n

-- hit scratch is two lists, and one of them is shorter than t triangles; the engine of solid walls "needs no hit scratch", and nothing is asked of it
abbrev pub short_hits : Bool → ℕ → ℕ → ℕ → Bool
short_hits solid distances_length places_length t = cond solid false (too_short distances_length t || too_short places_length t)

-- nine numbers a triangle, seven a material; the uses give the number of triangles, the kinds that of materials
unfoldable pub wrong_scene : List Float → List ℕ → List ℕ → List Float → Bool
wrong_scene points uses kinds numbers = wrong_share 9 (length points) (length uses) || wrong_share 7 (length numbers) (length kinds)

-- ---- 4: too many triangles or materials

abbrev pub too_many_triangles : ℕ → Bool
too_many_triangles t = ltb triangle_limit t

abbrev pub too_many_materials : ℕ → Bool
too_many_materials m = ltb material_limit m

unfoldable pub too_many : ℕ → ℕ → Bool
too_many t m = too_many_triangles t || too_many_materials m

-- ---- 5: bad triangle point

unfoldable pub bad_points : List Float → Bool
bad_points l = some (outside point_limit) l

-- of one triangle, by value
unfoldable pub bad_triangle : Triangle → Bool
bad_triangle t = outside_v point_limit t.p0 || outside_v point_limit t.p1 || outside_v point_limit t.p2

-- ---- 6: bad material

unfoldable pub bad_kinds : List ℕ → Bool
bad_kinds kinds = some (ltb last_kind) kinds

-- the number at place i of a material's seven, counted through the list: six of the base and the emissive colour, then the transmission
abbrev pub bad_number : ℕ → Float → Bool
bad_number i x = cond (eqb (i % 7) 6) (not (up_to one32 x)) (outside colour_limit x)

-- some number of a list whose first is at place i
unfoldable pub bad_from : ℕ → List Float → Bool
bad_from i [] = false
bad_from i (x ∷ l) = bad_number i x || bad_from (i + 1) l

abbrev pub bad_numbers : List Float → Bool
bad_numbers numbers = bad_from 0 numbers

-- "index past the list"
unfoldable pub bad_uses : List ℕ → ℕ → Bool
bad_uses uses m = some (leb m) uses

unfoldable pub bad_materials : List ℕ → List ℕ → List Float → Bool
bad_materials uses kinds numbers = bad_kinds kinds || bad_numbers numbers || bad_uses uses (length kinds)

-- of the engine of solid walls also "6 if another kind stands in the list"
abbrev pub bad_materials_for : Bool → List ℕ → List ℕ → List Float → Bool
bad_materials_for solid uses kinds numbers = cond solid (bad_materials uses kinds numbers || other_kind kinds) (bad_materials uses kinds numbers)

-- ---- 4, 5 and 6 together: the rows of a scene's lists once their lengths fit, before the rows that follow; `solid` says whether for the engine of solid walls

abbrev pub scene_rows : Bool → Scene → List Row → List Row
scene_rows solid scene rest =
    row 4 (too_many (length scene.uses) (length scene.kinds))
    ∷ row 5 (bad_points scene.points)
    ∷ row 6 (bad_materials_for solid scene.uses scene.kinds scene.numbers)
    ∷ rest

-- ---- 7: bad light, ambient or sky number

-- "components up to 4,096, computed squared length above 1e-12"
unfoldable pub bad_direction : Vec3 → Bool
bad_direction d = outside_v light_direction_limit d || not (Ieee.lt thin_limit (dot_v d d))

abbrev pub bad_colour : Vec3 → Bool
bad_colour c = outside_v colour_limit c

unfoldable pub bad_light : Light → Bool
bad_light l = bad_direction l.direction || bad_colour l.colour

unfoldable pub bad_ambient : Ambient → Bool
bad_ambient a = bad_colour a.c0 || bad_colour a.c1 || bad_colour a.c2 || bad_colour a.c3

unfoldable pub bad_sky : List Float → Bool
bad_sky l = some (outside colour_limit) l

-- ---- 8: bad ray

unfoldable pub bad_ray : Ray → Bool
bad_ray r =
    outside_v origin_limit r.origin || outside_v direction_limit r.direction || not (up_to shortest_limit r.shortest) || is_nan r.longest

-- ---- 9: progress whose next voxel is above the voxel count; of its rays see `bad_progress` of the crate intake

abbrev pub past_count : ℕ → ℕ → Bool
past_count next n = ltb n next

-- ---- 10: allowance below 384+64L, with L lamps

abbrev pub below_cost : ℕ → ℕ → Bool
below_cost lamps allowance = ltb allowance (voxel_cost lamps)

-- ---- 11: bad position, or voxel index past the grid

abbrev pub bad_position : Vec3 → Bool
bad_position p = outside_v position_limit p

abbrev pub past_grid : ℕ → ℕ → Bool
past_grid index n = leb n index

-- ---- 13: light not finite or beyond ±2^64; coefficient not finite or beyond ±2^96; of a mask in words see `unused_set` of the crate words

-- a file's mask, inside 12: an entry not 0 or 1
unfoldable pub bad_mask : List ℕ → Bool
bad_mask l = some (ltb 1) l

unfoldable pub bad_lights : List Float → Bool
bad_lights l = some (outside light_limit) l

unfoldable pub bad_coefficients : List Float → Bool
bad_coefficients l = some (outside coefficient_limit) l

-- ---- 19, after 7: more than eight lamps, a position not finite or beyond ±4,096, or a colour outside document 01's rule

-- six numbers a lamp: its position, then its colour
abbrev pub lamp_count : List Float → ℕ
lamp_count lamps = length lamps / 6

-- 3: numbers left over
abbrev pub wrong_lamps : ℕ → Bool
wrong_lamps len = wrong_length (len % 6) 0

-- lamp j; past the list's end stands NaN, and who reads shows j in range
unfoldable pub lamp_at : List Float → ℕ → Lamp
lamp_at l j =
    record {
      position = vec_at l (j * 6);
      colour = vec_at l (j * 6 + 3);
    }

unfoldable pub bad_lamp : Lamp → Bool
bad_lamp lamp = outside_v position_limit lamp.position || bad_colour lamp.colour

abbrev pub bad_lamp_at : List Float → ℕ → Bool
bad_lamp_at lamps j = bad_lamp (lamp_at lamps j)

unfoldable pub bad_lamps : List Float → Bool
bad_lamps lamps = ltb lamp_limit (lamp_count lamps) || any (bad_lamp_at lamps) (lamp_count lamps) 0
