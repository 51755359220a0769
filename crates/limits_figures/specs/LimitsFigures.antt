-- The rows at their limits, computed from the definitions: the bound itself, the next number past it, −0, NaN and the infinities.
use Rattle.std.specs.Prelude.{◌≡◌, refl, Bool, true, false, List, [], ◌∷◌, map, ℕ, replicate, Float}
use Rattle.std.specs.Float.Ieee.{of_bits, neg, add, sub, mul, div, lt, le, eq, of_int, is_nan}
use Rattle.names.specs.Bits.{lit, zero32, one32}
use Rattle.names.specs.Numbers.{point_limit, light_limit, coefficient_limit}
use Rattle.lists.specs.Any.{any}
use Rattle.vectors.specs.declared.Ray.{Ray}
use Rattle.vectors.specs.Vectors.{vec, dot_v}
use Rattle.grid.specs.declared.Corners.{Corners}
use Rattle.grid.specs.Grid.{edges_of}
use Rattle.lists.specs.Some.{some}
use Rattle.limits.specs.Limits.{within, up_to, outside_v, bad_axes, bad_corners, bad_edges, bad_grid, wrong_share, too_many, bad_points, bad_kinds, bad_from, bad_uses, bad_materials, bad_direction, bad_ray, past_count, bad_position, past_grid, bad_mask, below_cost, wrong_lamps, lamp_at, bad_lamp, bad_lamps}

-- ±4,096 pass and the next floats do not; −0 passes; NaN and the infinities do not
pub points : map (λ (bits : ℕ). within point_limit (lit bits)) (0x45800000 ∷ 0xc5800000 ∷ 0x80000000 ∷ 0x45800001 ∷ 0xc5800001 ∷ 0x7fc00000 ∷ 0x7f800000 ∷ 0xff800000 ∷ [])
    ≡ true ∷ true ∷ true ∷ false ∷ false ∷ false ∷ false ∷ false ∷ []
unfolding within of_bits neg lt le eq
points = refl

-- ±2^64, and the next floats
pub lights : map (λ (bits : ℕ). within light_limit (lit bits)) (0x5f800000 ∷ 0xdf800000 ∷ 0x5f800001 ∷ 0xdf800001 ∷ []) ≡ true ∷ true ∷ false ∷ false ∷ []
unfolding within of_bits neg lt le eq
lights = refl

-- ±2^96, and the next floats
pub coefficients_at : map (λ (bits : ℕ). within coefficient_limit (lit bits)) (0x6f800000 ∷ 0xef800000 ∷ 0x6f800001 ∷ 0xef800001 ∷ []) ≡ true ∷ true ∷ false ∷ false ∷ []
unfolding within of_bits neg lt le eq
coefficients_at = refl

-- from 0 to 1: −0 passes, the least number below 0 and the next above 1 do not
pub transmissions : map (λ (bits : ℕ). up_to one32 (lit bits)) (0 ∷ 0x80000000 ∷ 0x3f800000 ∷ 0x80000001 ∷ 0x3f800001 ∷ 0x7fc00000 ∷ []) ≡ true ∷ true ∷ true ∷ false ∷ false ∷ false ∷ []
unfolding up_to of_bits lt le eq
transmissions = refl

-- 1: an axis of 0, 1, 33, 128 and 129, each way
abbrev each_way : ℕ → List Bool
each_way n =
    bad_axes (record { width = n; height = 128; depth = 1 })
    ∷ bad_axes (record { width = 1; height = n; depth = 128 })
    ∷ bad_axes (record { width = 128; height = 1; depth = n })
    ∷ []

pub axes : map each_way (0 ∷ 1 ∷ 33 ∷ 128 ∷ 129 ∷ [])
    ≡ (true ∷ true ∷ true ∷ [])
    ∷ (false ∷ false ∷ false ∷ [])
    ∷ (false ∷ false ∷ false ∷ [])
    ∷ (false ∷ false ∷ false ∷ [])
    ∷ (true ∷ true ∷ true ∷ [])
    ∷ []
unfolding bad_axes
axes = refl

-- 2: a grid of one voxel whose edge along x is 1/1024, and one whose edge is the float below it; no axis may run backwards
abbrev corners : ℕ → Corners
corners x = record { min = vec zero32 zero32 zero32; max = vec (lit x) one32 one32 }

pub grids : map (λ (x : ℕ). bad_grid (corners x) (record { width = 1; height = 1; depth = 1 })) (0x3a800000 ∷ 0x3a7fffff ∷ 0xbf800000 ∷ 0x45800000 ∷ 0x45800001 ∷ []) ≡ false ∷ true ∷ true ∷ false ∷ true ∷ []
unfolding bad_corners bad_edges edges_of outside_v within of_bits neg add sub div lt le eq of_int
grids = refl

-- 3: for two triangles eighteen numbers, not one less, one more or eight more; none for none
pub shares : map (λ (len : ℕ). wrong_share 9 len 2) (17 ∷ 18 ∷ 19 ∷ 26 ∷ 27 ∷ []) ≡ true ∷ false ∷ true ∷ true ∷ true ∷ []
unfolding wrong_share
shares = refl

pub no_share : wrong_share 9 0 0 ≡ false
unfolding wrong_share
no_share = refl

-- 4
pub count_figures : too_many 4096 256 ∷ too_many 4097 256 ∷ too_many 4096 257 ∷ too_many 0 0 ∷ [] ≡ false ∷ true ∷ true ∷ false ∷ []
unfolding too_many
count_figures = refl

-- 5: the third number of a point is 4,096, the next float, and NaN
pub point_figures : map (λ (x : ℕ). bad_points (zero32 ∷ zero32 ∷ lit x ∷ [])) (0x45800000 ∷ 0x45800001 ∷ 0x7fc00000 ∷ []) ≡ false ∷ true ∷ true ∷ []
unfolding bad_points some within of_bits neg lt le eq
point_figures = refl

-- 6: a good material; a panel; a kind of 3; a use past the list; a use where there is no material; the transmission just above 1; a colour just above 65,536
abbrev material : ℕ → ℕ → List Float
material colour transmission = lit colour ∷ zero32 ∷ zero32 ∷ zero32 ∷ zero32 ∷ zero32 ∷ lit transmission ∷ []

pub materials : bad_materials (0 ∷ []) (1 ∷ []) (material 0x47800000 0x3f800000)
    ∷ bad_materials (0 ∷ []) (2 ∷ []) (material 0 0)
    ∷ bad_materials (0 ∷ []) (3 ∷ []) (material 0 0)
    ∷ bad_materials (1 ∷ []) (0 ∷ []) (material 0 0)
    ∷ bad_materials (0 ∷ []) [] []
    ∷ bad_materials [] (0 ∷ []) (material 0 0x3f800001)
    ∷ bad_materials [] (0 ∷ []) (material 0x47800001 0)
    ∷ bad_materials [] [] []
    ∷ []
    ≡ false ∷ false ∷ true ∷ true ∷ true ∷ true ∷ true ∷ false ∷ []
unfolding bad_materials bad_kinds bad_from bad_uses some up_to within of_bits neg lt le eq
materials = refl

-- 7: no direction; 1e-6, whose squared length is 1e-12 and not above it; the next float up; 4,096 and the next float; NaN
pub direction_figures : map (λ (x : ℕ). bad_direction (vec (lit x) zero32 zero32)) (0 ∷ 0x358637bd ∷ 0x358637be ∷ 0x45800000 ∷ 0x45800001 ∷ 0x7fc00000 ∷ []) ≡ true ∷ true ∷ false ∷ false ∷ true ∷ true ∷ []
unfolding bad_direction outside_v dot_v within of_bits neg add mul lt le eq
direction_figures = refl

-- 8: no direction at all is accepted, and so is every longest distance but NaN
abbrev ray : ℕ → ℕ → Ray
ray shortest longest =
    record { origin = vec zero32 zero32 zero32; direction = vec zero32 zero32 zero32; shortest = lit shortest; longest = lit longest }

pub rays : bad_ray (ray 0 0x7f800000)
    ∷ bad_ray (ray 0x80000000 0xff800000)
    ∷ bad_ray (ray 0x47800000 0)
    ∷ bad_ray (ray 0x47800001 0)
    ∷ bad_ray (ray 0x80000001 0)
    ∷ bad_ray (ray 0 0x7fc00000)
    ∷ []
    ≡ false ∷ false ∷ false ∷ true ∷ true ∷ true ∷ []
unfolding bad_ray outside_v within up_to of_bits neg lt le eq is_nan
rays = refl

-- 9: next at the count of three voxels, and one above it; of the rays so far see `progress_judged` of the crate intake
pub progress_figures : map (λ (p : ℕ). past_count p 3) (0 ∷ 3 ∷ 4 ∷ []) ≡ false ∷ false ∷ true ∷ []
progress_figures = refl

-- 11: a position of 4,096, of the float below −4,096, and of infinity; and the last of three voxels, and the one past it
pub position_figures : map (λ (x : ℕ). bad_position (vec zero32 (lit x) zero32)) (0x45800000 ∷ 0xc5800001 ∷ 0x7f800000 ∷ []) ≡ false ∷ true ∷ true ∷ []
unfolding outside_v within of_bits neg lt le eq
position_figures = refl

pub index_figures : map (λ (i : ℕ). past_grid i 3) (2 ∷ 3 ∷ []) ≡ false ∷ true ∷ []
index_figures = refl

-- a file's mask: 0 and 1, and nothing else
pub masks : map (λ (n : ℕ). bad_mask (0 ∷ 1 ∷ n ∷ [])) (0 ∷ 1 ∷ 2 ∷ 255 ∷ []) ≡ false ∷ false ∷ true ∷ true ∷ []
unfolding bad_mask some
masks = refl

-- 10: with no lamp 384 and 383, with one 448 and 447, with eight 896 and 895
pub allowance_figures : below_cost 0 384 ∷ below_cost 0 383 ∷ below_cost 1 448 ∷ below_cost 1 447 ∷ below_cost 8 896 ∷ below_cost 8 895 ∷ []
    ≡ false ∷ true ∷ false ∷ true ∷ false ∷ true ∷ []
allowance_figures = refl

-- 19: no lamp, eight lamps and nine
pub lamp_counts : map (λ (n : ℕ). bad_lamps (replicate n zero32)) (0 ∷ 48 ∷ 54 ∷ []) ≡ false ∷ false ∷ true ∷ []
unfolding bad_lamps bad_lamp lamp_at any outside_v within of_bits neg lt le eq
lamp_counts = refl

-- 19: a position of ±4,096, the next floats and NaN; a colour of ±65,536, the next floats and an infinity; −0 passes
abbrev lamp_of : ℕ → ℕ → List Float
lamp_of position colour = zero32 ∷ lit position ∷ zero32 ∷ zero32 ∷ zero32 ∷ lit colour ∷ []

pub lamp_places : map (λ (bits : ℕ). bad_lamps (lamp_of bits 0)) (0x45800000 ∷ 0xc5800000 ∷ 0x80000000 ∷ 0x45800001 ∷ 0xc5800001 ∷ 0x7fc00000 ∷ [])
    ≡ false ∷ false ∷ false ∷ true ∷ true ∷ true ∷ []
unfolding bad_lamps bad_lamp lamp_at any outside_v within of_bits neg lt le eq
lamp_places = refl

pub lamp_colours : map (λ (bits : ℕ). bad_lamps (lamp_of 0 bits)) (0x47800000 ∷ 0xc7800000 ∷ 0x80000000 ∷ 0x47800001 ∷ 0xc7800001 ∷ 0x7f800000 ∷ [])
    ≡ false ∷ false ∷ false ∷ true ∷ true ∷ true ∷ []
unfolding bad_lamps bad_lamp lamp_at any outside_v within of_bits neg lt le eq
lamp_colours = refl

-- 3: numbers left over
pub lamp_lengths : map wrong_lamps (0 ∷ 6 ∷ 48 ∷ 5 ∷ 7 ∷ []) ≡ false ∷ false ∷ false ∷ true ∷ true ∷ []
lamp_lengths = refl
