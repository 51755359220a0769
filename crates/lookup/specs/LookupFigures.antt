-- Document 01's figures of the lookup, computed from the definitions that the public contracts cite: 2×1×1, x from 0 to 2, other axes
-- 0 to 1, y=z=0, light 0, 1: x=−.25 gives .75, .5 gives .5, 1.75 gives 1. They are also inputs that are accepted.
use Rattle.std.specs.Prelude.{◌≡◌, ℕ, Bool, true, false, List, [], ◌∷◌, ◌++◌, map, replicate, refl, Float}
use Rattle.std.specs.Float.{nan}
use Rattle.std.specs.Float.Ieee.{of_bits, neg, add, sub, mul, div, lt, le, eq, of_int, to_unsigned}
use Rattle.names.specs.Bits.{lit, zero32, one32, two32, half32}
use Rattle.names.specs.Refusals.{first_of, unless_refused}
use Rattle.lists.specs.Fold.{tab}
use Rattle.floats.specs.Whole.{toward}
use Rattle.vectors.specs.Vectors.{vec}
use Rattle.grid.specs.declared.Axes.{Axes}
use Rattle.grid.specs.declared.Corners.{Corners}
use Rattle.grid.specs.Grid.{edges_of}
use Rattle.lists.specs.Some.{some}
use Rattle.limits.specs.Limits.{within, outside_v, bad_axes, bad_corners, bad_edges, bad_coefficients}
use Rattle.lookup.specs.declared.LightAt.{LightAt}
use Rattle.lookup.specs.declared.CoefficientsAt.{CoefficientsAt}
use Rattle.lookup.specs.Place.{clamped, clamped_cell, between_of, cells_from, cells_of, blend_of, blended_of}
use Rattle.lookup.specs.Lookup.{bad_light_cells, light_at_of, bad_volume_cells, coefficient_blend, coefficients_at_of, part_of}

abbrev figure_axes : Axes
figure_axes = record { width = 2; height = 1; depth = 1 }

abbrev figure_corners : Corners
figure_corners = record { min = vec zero32 zero32 zero32; max = vec two32 one32 one32 }

abbrev light_figure : ℕ → LightAt
light_figure x = light_at_of figure_axes figure_corners (zero32 ∷ one32 ∷ []) (vec (lit x) zero32 zero32)

abbrev found : ℕ → LightAt
found bits = record { refusal = 0; light = lit bits }

pub light_figures_lem : map light_figure (0xbe800000 ∷ 0x3f000000 ∷ 0x3fe00000 ∷ []) ≡ found 0x3f400000 ∷ found 0x3f000000 ∷ found 0x3f800000 ∷ []
unfolding light_at_of bad_light_cells cells_of cells_from between_of clamped_cell clamped blended_of blend_of edges_of bad_axes bad_corners bad_edges outside_v within some first_of unless_refused toward of_bits neg add sub mul div lt le eq of_int to_unsigned
light_figures_lem = refl

-- just below the grid, at x=−1e-9, the fraction rounds to 1 and the next cell answers alone
pub just_below : light_figure 0xb089705f ≡ found 0x3f800000
unfolding light_at_of bad_light_cells cells_of cells_from between_of clamped_cell clamped blended_of blend_of edges_of bad_axes bad_corners bad_edges outside_v within some first_of unless_refused toward of_bits neg add sub mul div lt le eq of_int to_unsigned
just_below = refl

-- 13 is given for the cells read and no others: of three lights the last is NaN, and only the second position reads it
abbrev three_lights : ℕ → LightAt
three_lights x =
    light_at_of (record { width = 3; height = 1; depth = 1 }) (record { min = vec zero32 zero32 zero32; max = vec (lit 0x40400000) one32 one32 })
    (zero32 ∷ one32 ∷ nan ∷ [])
    (vec (lit x) zero32 zero32)

pub read_only : map three_lights (0x3f000000 ∷ 0x3fc00000 ∷ []) ≡ found 0x3f000000 ∷ record { refusal = 13; light = zero32 } ∷ []
unfolding light_at_of bad_light_cells cells_of cells_from between_of clamped_cell clamped blended_of blend_of edges_of bad_axes bad_corners bad_edges outside_v within some first_of unless_refused toward of_bits neg add sub mul div lt le eq of_int to_unsigned
read_only = refl

-- the other refusals, lowest first: an axis of 129 (with a light list that is wrong too), a flat grid, a light too many, a position past 4,096
abbrev refused_light : Axes → Corners → List Float → ℕ → ℕ
refused_light a c light x = (light_at_of a c light (vec (lit x) zero32 zero32)).refusal

pub light_refusals : refused_light (record { width = 129; height = 1; depth = 1 }) figure_corners [] 0
    ∷ refused_light figure_axes (record { min = vec zero32 zero32 zero32; max = vec zero32 one32 one32 }) [] 0
    ∷ refused_light figure_axes figure_corners (zero32 ∷ one32 ∷ one32 ∷ []) 0x7fc00000
    ∷ refused_light figure_axes figure_corners (zero32 ∷ nan ∷ []) 0x45800001
    ∷ []
    ≡ 1 ∷ 2 ∷ 3 ∷ 11 ∷ []
unfolding light_at_of bad_light_cells cells_of cells_from between_of clamped_cell clamped blended_of blend_of edges_of bad_axes bad_corners bad_edges outside_v within some first_of unless_refused toward of_bits neg add sub mul div lt le eq of_int to_unsigned
light_refusals = refl

-- the four coefficients, all 0 in one voxel and all 1 in the other: each of the sixteen numbers is the light's figure
abbrev coefficient_figure : ℕ → CoefficientsAt
coefficient_figure x = coefficients_at_of figure_axes figure_corners (replicate 16 zero32 ++ replicate 16 one32) (vec (lit x) zero32 zero32)

pub coefficient_figures : map coefficient_figure (0xbe800000 ∷ 0x3f000000 ∷ 0x3fe00000 ∷ [])
    ≡ record { refusal = 0; numbers = replicate 16 (lit 0x3f400000) }
    ∷ record { refusal = 0; numbers = replicate 16 (lit 0x3f000000) }
    ∷ record { refusal = 0; numbers = replicate 16 (lit 0x3f800000) }
    ∷ []
unfolding coefficients_at_of coefficient_blend bad_volume_cells bad_coefficients tab cells_of cells_from between_of clamped_cell clamped blended_of blend_of edges_of bad_axes bad_corners bad_edges outside_v within some first_of unless_refused toward of_bits neg add sub mul div lt le eq of_int to_unsigned
coefficient_figures = refl

-- voxel 1 of two, of the volume and of scratch; voxel 2 is past the grid
abbrev part_figure : ℕ → Bool → List Float
part_figure index unblurred =
    part_of figure_axes (replicate 16 zero32 ++ replicate 16 one32) (replicate 16 two32 ++ replicate 16 half32) index unblurred

pub part_figures : part_figure 1 false ∷ part_figure 1 true ∷ part_figure 2 false ∷ [] ≡ replicate 16 one32 ∷ replicate 16 half32 ∷ [] ∷ []
unfolding part_of bad_axes first_of unless_refused
part_figures = refl
