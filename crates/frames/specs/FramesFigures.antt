-- Frames that are accepted, computed from the definitions that the public contracts cite: 2×3×4 voxels of edge 1, the light of voxel i is i; three
-- positions on the grid's corners, where the single lookup gives the voxel's own light: (1,0,0) voxel 1, (0,2,0) voxel 4, (1,1,3) voxel 21.
-- And frames that are refused, each with its place. (At other positions crate `frame_figures` runs the compiled calls.)
use Rattle.std.specs.Prelude.{◌≡◌, refl, List, [], ◌∷◌, ◌++◌, ℕ, ◌+◌, ◌*◌, ◌/◌, ◌%◌, Float}
use Rattle.std.specs.Float.{nan}
use Rattle.std.specs.Float.Ieee.{of_bits, neg, add, sub, mul, div, lt, le, eq, of_int, to_unsigned}
use Rattle.names.specs.Bits.{lit, zero32, one32, two32}
use Rattle.names.specs.Refusals.{first_of, unless_refused}
use Rattle.lists.specs.Fold.{tab}
use Rattle.floats.specs.Whole.{toward}
use Rattle.vectors.specs.Vectors.{vec}
use Rattle.grid.specs.declared.Axes.{Axes}
use Rattle.grid.specs.declared.Corners.{Corners}
use Rattle.grid.specs.Grid.{float_of, edges_of}
use Rattle.lists.specs.Some.{some}
use Rattle.lists.specs.Laid.{laid}
use Rattle.limits.specs.Limits.{within, outside_v, bad_axes, bad_corners, bad_edges, bad_coefficients, wrong_share}
use Rattle.lookup.specs.Place.{clamped, clamped_cell, between_of, cells_from, cells_of, blend_of, blended_of}
use Rattle.lookup.specs.Lookup.{bad_light_cells, light_at_of, bad_volume_cells, coefficient_blend, coefficients_at_of}
use Rattle.frames.specs.Frames.{wrong_frame, refused_at, least_refused, light_frame_refusal, light_frame_of, coefficient_frame_refusal, coefficient_frame_of}

abbrev hall : Axes
hall = record { width = 2; height = 3; depth = 4 }

abbrev hall_corners : Corners
hall_corners = record { min = vec zero32 zero32 zero32; max = vec two32 (float_of 3) (float_of 4) }

-- the light of voxel i is i; of `spoilt` that of voxel 23 is none
abbrev lights : List Float
lights = tab float_of 24 0

abbrev spoilt : List Float
spoilt = tab float_of 23 0 ++ (nan ∷ [])

abbrev three_positions : List Float
three_positions = one32 ∷ zero32 ∷ zero32 ∷ zero32 ∷ two32 ∷ zero32 ∷ one32 ∷ one32 ∷ float_of 3 ∷ []

pub frame_accepted : light_frame_refusal hall hall_corners lights three_positions 3 ≡ refused_at 0 0
unfolding tab light_frame_refusal least_refused wrong_frame wrong_share bad_light_cells cells_of cells_from between_of clamped_cell clamped blended_of blend_of edges_of bad_axes bad_corners bad_edges outside_v within some first_of unless_refused toward of_bits neg add sub mul div lt le eq of_int to_unsigned
frame_accepted = refl

pub frame_figure : light_frame_of hall hall_corners lights three_positions ≡ float_of 1 ∷ float_of 4 ∷ float_of 21 ∷ []
unfolding tab light_frame_of light_at_of bad_light_cells cells_of cells_from between_of clamped_cell clamped blended_of blend_of edges_of bad_axes bad_corners bad_edges outside_v within some first_of unless_refused toward of_bits neg add sub mul div lt le eq of_int to_unsigned
frame_figure = refl

-- an axis of 0 at place 0; a flat grid; an answer too many; the third position past 4,096; with a light that is none, the third position, which reads it
pub frame_refusals : light_frame_refusal (record { width = 0; height = 3; depth = 4 }) hall_corners lights three_positions 3
    ∷ light_frame_refusal hall (record { min = vec zero32 zero32 zero32; max = vec zero32 one32 one32 }) lights three_positions 3
    ∷ light_frame_refusal hall hall_corners lights three_positions 4
    ∷ light_frame_refusal hall hall_corners spoilt (one32 ∷ zero32 ∷ zero32 ∷ zero32 ∷ two32 ∷ zero32 ∷ lit 0x45800001 ∷ one32 ∷ float_of 3 ∷ []) 3
    ∷ light_frame_refusal hall hall_corners spoilt three_positions 3
    ∷ []
    ≡ refused_at 1 0 ∷ refused_at 2 0 ∷ refused_at 3 0 ∷ refused_at 11 2 ∷ refused_at 13 2 ∷ []
unfolding tab light_frame_refusal least_refused wrong_frame wrong_share bad_light_cells cells_of cells_from between_of clamped_cell clamped blended_of blend_of edges_of bad_axes bad_corners bad_edges outside_v within some first_of unless_refused toward of_bits neg add sub mul div lt le eq of_int to_unsigned
frame_refusals = refl

-- number k of voxel i is 32k + i: the sixteen numbers at voxel 21's corner
abbrev numbers : List Float
numbers = tab (λ (i : ℕ). float_of (i % 16 * 32 + i / 16)) 384 0

pub coefficients_accepted_there : coefficient_frame_refusal hall hall_corners numbers (one32 ∷ one32 ∷ float_of 3 ∷ []) 16 ≡ refused_at 0 0
unfolding tab coefficient_frame_refusal least_refused wrong_frame wrong_share bad_volume_cells bad_coefficients cells_of cells_from between_of clamped_cell clamped blended_of blend_of edges_of bad_axes bad_corners bad_edges outside_v within some first_of unless_refused toward of_bits neg add sub mul div lt le eq of_int to_unsigned
coefficients_accepted_there = refl

pub coefficient_frame_figure : coefficient_frame_of hall hall_corners numbers (one32 ∷ one32 ∷ float_of 3 ∷ []) ≡ tab (λ (k : ℕ). float_of (k * 32 + 21)) 16 0
unfolding tab laid coefficient_frame_of coefficients_at_of coefficient_blend bad_volume_cells bad_coefficients cells_of cells_from between_of clamped_cell clamped blended_of blend_of edges_of bad_axes bad_corners bad_edges outside_v within some first_of unless_refused toward of_bits neg add sub mul div lt le eq of_int to_unsigned
coefficient_frame_figure = refl
