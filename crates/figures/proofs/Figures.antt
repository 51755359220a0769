-- The figures hold: every answer of specs/Figures.antt is the one that is given for it.
use Rattle.std.specs.Prelude.{◌≡◌, refl, List, ◌++◌, ℕ}
use Rattle.std.proofs.Common.{ap₂}
use Rattle.std.specs.Float.Ieee as Ieee
use Rattle.std.specs.Float.Ieee.{to_bits}
use Rattle.names.specs.Refusals.{first_of, unless_refused}
use Rattle.lists.specs.Fold.{fold, tab}
use Rattle.lists.specs.Any.{any}
use Rattle.floats.specs.Choice.{magnitude_of, larger_of, smaller_of}
use Rattle.floats.specs.Whole.{toward}
use Rattle.floats.specs.Root.{root_of}
use Rattle.vectors.specs.Vectors.{add_v, sub_v, scale_v, dot_v, cross_v, length_v}
use Rattle.grid.specs.Grid.{edges_of, smallest_edge_of}
use Rattle.limits.specs.Limits.{within, up_to, outside_v, bad_axes, bad_corners, bad_edges, wrong_share, wrong_scene, too_many, bad_points, bad_triangle, bad_kinds, bad_from, bad_uses, bad_materials, bad_ray, bad_lights}
use Rattle.tree.specs.Trees.{not_accepted}
use Rattle.lists.specs.Some.{some}
use Rattle.triangle.specs.Meet.{absent_of, solved_of, front_of, judged_of, meet_of}
use Rattle.triangle.specs.Places.{triangle_at}
use Rattle.panels.specs.Panels.{counts, stops_light, counted_of, met_at, met_by}
use Rattle.hits.specs.Hits.{before, insert_of, with_meet, hits_of}
use Rattle.scan.specs.Transmittance.{pass_of, transmittance_of}
use Rattle.rays.specs.Rays.{meet_refusal, values_of_test, meet_values, wrong_scratch, transmittance_refusal}
use Rattle.means.specs.Box.{light_blur_of, square_at, mean_at, mean_in, around, along}
use Rattle.blurs.specs.Blurs.{wrong_blur_lists, light_blur_refusal}
use Rattle.samples.specs.Samples.{density_of, count_of, side_from, side_of, share_of, point_of, cell_of, cell_on, index_within, sample_cell}
use Rattle.occupy.specs.Occupied.{sampled_in, touches, occupied_in, occupied_entry, occupied_of}
use Rattle.dilate.specs.Active.{active_in, active_entry, active_of}
use Rattle.marks.specs.Marks.{marked_count}
use Rattle.words.specs.Words.{packed, words_of}
use Rattle.masks.specs.Masks.{wrong_masks, masks_refusal}
use Rattle.lookup.specs.Place.{clamped, clamped_cell, between_of, cells_from, cells_of, blend_of, blended_of}
use Rattle.lookup.specs.Lookup.{bad_light_cells, light_at_of}
use Rattle.demand.proofs.Figure.{figure_384, figure_448, figure_383}
use Rattle.figures.specs.Figures.{triangle_q, points_q, down_from, meet_answer, stacked, sheets, passing, up_to_corner, sampled, masked, blur_answer, looked, bake_answers, computed, bakes, answers, givens}

computed_figures : answers computed ≡ givens computed
unfolding computed meet_answer passing sampled masked blur_answer looked triangle_q points_q down_from stacked sheets up_to_corner first_of unless_refused fold tab any magnitude_of larger_of smaller_of toward root_of add_v sub_v scale_v dot_v cross_v length_v edges_of within up_to outside_v bad_axes bad_corners bad_edges wrong_share wrong_scene too_many bad_points bad_triangle bad_kinds bad_from bad_uses bad_materials bad_ray bad_lights some absent_of solved_of front_of judged_of meet_of triangle_at counts stops_light counted_of met_at met_by before insert_of with_meet hits_of pass_of transmittance_of meet_refusal values_of_test meet_values wrong_scratch transmittance_refusal light_blur_of square_at mean_at mean_in around along wrong_blur_lists light_blur_refusal smallest_edge_of density_of count_of side_from side_of share_of point_of cell_on index_within cell_of sample_cell sampled_in touches occupied_in occupied_entry occupied_of active_in active_entry active_of marked_count packed words_of wrong_masks masks_refusal clamped clamped_cell between_of cells_from cells_of blend_of blended_of bad_light_cells light_at_of Ieee.of_bits Ieee.of_fields Ieee.odd Ieee.to_bits Ieee.neg Ieee.le Ieee.lt Ieee.eq Ieee.is_nan Ieee.add Ieee.sub Ieee.mul Ieee.div Ieee.of_int Ieee.to_unsigned Ieee.round Ieee.sum Ieee.units Ieee.size Ieee.span Ieee.climb not_accepted
computed_figures = refl

bake_figures : answers bakes ≡ givens bakes
unfolding bakes bake_answers
bake_figures =
    rw (
      figure_384.0,
      figure_384.1,
      figure_384.2,
      figure_448.0,
      figure_448.1,
      figure_448.2,
      figure_383.0,
      figure_383.1,
      figure_383.2,
    )
    refl

-- every answer is the one given
pub figures : answers (computed ++ bakes) ≡ givens (computed ++ bakes)
unfolding computed bakes
figures = ap₂ (λ (a b : List (List ℕ)). a ++ b) computed_figures bake_figures
