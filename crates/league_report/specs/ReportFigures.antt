-- Inputs with their reports, by computation. The file is document 01's of 166 bytes, 1 by 1 by 1, with another light.
use Rattle.std.specs.Prelude.{◌≡◌, refl, List, [], ◌∷◌, ◌++◌, ℕ, replicate}
use Rattle.std.specs.Float.Ieee as Ieee
use Rattle.names.specs.Refusals.{first_of}
use Rattle.lists.specs.Fold.{tab}
use Rattle.lists.specs.Some.{some}
use Rattle.grid.specs.Grid.{edges_of}
use Rattle.limits.specs.Limits.{within, up_to, outside_v, bad_axes, bad_corners, bad_edges, bad_mask, bad_lights, bad_coefficients}
use Rattle.bytes_le.specs.Bytes.{f32_at, bytes4}
use Rattle.contents.specs.Contents.{marked, headed, kind_of, body_fits, entry_good, contents_from}
use Rattle.volume_file.specs.VolumeFile.{light_at, corners_at, bad_bodies, faulty}
use Rattle.light_units.specs.Units.{units_of, light_outside}
use Rattle.light_figures.specs.LightFigures.{band_of, sum_of, lowest_from, lowest_of, highest_of, in_band, figures_of, units_each, light_figures}
use Rattle.league_report.specs.FileLights.{lights_refusal}
use Rattle.league_report.specs.Report.{all_lights, league_of, opening_of, figures, after_file, after_opening, report_from, report_of}

-- a file of one voxel whose light has this pattern
pub lit_file : ℕ → List ℕ
lit_file bits =
    (86 ∷ 71 ∷ 82 ∷ 68 ∷ 1 ∷ 0 ∷ 1 ∷ 0 ∷ 1 ∷ 0 ∷ 5 ∷ 0 ∷ 1 ∷ 0 ∷ 0 ∷ 0 ∷ 72 ∷ 0 ∷ 0 ∷ 0 ∷ 4 ∷ 0 ∷ 0 ∷ 0 ∷ 2 ∷ 0 ∷ 0 ∷ 0 ∷ 76 ∷ 0 ∷ 0 ∷ 0 ∷ 64 ∷ 0 ∷ 0 ∷ 0 ∷ 3 ∷ 0 ∷ 0 ∷ 0 ∷ 140 ∷ 0 ∷ 0 ∷ 0 ∷ 1 ∷ 0 ∷ 0 ∷ 0 ∷ 4 ∷ 0 ∷ 0 ∷ 0 ∷ 141 ∷ 0 ∷ 0 ∷ 0 ∷ 1 ∷ 0 ∷ 0 ∷ 0 ∷ 5 ∷ 0 ∷ 0 ∷ 0 ∷ 142 ∷ 0 ∷ 0 ∷ 0 ∷ 24 ∷ 0 ∷ 0 ∷ 0 ∷ [])
    ++ bytes4 bits
    ++ replicate 64 0
    ++ (1 ∷ 1 ∷ [])
    ++ replicate 12 0
    ++ (0 ∷ 0 ∷ 128 ∷ 63 ∷ 0 ∷ 0 ∷ 128 ∷ 63 ∷ 0 ∷ 0 ∷ 128 ∷ 63 ∷ [])

-- a light of 1 is counted, in the last band; the float above it is refused 18, and no bytes are refused 12
pub one_accepted : lights_refusal (lit_file 0x3f800000) ≡ 0
unfolding lit_file lights_refusal first_of faulty headed marked contents_from entry_good kind_of body_fits bad_axes bad_bodies corners_at f32_at tab some within up_to light_outside outside_v bad_corners bad_edges edges_of bad_mask bad_lights bad_coefficients Ieee.of_bits Ieee.neg Ieee.le Ieee.lt Ieee.eq Ieee.sub Ieee.div Ieee.add Ieee.of_int
one_accepted = refl

pub one_figures : light_figures (light_at (lit_file 0x3f800000)) ≡ record { voxels = 1; sum = 16777216; lowest = 16777216; highest = 16777216; bands = replicate 15 0 ++ 1 ∷ [] }
unfolding lit_file f32_at tab units_of band_of sum_of lowest_from lowest_of highest_of in_band figures_of units_each Ieee.of_bits
one_figures = refl

pub above_refused : lights_refusal (lit_file 0x3f800001) ≡ 18
unfolding lit_file lights_refusal first_of faulty headed marked contents_from entry_good kind_of body_fits bad_axes bad_bodies corners_at f32_at tab some within up_to light_outside outside_v bad_corners bad_edges edges_of bad_mask bad_lights bad_coefficients Ieee.of_bits Ieee.neg Ieee.le Ieee.lt Ieee.eq Ieee.sub Ieee.div Ieee.add Ieee.of_int
above_refused = refl

pub bad_refused : lights_refusal [] ≡ 12
unfolding lights_refusal first_of faulty headed
bad_refused = refl

-- lights of 1 and 1/16, a file each: two lines and the last
pub two_files :
    report_of (bytes4 166 ++ lit_file 0x3f800000 ++ bytes4 166 ++ lit_file 0x3d800000)
    ≡ figures 1 (record { voxels = 1; sum = 16777216; lowest = 16777216; highest = 16777216; bands = replicate 15 0 ++ 1 ∷ [] })
    ∷ figures 2 (record { voxels = 1; sum = 1048576; lowest = 1048576; highest = 1048576; bands = 0 ∷ 1 ∷ replicate 14 0 })
    ∷ figures 2 (record { voxels = 2; sum = 17825792; lowest = 1048576; highest = 16777216; bands = 0 ∷ 1 ∷ replicate 13 0 ++ 1 ∷ [] })
    ∷ []
unfolding lit_file report_from after_opening after_file opening_of league_of all_lights lights_refusal first_of faulty headed marked contents_from entry_good kind_of body_fits bad_axes bad_bodies corners_at f32_at tab some within up_to light_outside outside_v bad_corners bad_edges edges_of bad_mask bad_lights bad_coefficients units_of band_of sum_of lowest_from lowest_of highest_of in_band figures_of units_each Ieee.of_bits Ieee.neg Ieee.le Ieee.lt Ieee.eq Ieee.sub Ieee.div Ieee.add Ieee.of_int
two_files = refl
