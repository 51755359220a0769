-- Document 01's file of 166 bytes: 1 by 1 by 1, light.25, zero coefficients, masks 1, corners 0,0,0 and 1,1,1. In words each mask is the one word 1. Each call that
-- reads a file accepts it, its figures are 1 1 1 1 1 0, the writer accepts what it holds, asks for 166 bytes and writes it. The empty input is
-- refused 12. All by computation.
use Rattle.std.specs.Prelude.{◌≡◌, refl, Bool, false, List, [], ◌∷◌, ℕ, ltb, length, replicate, Float}
use Rattle.std.proofs.Common.{ap}
use Rattle.std.specs.Float.Ieee as Ieee
use Rattle.names.specs.Bits.{lit, zero32, one32}
use Rattle.names.specs.Numbers.{figures_limit}
use Rattle.names.specs.Refusals.{row, first_of}
use Rattle.lists.specs.Fold.{fold, tab}
use Rattle.vectors.specs.Vectors.{vec}
use Rattle.grid.specs.declared.Axes.{Axes}
use Rattle.grid.specs.declared.Corners.{Corners}
use Rattle.grid.specs.Grid.{voxels, edges_of}
use Rattle.lists.specs.Some.{some}
use Rattle.lists.specs.Any.{any}
use Rattle.limits.specs.Limits.{within, outside_v, bad_axes, bad_corners, bad_edges, bad_mask, bad_lights, bad_coefficients}
use Rattle.marks.specs.Marks.{marked_count}
use Rattle.words.specs.Words.{entries_of, packed, words_of, unused_set}
use Rattle.bytes_le.specs.Bytes.{f32_at, encode}
use Rattle.contents.specs.Contents.{marked, headed, kind_of, body_fits, entry_good, contents_from, offset_at}
use Rattle.volume_file.specs.VolumeFile.{voxels_at, light_at, volume_at, active_at, occupied_at, corners_at, bad_bodies, faulty}
use Rattle.volume_write.specs.FileBytes.{bytes_for, contents_of, file_bytes}
use Rattle.volume.specs.Volume.{head_answer, file_refusal, needed_refusal, read_refusal, figures_refusal, figures_answer, zero_count, wrong_volume_lists, wrong_bytes, bad_lists, write_refusal}

pub smallest : List ℕ
smallest =
    86 ∷ 71 ∷ 82 ∷ 68 ∷ 1 ∷ 0 ∷ 1 ∷ 0 ∷ 1 ∷ 0 ∷ 5 ∷ 0 ∷ 1 ∷ 0 ∷ 0 ∷ 0 ∷ 72 ∷ 0 ∷ 0 ∷ 0 ∷ 4 ∷ 0 ∷ 0 ∷ 0 ∷ 2 ∷ 0 ∷ 0 ∷ 0 ∷ 76 ∷ 0 ∷ 0 ∷ 0 ∷ 64 ∷ 0 ∷ 0 ∷ 0 ∷ 3 ∷ 0 ∷ 0 ∷ 0 ∷ 140 ∷ 0 ∷ 0 ∷ 0 ∷ 1 ∷ 0 ∷ 0 ∷ 0 ∷ 4 ∷ 0 ∷ 0 ∷ 0 ∷ 141 ∷ 0 ∷ 0 ∷ 0 ∷ 1 ∷ 0 ∷ 0 ∷ 0 ∷ 5 ∷ 0 ∷ 0 ∷ 0 ∷ 142 ∷ 0 ∷ 0 ∷ 0 ∷ 24 ∷ 0 ∷ 0 ∷ 0 ∷ 0 ∷ 0 ∷ 128 ∷ 62 ∷ 0 ∷ 0 ∷ 0 ∷ 0 ∷ 0 ∷ 0 ∷ 0 ∷ 0 ∷ 0 ∷ 0 ∷ 0 ∷ 0 ∷ 0 ∷ 0 ∷ 0 ∷ 0 ∷ 0 ∷ 0 ∷ 0 ∷ 0 ∷ 0 ∷ 0 ∷ 0 ∷ 0 ∷ 0 ∷ 0 ∷ 0 ∷ 0 ∷ 0 ∷ 0 ∷ 0 ∷ 0 ∷ 0 ∷ 0 ∷ 0 ∷ 0 ∷ 0 ∷ 0 ∷ 0 ∷ 0 ∷ 0 ∷ 0 ∷ 0 ∷ 0 ∷ 0 ∷ 0 ∷ 0 ∷ 0 ∷ 0 ∷ 0 ∷ 0 ∷ 0 ∷ 0 ∷ 0 ∷ 0 ∷ 0 ∷ 0 ∷ 0 ∷ 0 ∷ 0 ∷ 0 ∷ 0 ∷ 0 ∷ 0 ∷ 1 ∷ 1 ∷ 0 ∷ 0 ∷ 0 ∷ 0 ∷ 0 ∷ 0 ∷ 0 ∷ 0 ∷ 0 ∷ 0 ∷ 0 ∷ 0 ∷ 0 ∷ 0 ∷ 128 ∷ 63 ∷ 0 ∷ 0 ∷ 128 ∷ 63 ∷ 0 ∷ 0 ∷ 128 ∷ 63 ∷ []

pub one_voxel_lem : Axes
one_voxel_lem = record { width = 1; height = 1; depth = 1 }

pub unit_cube : Corners
unit_cube = record { min = vec zero32 zero32 zero32; max = vec one32 one32 one32 }

pub quarter : Float
quarter = lit 0x3e800000

pub smallest_offsets : (offset_at smallest 0 ≡ 72) × (offset_at smallest 1 ≡ 76) × (offset_at smallest 2 ≡ 140) × (offset_at smallest 3 ≡ 141) × (offset_at smallest 4 ≡ 142)
unfolding smallest
smallest_offsets = (refl, refl, refl, refl, refl)

-- the judge accepts it, and so does each call that reads a file
pub smallest_sound : faulty smallest ≡ false
unfolding smallest faulty headed marked contents_from entry_good kind_of body_fits bad_axes bad_bodies corners_at f32_at tab some within outside_v bad_corners bad_edges edges_of bad_mask bad_lights bad_coefficients Ieee.of_bits Ieee.neg Ieee.le Ieee.lt Ieee.eq Ieee.sub Ieee.div Ieee.add Ieee.of_int
smallest_sound = refl

pub smallest_accepted : figures_refusal smallest ≡ 0
unfolding smallest figures_refusal first_of
smallest_accepted = ap (λ (b : Bool). first_of (row 14 (ltb figures_limit (length smallest)) ∷ row 12 b ∷ [])) smallest_sound

pub smallest_axes_accepted : file_refusal smallest ≡ 0
unfolding file_refusal first_of
smallest_axes_accepted = ap (λ (b : Bool). first_of (row 12 b ∷ [])) smallest_sound

pub smallest_read_accepted : read_refusal smallest (zero32 ∷ []) (replicate 16 zero32) (0 ∷ []) (0 ∷ []) ≡ 0
unfolding smallest read_refusal first_of wrong_volume_lists
smallest_read_accepted = ap (λ (b : Bool). first_of (row 12 b ∷ row 3 (wrong_volume_lists (voxels_at smallest) 1 16 1 1) ∷ [])) smallest_sound

-- what they answer and fill
pub smallest_head : head_answer smallest ≡ record { refusal = 0; axes = one_voxel_lem; corners = unit_cube }
unfolding smallest one_voxel_lem unit_cube head_answer corners_at f32_at Ieee.of_bits
smallest_head = refl

pub smallest_read : (light_at smallest ≡ quarter ∷ []) × (volume_at smallest ≡ replicate 16 zero32) × (active_at smallest ≡ 1 ∷ []) × (occupied_at smallest ≡ 1 ∷ [])
unfolding smallest quarter tab f32_at Ieee.of_bits
smallest_read = (refl, refl, refl, refl)

pub smallest_masks : (words_of (active_at smallest) ≡ 1 ∷ []) × (words_of (occupied_at smallest) ≡ 1 ∷ [])
unfolding smallest words_of packed tab
smallest_masks = (refl, refl)

pub smallest_figures : figures_answer smallest ≡ record { refusal = 0; width = 1; height = 1; depth = 1; occupied = 1; active = 1; zeros = 0 }
unfolding smallest figures_answer zero_count marked_count fold tab f32_at Ieee.of_bits Ieee.eq
smallest_figures = refl

-- the bytes that the writer asks for
pub smallest_needed : (needed_refusal one_voxel_lem ≡ 0) × (bytes_for (voxels one_voxel_lem) ≡ 166)
unfolding one_voxel_lem needed_refusal first_of bad_axes
smallest_needed = (refl, refl)

pub smallest_written : file_bytes one_voxel_lem unit_cube (quarter ∷ []) (replicate 16 zero32) (entries_of (1 ∷ []) (voxels one_voxel_lem)) (entries_of (1 ∷ []) (voxels one_voxel_lem)) ≡ smallest
unfolding smallest one_voxel_lem unit_cube quarter file_bytes contents_of entries_of tab encode Ieee.to_bits Ieee.of_bits
smallest_written = refl

pub smallest_writable : write_refusal one_voxel_lem unit_cube (quarter ∷ []) (replicate 16 zero32) (1 ∷ []) (1 ∷ []) (replicate 166 0) ≡ 0
unfolding one_voxel_lem unit_cube quarter write_refusal first_of bad_axes wrong_volume_lists wrong_bytes bad_lists unused_set any some within outside_v bad_corners bad_edges edges_of bad_lights bad_coefficients Ieee.of_bits Ieee.neg Ieee.le Ieee.lt Ieee.eq Ieee.sub Ieee.div Ieee.add Ieee.of_int
smallest_writable = refl

-- with the bit of a second voxel set, which there is not, it is refused 13
pub unused_refused : write_refusal one_voxel_lem unit_cube (quarter ∷ []) (replicate 16 zero32) (1 ∷ []) (2 ∷ []) (replicate 166 0) ≡ 13
unfolding one_voxel_lem unit_cube quarter write_refusal first_of bad_axes wrong_volume_lists wrong_bytes bad_lists unused_set any some within outside_v bad_corners bad_edges edges_of bad_lights bad_coefficients Ieee.of_bits Ieee.neg Ieee.le Ieee.lt Ieee.eq Ieee.sub Ieee.div Ieee.add Ieee.of_int
unused_refused = refl

pub empty_refused : figures_refusal [] ≡ 12
unfolding figures_refusal first_of faulty headed
empty_refused = refl
