-- The contract leaves one result, a call is refused by row k exactly when that row holds and none before it, an accepted call has masks that fit its
-- grid, the entries of the words it leaves are the masks of entries, its bits say which voxels are occupied and which active, and a good call is accepted.
use Rattle.std.specs.Prelude.{◌≡◌, refl, true, false, ◌↔◌, ◌⊎◌, List, [], ◌∷◌, ℕ, ◌%◌, ◌≤◌, ◌<◌, length, get_or, Float}
use Rattle.std.proofs.Common.{sym, ap, ◌∙◌, inl, inr, ⊎_elim, arith, eqb-true, eq-eqb}
use Rattle.std.proofs.Math.ListN.{get_or-eq_default}
use Rattle.std.specs.Float.Ieee as Ieee
use Rattle.std.proofs.lemmas.Bool.{not-false}
use Rattle.names.specs.Bits.{zero32, one32}
use Rattle.names.specs.Refusals.{first_of, Numbered, RefusedBy, refused_by, kept, given}
use Rattle.lists.specs.Fold.{tab}
use Rattle.lists.specs.Any.{any}
use Rattle.floats.specs.Root.{root_of}
use Rattle.floats.specs.Whole.{toward}
use Rattle.floats.specs.Choice.{larger_of, smaller_of}
use Rattle.vectors.specs.Vectors.{vec, add_v, sub_v, scale_v, dot_v, cross_v, length_v}
use Rattle.grid.specs.declared.Axes.{Axes}
use Rattle.grid.specs.declared.Corners.{Corners}
use Rattle.grid.specs.Grid.{voxels, AxesWithin, x_of, y_of, z_of, edges_of, smallest_edge_of}
use Rattle.limits.specs.Limits.{within, outside_v, bad_axes, bad_corners, bad_edges, wrong_length, too_many, bad_points}
use Rattle.lists.specs.Some.{some}
use Rattle.triangle.specs.Meet.{absent_of}
use Rattle.triangle.specs.Places.{triangle_at}
use Rattle.samples.specs.Samples.{density_of, count_of, side_from, side_of, share_of, point_of, cell_on, index_within, cell_of, sample_cell}
use Rattle.limits.specs.LimitsLaws.{axes_row, any_of_three}
use Rattle.names.specs.Passed.{passed}
use Rattle.marks.specs.Marks.{is_marked, marked_count}
use Rattle.words.specs.Words.{bit_at, entries_of, word_count, packed, words_of, unused_set, AreWords, Holds}
use Rattle.words.specs.BitLaws.{below_or_from}
use Rattle.words.specs.WordsLaws.{AreEntries, entries_at, entries_words, words_tidy, holds_words}
use Rattle.occupy.specs.Occupied.{sampled_in, touches, occupied_in, occupied_entry, occupied_of}
use Rattle.occupy.specs.OccupiedLaws.{Sampled, occupied_length, occupied_at_lem, occupied_entry_lem, occupied_exactly}
use Rattle.dilate.specs.Active.{active_in, active_entry, active_of}
use Rattle.dilate.specs.ActiveLaws.{NearOccupied, active_length_lem, active_at_lem, active_entry_lem, active_near, near_active}
use Rattle.masks.specs.declared.Marked.{Marked}
use Rattle.masks.specs.Masks.{wrong_masks, masks_rows, masks_refusal, active_mask_of, MasksFilled}

-- ---- one result

pub record SameMasks (r r' : Marked) (occupied occupied' active active' : List ℕ) : Type 0 where
  pub same_answer : r ≡ r'
  pub same_occupied : occupied ≡ occupied'
  pub same_active : active ≡ active'

pub masks_filled_once : (axes : Axes) (corners : Corners) (points : List Float) (occupied active : List ℕ) (r₁ r₂ : Marked) (o₁ a₁ o₂ a₂ : List ℕ)
    → MasksFilled axes corners points occupied active r₁ o₁ a₁ → MasksFilled axes corners points occupied active r₂ o₂ a₂
    → SameMasks r₁ r₂ o₁ o₂ a₁ a₂
masks_filled_once axes corners points occupied active r₁ r₂ o₁ a₁ o₂ a₂ p q =
    record {
      same_answer = p.answer ∙ sym q.answer;
      same_occupied = p.occupied_after ∙ sym q.occupied_after;
      same_active = p.active_after ∙ sym q.active_after;
    }

-- ---- k is refused exactly when row k holds and none before it, and a call is accepted exactly when none holds

numbered : (axes : Axes) (corners : Corners) (points : List Float) (occupied active : List ℕ) → Numbered (masks_rows axes corners points occupied active)
numbered axes corners points occupied active = (omega arith, (omega arith, (omega arith, (omega arith, (omega arith, tt)))))

pub masks_refused_by : (axes : Axes) (corners : Corners) (points : List Float) (occupied active : List ℕ) (r : Marked) (occupied' active' : List ℕ)
    → MasksFilled axes corners points occupied active r occupied' active'
    → RefusedBy (masks_rows axes corners points occupied active) r.refusal
unfolding masks_refusal
masks_refused_by axes corners points occupied active r occupied' active' p =
    refused_by (masks_rows axes corners points occupied active) r.refusal (numbered axes corners points occupied active) (ap (λ (m : Marked). m.refusal) p.answer)

-- ---- what an accepted call has

pub record FittingMasks (axes : Axes) (occupied active : List ℕ) : Type 0 where
  pub axes_within : AxesWithin axes
  pub occupied_fits : length occupied ≡ word_count (voxels axes)
  pub active_fits : length active ≡ word_count (voxels axes)

pub masks_fitting : (axes : Axes) (corners : Corners) (points : List Float) (occupied active : List ℕ)
    → masks_refusal axes corners points occupied active ≡ 0
    → FittingMasks axes occupied active
unfolding masks_refusal wrong_masks
masks_fitting axes corners points occupied active e =
    let p = passed (masks_rows axes corners points occupied active) (numbered axes corners points occupied active) e in
    let q =
    (any_of_three (wrong_length (length points % 9) 0) (wrong_length (length occupied) (word_count (voxels axes))) (wrong_length (length active) (word_count (voxels axes)))).0 p.1.1.0
    in
    record {
      axes_within = (axes_row axes).0 p.0;
      occupied_fits = eqb-true _ _ (not-false _ q.1);
      active_fits = eqb-true _ _ (not-false _ q.2);
    }

-- ---- the entry form of an accepted call

-- a mask that has for each voxel an entry of 0 or 1
are_entries : (entries : List ℕ) (n : ℕ) → length entries ≡ n → ((i : ℕ) → i < n → (get_or entries i 0 ≡ 0) ⊎ (get_or entries i 0 ≡ 1)) → AreEntries entries
are_entries entries n l h i = go (below_or_from i n)
  where
    go : (i < n) ⊎ (n ≤ i) → get_or entries i 0 < 2
    go (inl p) = ⊎_elim (λ e. omega arith) (λ e. omega arith) (h i p)
    go (inr p) = omega (arith, get_or-eq_default entries 0 {n = i} (omega arith))

-- is held by its words
words_hold : (entries words : List ℕ) (n : ℕ) → length entries ≡ n → AreEntries entries → words ≡ words_of entries → Holds words n entries
words_hold entries words n l h e =
    rw (e, ← l) (record { tidy = words_tidy entries; same = entries_words entries h })

-- The words that an accepted call leaves: their entries are the masks of one entry a voxel; no unused bit is set, so that no row 13 refuses what a call
-- wrote; and the counts are those of the entries.
pub record EntryForm (axes : Axes) (corners : Corners) (points : List Float) (r : Marked) (occupied' active' : List ℕ) : Type 0 where
  pub occupied_entries : entries_of occupied' (voxels axes) ≡ occupied_of axes corners points
  pub active_entries_is : entries_of active' (voxels axes) ≡ active_mask_of axes corners points
  pub occupied_clean : unused_set occupied' (voxels axes) ≡ false
  pub active_clean : unused_set active' (voxels axes) ≡ false
  pub occupied_count : r.occupied ≡ marked_count (entries_of occupied' (voxels axes))
  pub active_count : r.active ≡ marked_count (entries_of active' (voxels axes))

module _ (axes : Axes) (corners : Corners) (points : List Float) (occupied active : List ℕ) (r : Marked) (occupied' active' : List ℕ)
    (p : MasksFilled axes corners points occupied active r occupied' active') (e : r.refusal ≡ 0) where
  accepted : masks_refusal axes corners points occupied active ≡ 0
  accepted = sym (ap (λ (m : Marked). m.refusal) p.answer) ∙ e

  pub occupied_held : Holds occupied' (voxels axes) (occupied_of axes corners points)
  occupied_held =
      words_hold (occupied_of axes corners points) occupied' (voxels axes) (occupied_length axes corners points)
      (are_entries (occupied_of axes corners points) (voxels axes) (occupied_length axes corners points) (occupied_entry_lem axes corners points))
      (p.occupied_after ∙ rw accepted (sym (given 0 _ occupied refl)))

  pub active_held : Holds active' (voxels axes) (active_mask_of axes corners points)
  active_held =
      let o = occupied_of axes corners points in
      words_hold (active_of axes o) active' (voxels axes) (active_length_lem axes o)
      (are_entries (active_of axes o) (voxels axes) (active_length_lem axes o) (active_entry_lem axes o))
      (p.active_after ∙ rw accepted (sym (given 0 _ active refl)))

  pub masks_entries : EntryForm axes corners points r occupied' active'
  masks_entries =
      record {
        occupied_entries = occupied_held.same;
        active_entries_is = active_held.same;
        occupied_clean = occupied_held.tidy.clean;
        active_clean = active_held.tidy.clean;
        occupied_count = ap (λ (m : Marked). m.occupied) p.answer ∙ rw (accepted, occupied_held.same) (sym (given 0 _ 0 refl));
        active_count = ap (λ (m : Marked). m.active) p.answer ∙ rw (accepted, active_held.same) (sym (given 0 _ 0 refl));
      }

-- ---- what the bits of an accepted call mean

-- bit i is 1 exactly when entry i is marked
bit_marked : (words : List ℕ) (n i : ℕ) → i < n → (bit_at words i ≡ 1) ↔ (is_marked (entries_of words n) i ≡ true)
bit_marked words n i h =
    (λ b. eq-eqb (get_or (entries_of words n) i 0) 1 (entries_at words n i h ∙ b), λ m. sym (entries_at words n i h) ∙ eqb-true (get_or (entries_of words n) i 0) 1 m)

module _ (axes : Axes) (corners : Corners) (points : List Float) (occupied active : List ℕ) (r : Marked) (occupied' active' : List ℕ)
    (p : MasksFilled axes corners points occupied active r occupied' active') (e : r.refusal ≡ 0) (i : ℕ) (h : i < voxels axes) where
  -- voxel i is occupied exactly when a sample of a present triangle falls into it
  pub occupied_means : (bit_at occupied' i ≡ 1) ↔ Sampled axes corners points i
  occupied_means =
      let w = (masks_fitting axes corners points occupied active (accepted axes corners points occupied active r occupied' active' p e)).axes_within in
      let q = occupied_exactly axes corners points i w h in
      let o = occupied_at_lem axes corners points i h in
      let s = (occupied_held axes corners points occupied active r occupied' active' p e).same in
      let b = bit_marked occupied' (voxels axes) i h in
      (λ m. q.0 (sym o ∙ rw s at (b.0 m)), λ k. b.1 (rw s (o ∙ q.1 k)))

  -- and active exactly when some occupied voxel lies within 2 of it on every axis
  pub active_means : (bit_at active' i ≡ 1) ↔ NearOccupied axes (entries_of occupied' (voxels axes)) (x_of axes i) (y_of axes i) (z_of axes i)
  active_means =
      let o = entries_of occupied' (voxels axes) in
      let a = active_at_lem axes o i h in
      let s = (active_held axes corners points occupied active r occupied' active' p e).same ∙ ap (active_of axes) (sym (occupied_held axes corners points occupied active r occupied' active' p e).same) in
      let b = bit_marked active' (voxels axes) i h in
      (λ m. active_near axes o _ _ _ (sym a ∙ rw s at (b.0 m)), λ n. b.1 (rw s (a ∙ near_active axes o _ _ _ n)))

-- ---- how a call meets its contract

pub masks_refused : (axes : Axes) (corners : Corners) (points : List Float) (occupied active : List ℕ) (r : ℕ)
    → r ≡ masks_refusal axes corners points occupied active → (r ≡ 0 → ⊥)
    → MasksFilled axes corners points occupied active (record { refusal = r; occupied = 0; active = 0 }) occupied active
masks_refused axes corners points occupied active r e n =
    record {
      answer =
          rw (← e, ← kept r (marked_count (occupied_of axes corners points)) 0 n, ← kept r (marked_count (active_mask_of axes corners points)) 0 n) refl;
      occupied_after = rw (← e) (kept r _ occupied n);
      active_after = rw (← e) (kept r _ active n);
    }

pub masks_filled : (axes : Axes) (corners : Corners) (points : List Float) (occupied active occupied' active' : List ℕ) (o a : ℕ)
    → 0 ≡ masks_refusal axes corners points occupied active
    → AreWords occupied' → Holds occupied' (voxels axes) (occupied_of axes corners points)
    → AreWords active' → Holds active' (voxels axes) (active_of axes (entries_of occupied' (voxels axes)))
    → o ≡ marked_count (entries_of occupied' (voxels axes)) → a ≡ marked_count (entries_of active' (voxels axes))
    → MasksFilled axes corners points occupied active (record { refusal = 0; occupied = o; active = a }) occupied' active'
masks_filled axes corners points occupied active occupied' active' o a e wo p wa q s t =
    let q' : entries_of active' (voxels axes) ≡ active_mask_of axes corners points = q.same ∙ ap (active_of axes) p.same in
    record {
      answer =
          rw (← e, ← given 0 (marked_count (occupied_of axes corners points)) 0 refl, ← given 0 (marked_count (active_mask_of axes corners points)) 0 refl, ← p.same, s, t, q', p.same) refl;
      occupied_after = rw (← e) (holds_words wo p ∙ given 0 _ occupied refl);
      active_after = rw (← e) (holds_words wa q ∙ ap (λ (l : List ℕ). words_of (active_of axes l)) p.same ∙ given 0 _ active refl);
    }

-- ---- good calls

abbrev axes_of : ℕ → ℕ → ℕ → Axes
axes_of w h d = record { width = w; height = h; depth = d }

-- "P grid 6×1×1, voxel 0 occupied: 0, 1, 2 active."
pub six_active : active_of (axes_of 6 1 1) (1 ∷ 0 ∷ 0 ∷ 0 ∷ 0 ∷ 0 ∷ []) ≡ 1 ∷ 1 ∷ 1 ∷ 0 ∷ 0 ∷ 0 ∷ []
unfolding active_of active_entry active_in any tab
six_active = refl

-- and in a word: the bits of 0, 1 and 2
pub six_word : words_of (1 ∷ 1 ∷ 1 ∷ 0 ∷ 0 ∷ 0 ∷ []) ≡ 7 ∷ []
unfolding words_of packed tab
six_word = refl

-- triangle Q over one voxel of edge 1, from 0 to 1: accepted, also where the masks held unused bits, and its one sample, (.5, .5, 0), marks the voxel
abbrev unit_corners : Corners
unit_corners = record { min = vec zero32 zero32 zero32; max = vec one32 one32 one32 }

abbrev points_q : List Float
points_q = zero32 ∷ zero32 ∷ zero32 ∷ one32 ∷ zero32 ∷ zero32 ∷ zero32 ∷ one32 ∷ zero32 ∷ []

pub q_accepted : masks_refusal (axes_of 1 1 1) unit_corners points_q (7 ∷ []) (9 ∷ []) ≡ 0
unfolding masks_refusal first_of bad_axes bad_corners bad_edges outside_v within edges_of wrong_masks too_many bad_points some Ieee.sub Ieee.add Ieee.neg Ieee.div Ieee.le Ieee.lt Ieee.eq Ieee.of_int Ieee.round Ieee.sum Ieee.units Ieee.odd Ieee.size Ieee.climb Ieee.span Ieee.of_bits Ieee.of_fields
q_accepted = refl

pub q_occupied : occupied_of (axes_of 1 1 1) unit_corners points_q ≡ 1 ∷ []
unfolding occupied_of occupied_entry occupied_in touches sampled_in any tab absent_of triangle_at edges_of smallest_edge_of larger_of smaller_of count_of density_of side_of side_from share_of point_of cell_on index_within cell_of sample_cell length_v cross_v sub_v add_v scale_v dot_v root_of toward Ieee.sub Ieee.add Ieee.neg Ieee.mul Ieee.div Ieee.le Ieee.lt Ieee.eq Ieee.is_nan Ieee.to_unsigned Ieee.of_int Ieee.round Ieee.sum Ieee.units Ieee.odd Ieee.size Ieee.climb Ieee.span Ieee.of_bits Ieee.of_fields
q_occupied = refl
