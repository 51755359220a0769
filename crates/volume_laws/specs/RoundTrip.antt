-- What the public calls of a file give back. Written and then read: every bit returns. Read and then written, for a file of kinds 1 to 5: every
-- byte returns. Masks are lent as words and stand in the file as entries; what the reader leaves of them is tidy, so every call that takes a mask takes it.
use Rattle.std.specs.Prelude.{◌≡◌, refl, ◌⊎◌, Bool, true, false, cond, List, ℕ, ◌+◌, ◌*◌, ◌<◌, ◌≤◌, eqb, length, get_or, drop, Float}
use Rattle.std.proofs.Common.{sym, ap, ◌∙◌, subst, inl, inr, arith, eq-eqb, eqb-true, length-drop, length-take-le}
use Rattle.std.proofs.Math.ListN.{get_or-eq_default}
use Rattle.names.specs.Refusals.{first_of, unless_refused, given}
use Rattle.names.specs.Passed.{passed}
use Rattle.lists.specs.Fold.{length_tab}
use Rattle.grid.specs.declared.Axes.{Axes}
use Rattle.grid.specs.declared.Corners.{Corners}
use Rattle.grid.specs.Grid.{voxels}
use Rattle.bytes_le.specs.Bytes.{f32_at, bytes_at}
use Rattle.bytes_le.specs.RoundTrip.{AllFit, AllBytes}
use Rattle.limits.specs.Limits.{bad_axes, bad_grid, bad_lights, bad_coefficients, bad_mask}
use Rattle.limits.specs.LimitsLaws.{either, any_of_three, mask_row}
use Rattle.words.specs.Words.{entries_of, word_count, words_of, unused_set, AreWords, Tidy, Holds}
use Rattle.words.specs.BitLaws.{below_or_from}
use Rattle.words.specs.WordsLaws.{AreEntries, entries_are, entries_length, entries_words, words_entries, words_tidy}
use Rattle.contents.specs.Contents.{axes_at, entries_at, offset_at}
use Rattle.contents.specs.Laid.{Laid}
use Rattle.volume_file.specs.VolumeFile.{voxels_at, light_at, volume_at, active_at, occupied_at, corners_at}
use Rattle.volume_file.specs.VolumeFileLaws.{Accepted, accepted_row, accepted_laid}
use Rattle.volume_write.specs.FileBytes.{bytes_for, corners_list, file_bytes}
use Rattle.volume.specs.declared.Head.{Head}
use Rattle.volume.specs.Volume.{no_head, head_answer, wrong_volume_lists, wrong_bytes, bad_lists, read_rows, read_refusal, VolumeRead, write_rows, write_refusal, VolumeWritten}
use Rattle.volume.specs.VolumeLaws.{lists_row}
use Rattle.volume_laws.specs.Written.{Givens, Back, written_back}
use Rattle.volume_laws.specs.Kept.{kept_back, file_ended}

-- ---- what row 3 and row 13 say

lists_right : (n l v m o : ℕ) → l ≡ n → v ≡ n * 16 → m ≡ word_count n → o ≡ word_count n → wrong_volume_lists n l v m o ≡ false
unfolding wrong_volume_lists
lists_right n l v m o p q r t = rw (eq-eqb l n p, eq-eqb v (n * 16) q, eq-eqb m (word_count n) r, eq-eqb o (word_count n) t) refl

lists_good : (n : ℕ) (l v : List Float) (m o : List ℕ) → bad_lists n l v m o ≡ false → (bad_lights l ≡ false) × (bad_coefficients v ≡ false) × (unused_set m n ≡ false) × (unused_set o n ≡ false)
unfolding bad_lists
lists_good n l v m o e =
    let p = (either _ (unused_set o n)).0 e in
    let q = (any_of_three (bad_lights l) (bad_coefficients v) (unused_set m n)).0 p.0 in
    (q.0, q.1, q.2, p.1)

-- the entries of words are 0 or 1
entries_good : (words : List ℕ) (n : ℕ) → bad_mask (entries_of words n) ≡ false
entries_good words n = (mask_row (entries_of words n)).1 (λ i h. omega (arith, entries_are words n i))

-- what the writer's answer 0 says of what it was given: the masks are tidy, and with their entries the rest is what a file may hold
record Wrote (a : Axes) (c : Corners) (l v : List Float) (m o : List ℕ) : Type 0 where
  givens : Givens a c l v (entries_of m (voxels a)) (entries_of o (voxels a))
  active : Tidy m (voxels a)
  occupied : Tidy o (voxels a)

written_givens : (a : Axes) (c : Corners) (l v : List Float) (m o b : List ℕ) → AllFit l → AllFit v → AllFit (corners_list c) → 0 ≡ write_refusal a c l v m o b → Wrote a c l v m o
unfolding write_refusal
written_givens a c l v m o b x y z e =
    let n : ℕ = voxels a in
    let p = passed (write_rows a c l v m o b) (omega arith, (omega arith, (omega arith, (omega arith, tt)))) (sym e) in
    let w = (either _ (wrong_bytes (voxels a) (length b))).0 p.1.1.0 in
    let q = lists_row (voxels a) (length l) (length v) (length m) (length o) w.0 in
    let r = lists_good (voxels a) l v m o p.1.1.1.0 in
    record {
      givens = record {
        axes = p.0;
        grid = p.1.0;
        light = q.0;
        volume = q.1;
        active = entries_length m n;
        occupied = entries_length o n;
        lights = r.0;
        coefficients = r.1;
        actives = entries_good m n;
        occupieds = entries_good o n;
        light_fits = x;
        volume_fits = y;
        corners_fit = z;
      };
      active = record { long = q.2; clean = r.2 };
      occupied = record { long = q.3; clean = r.3 };
    }

-- ---- written, then read

-- every bit that was written
pub record Returned (a : Axes) (c : Corners) (l v : List Float) (m o : List ℕ) (r : Head) (l' v' : List Float) (m' o' : List ℕ) : Type 0 where
  pub answer : r ≡ record { refusal = 0; axes = a; corners = c }
  pub light : l' ≡ l
  pub volume : v' ≡ v
  pub active : m' ≡ m
  pub occupied : o' ≡ o

read_zero : (s : List ℕ) (l v : List Float) (m o : List ℕ) → Accepted s → length l ≡ voxels_at s → length v ≡ voxels_at s * 16 → length m ≡ word_count (voxels_at s) → length o ≡ word_count (voxels_at s)
    → read_refusal s l v m o ≡ 0
unfolding read_refusal first_of
read_zero s l v m o k p q r t = rw ((accepted_row s).1 k, lists_right (voxels_at s) (length l) (length v) (length m) (length o) p q r t) refl

head_gives : (s : List ℕ) (a : Axes) (c : Corners) → axes_at s ≡ a → corners_at s ≡ c → head_answer s ≡ record { refusal = 0; axes = a; corners = c }
unfolding head_answer
head_gives s a c e f = rw (e, f) refl

pub written_read : (a : Axes) (c : Corners) (l v : List Float) (m o b b' : List ℕ) (l₀ v₀ : List Float) (m₀ o₀ : List ℕ) (r : Head) (l' v' : List Float) (m' o' : List ℕ)
    → AllFit l → AllFit v → AllFit (corners_list c) → AreWords m → AreWords o
    → VolumeWritten a c l v m o b 0 b'
    → length l₀ ≡ length l → length v₀ ≡ length v → length m₀ ≡ length m → length o₀ ≡ length o
    → VolumeRead b' l₀ v₀ m₀ o₀ r l' v' m' o'
    → Returned a c l v m o r l' v' m' o'
written_read a c l v m o b b' l₀ v₀ m₀ o₀ r l' v' m' o' x y z am ao w p q t u d =
    let n : ℕ = voxels a in
    let em : List ℕ = entries_of m n in
    let eo : List ℕ = entries_of o n in
    let f : Wrote a c l v m o = written_givens a c l v m o b x y z w.answer in
    let g : Givens a c l v em eo = f.givens in
    let e : b' ≡ file_bytes a c l v em eo = w.bytes ∙ sym (given _ _ _ (sym w.answer)) in
    let k : Back b' a c l v em eo = rw e (written_back a c l v em eo g) in
    let count : voxels_at b' ≡ n = ap voxels k.gives.axes in
    let zero : read_refusal b' l₀ v₀ m₀ o₀ ≡ 0 =
    read_zero b' l₀ v₀ m₀ o₀ k.accepted (p ∙ g.light ∙ sym count) (q ∙ g.volume ∙ sym (ap (λ (i : ℕ). i * 16) count))
    (t ∙ f.active.long ∙ sym (ap word_count count)) (u ∙ f.occupied.long ∙ sym (ap word_count count)) in
    record {
      answer = d.answer ∙ sym (given _ _ _ zero) ∙ head_gives b' a c k.gives.axes k.gives.corners;
      light = d.light ∙ sym (given _ _ _ zero) ∙ k.gives.light;
      volume = d.volume ∙ sym (given _ _ _ zero) ∙ k.gives.volume;
      active = d.active ∙ sym (given _ _ _ zero) ∙ ap words_of k.gives.active ∙ words_entries m n am f.active;
      occupied = d.occupied ∙ sym (given _ _ _ zero) ∙ ap words_of k.gives.occupied ∙ words_entries o n ao f.occupied;
    }

-- ---- read, then written

-- a refusal of 0 is no refusal
head_zero : (s : List ℕ) (k : ℕ) (r : Head) → r ≡ unless_refused k (head_answer s) (no_head k) → r.refusal ≡ 0 → k ≡ 0
unfolding unless_refused no_head
head_zero s k r e h = go (eqb k 0) refl e
  where
    go : (b : Bool) → eqb k 0 ≡ b → r ≡ cond b (head_answer s) (no_head k) → k ≡ 0
    go true f g = eqb-true k 0 f
    go false f g = sym (ap (λ (x : Head). x.refusal) g) ∙ h

write_zero : (a : Axes) (c : Corners) (l v : List Float) (m o b : List ℕ) → bad_axes a ≡ false → bad_grid c a ≡ false
    → wrong_volume_lists (voxels a) (length l) (length v) (length m) (length o) ≡ false → length b ≡ bytes_for (voxels a)
    → bad_lights l ≡ false → bad_coefficients v ≡ false → unused_set m (voxels a) ≡ false → unused_set o (voxels a) ≡ false → write_refusal a c l v m o b ≡ 0
unfolding write_refusal first_of wrong_bytes bad_lists
write_zero a c l v m o b p q r t x y z w = rw (p, q, r, eq-eqb (length b) (bytes_for (voxels a)) t, x, y, z, w) refl

part_length : (s : List ℕ) (at n : ℕ) → at + n ≤ length s → length (bytes_at s at n) ≡ n
part_length s at n h = length-take-le n (drop at s) (rw (length-drop at s) (omega arith))

-- the mask of a file that is accepted has entries of 0 and 1
mask_entries : (l : List ℕ) → bad_mask l ≡ false → AreEntries l
mask_entries l e i = go (below_or_from i (length l))
  where
    go : (i < length l) ⊎ (length l ≤ i) → get_or l i 0 < 2
    go (inl h) = omega (arith, (mask_row l).0 e i h)
    go (inr h) = omega (arith, get_or-eq_default l 0 h)

-- the words of such a mask hold it
mask_held : (l : List ℕ) (n : ℕ) → length l ≡ n → bad_mask l ≡ false → Holds (words_of l) n l
mask_held l n e g = record {
  tidy = subst (Tidy (words_of l)) e (words_tidy l);
  same = subst (λ (k : ℕ). entries_of (words_of l) k ≡ l) e (entries_words l (mask_entries l g));
}

-- what an accepted file says of its masks, in words
record Masks (s : List ℕ) : Type 0 where
  active : Holds (words_of (active_at s)) (voxels_at s) (active_at s)
  occupied : Holds (words_of (occupied_at s)) (voxels_at s) (occupied_at s)

accepted_masks : (s : List ℕ) → Accepted s → Masks s
accepted_masks s k =
    let n : ℕ = voxels_at s in
    let la : Laid s n = accepted_laid s k in
    record {
      active = mask_held (active_at s) n (part_length s (offset_at s 2) n (omega (arith, la.active, la.within))) k.active;
      occupied = mask_held (occupied_at s) n (part_length s (offset_at s 3) n (omega (arith, la.occupied, la.within))) k.occupied;
    }

-- what the reader's answer 0 says of the file
read_sound : (s : List ℕ) (l v : List Float) (m o : List ℕ) (r : Head) (l' v' : List Float) (m' o' : List ℕ)
    → VolumeRead s l v m o r l' v' m' o' → r.refusal ≡ 0 → (read_refusal s l v m o ≡ 0) × Accepted s
unfolding read_refusal
read_sound s l v m o r l' v' m' o' d z =
    let zero : read_refusal s l v m o ≡ 0 = head_zero s (read_refusal s l v m o) r d.answer z in
    (zero, (accepted_row s).0 (passed (read_rows s l v m o) (omega arith, (omega arith, tt)) zero).0)

-- The masks that the reader leaves hold the file's bytes and no unused bit is set, so that the writer, the sun and the bake take them.
pub read_tidy : (s : List ℕ) (l v : List Float) (m o : List ℕ) (r : Head) (l' v' : List Float) (m' o' : List ℕ)
    → VolumeRead s l v m o r l' v' m' o' → r.refusal ≡ 0
    → Holds m' (voxels r.axes) (active_at s) × Holds o' (voxels r.axes) (occupied_at s)
unfolding head_answer
read_tidy s l v m o r l' v' m' o' d z =
    let sound = read_sound s l v m o r l' v' m' o' d z in
    let h : Masks s = accepted_masks s sound.1 in
    let ax : r.axes ≡ axes_at s = ap (λ (x : Head). x.axes) (d.answer ∙ sym (given _ _ _ sound.0)) in
    let ac : m' ≡ words_of (active_at s) = d.active ∙ sym (given _ _ _ sound.0) in
    let oc : o' ≡ words_of (occupied_at s) = d.occupied ∙ sym (given _ _ _ sound.0) in
    (rw (ax, ac) h.active, rw (ax, oc) h.occupied)

pub read_written : (s : List ℕ) (l v : List Float) (m o : List ℕ) (r : Head) (l' v' : List Float) (m' o' b : List ℕ) (t : ℕ) (b' : List ℕ)
    → AllBytes s → entries_at s ≡ 5
    → VolumeRead s l v m o r l' v' m' o' → r.refusal ≡ 0
    → length b ≡ length s
    → VolumeWritten r.axes r.corners l' v' m' o' b t b'
    → (t ≡ 0) × (b' ≡ s)
unfolding head_answer
read_written s l v m o r l' v' m' o' b t b' h five d z len w =
    let sound = read_sound s l v m o r l' v' m' o' d z in
    let zero : read_refusal s l v m o ≡ 0 = sound.0 in
    let k : Accepted s = sound.1 in
    let n : ℕ = voxels_at s in
    let la : Laid s n = accepted_laid s k in
    let masks : Masks s = accepted_masks s k in
    let wm : List ℕ = words_of (active_at s) in
    let wo : List ℕ = words_of (occupied_at s) in
    let head : r ≡ head_answer s = d.answer ∙ sym (given _ _ _ zero) in
    let ax : r.axes ≡ axes_at s = ap (λ (x : Head). x.axes) head in
    let co : r.corners ≡ corners_at s = ap (λ (x : Head). x.corners) head in
    let li : l' ≡ light_at s = d.light ∙ sym (given _ _ _ zero) in
    let vo : v' ≡ volume_at s = d.volume ∙ sym (given _ _ _ zero) in
    let ac : m' ≡ wm = d.active ∙ sym (given _ _ _ zero) in
    let oc : o' ≡ wo = d.occupied ∙ sym (given _ _ _ zero) in
    let w' : VolumeWritten (axes_at s) (corners_at s) (light_at s) (volume_at s) wm wo b t b' = rw (ax, co, li, vo, ac, oc) at w in
    let none : write_refusal (axes_at s) (corners_at s) (light_at s) (volume_at s) wm wo b ≡ 0 =
    write_zero (axes_at s) (corners_at s) (light_at s) (volume_at s) wm wo b k.axes k.grid
    (lists_right n _ _ _ _
    (length_tab (λ i. f32_at s (offset_at s 0 + i * 4)) n 0)
    (length_tab (λ i. f32_at s (offset_at s 1 + i * 4)) (n * 16) 0)
    masks.active.tidy.long
    masks.occupied.tidy.long)
    (len ∙ file_ended s n five la) k.lights k.coefficients masks.active.tidy.clean masks.occupied.tidy.clean in
    let same : file_bytes (axes_at s) (corners_at s) (light_at s) (volume_at s) (entries_of wm n) (entries_of wo n) ≡ s =
    rw (masks.active.same, masks.occupied.same) (kept_back s h k five) in
    (w'.answer ∙ none, w'.bytes ∙ sym (given _ _ _ none) ∙ same)
