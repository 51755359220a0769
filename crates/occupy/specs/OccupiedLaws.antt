-- A voxel of the grid is occupied exactly when a sample of a present triangle falls into it. And marking sample by sample gives the mask.
use Rattle.std.specs.Prelude.{◌≡◌, Bool, ◌&&◌, ◌||◌, ◌↔◌, ◌⊎◌, List, length, get_or, set, Float}
use Rattle.std.proofs.Math.Path.{refl}
use Rattle.std.proofs.Common.{sym, ◌∙◌, inl, inr, arith, length-set, ext_get_or, get_or-set_same, get_or-set_other}
use Rattle.std.proofs.Math.Bool.{true, false, cond, not, and-eq-true_iff}
use Prim.Native.Nat.{ℕ, zero, suc, ◌+◌, ◌-◌, ◌*◌, ◌/◌, ◌<◌}
use Rattle.std.proofs.Math.Nat.{zero-add}
use Rattle.std.proofs.Math.Dec.{eqb}
use borrow.Author.Tests.{eqb-true, eqb-false, eq-eqb, not-true}
use Rattle.lists.specs.Fold.{fold, tab, length_tab, get_or_tab}
use Rattle.lists.specs.Any.{any, any_in, any_out}
use Rattle.vectors.specs.declared.Vec3.{Vec3}
use Rattle.vectors.specs.declared.Triangle.{Triangle}
use Rattle.grid.specs.declared.Axes.{Axes}
use Rattle.grid.specs.declared.Corners.{Corners}
use Rattle.grid.specs.Grid.{voxels, AxesWithin, edges_of, smallest_edge_of}
use Rattle.triangle.specs.Meet.{absent_of}
use Rattle.triangle.specs.Places.{triangle_at}
use Rattle.samples.specs.Samples.{sample_count, side_of, sample_cell}
use Rattle.samples.specs.FallsLaws.{FallsInto, sample_falls}
use Rattle.marks.specs.Marks.{is_marked}
use Rattle.occupy.specs.Occupied.{sampled_in, touches, occupied_in, occupied_entry, occupied_of}
use Rattle.occupy.specs.Marking.{unmarked, mark_sample, mark_row, mark_rows, mark_triangle, mark_place, mark_all}

-- ---- what it means

-- n: how many samples a side the triangle at place k has
abbrev pub side_at : Axes → Corners → List Float → ℕ → ℕ
side_at axes corners points k = side_of (sample_count (triangle_at points k) (smallest_edge_of (edges_of corners axes)))

-- The triangle at place k is not absent, and its sample (iu, iv), iu < n and iv < n − iu, falls into voxel i
pub record Sampled (axes : Axes) (corners : Corners) (points : List Float) (i : ℕ) : Type 0 where
  pub k : ℕ
  pub in_list : k < length points / 9
  pub present : absent_of (triangle_at points k) ≡ false
  pub iu : ℕ
  pub first : iu < side_at axes corners points k
  pub iv : ℕ
  pub second : iv < side_at axes corners points k - iu
  pub falls : FallsInto axes corners.min (edges_of corners axes) (triangle_at points k) (side_at axes corners points k) iu iv i

-- its nine numbers stand in the list
pub points_within : (points : List Float) (k : ℕ) → k < length points / 9 → k * 9 + 8 < length points
points_within points k h = omega arith

not_in : (b : Bool) → b ≡ false → not b ≡ true
not_in b e = rw e refl

module _ (axes : Axes) (corners : Corners) (points : List Float) (i : ℕ) (w : AxesWithin axes) (h : i < voxels axes) where
  occupied_sampled : occupied_in axes corners points i ≡ true → Sampled axes corners points i
  unfolding occupied_in touches sampled_in
  occupied_sampled e =
      let a = any_out _ _ _ e in
      let p = (and-eq-true_iff _ _).0 a.3 in
      let b = any_out _ _ _ p.1 in
      let c = any_out _ _ _ b.3 in
      record {
        k = a.0;
        in_list = omega (arith, a.2);
        present = not-true _ p.0;
        iu = b.0;
        first = omega (arith, b.2);
        iv = c.0;
        second = omega (arith, c.2);
        falls = (sample_falls axes _ _ _ _ _ _ i w h).0 (eqb-true _ _ c.3);
      }

  sampled_occupied : Sampled axes corners points i → occupied_in axes corners points i ≡ true
  unfolding occupied_in touches sampled_in
  sampled_occupied s =
      any_in _ _ _ s.k (omega arith) (omega (arith, s.in_list))
      ((and-eq-true_iff _ _).1 (
        not_in _ s.present,
        any_in _ _ _ s.iu (omega arith) (omega (arith, s.first))
            (any_in _ _ _ s.iv (omega arith) (omega (arith, s.second)) (eq-eqb _ _ ((sample_falls axes _ _ _ _ _ _ i w h).1 s.falls))),
      ))

  -- voxel i is occupied exactly when a sample of a present triangle falls into it
  pub occupied_exactly : (occupied_in axes corners points i ≡ true) ↔ Sampled axes corners points i
  occupied_exactly = (occupied_sampled, sampled_occupied)

-- the mask: an entry for each voxel, 1 where it is occupied and else 0
module _ (axes : Axes) (corners : Corners) (points : List Float) where
  pub occupied_length : length (occupied_of axes corners points) ≡ voxels axes
  unfolding occupied_of
  occupied_length = length_tab _ (voxels axes) 0

  entry_at : (i : ℕ) → i < voxels axes → get_or (occupied_of axes corners points) i 0 ≡ cond (occupied_in axes corners points i) 1 0
  unfolding occupied_of occupied_entry
  entry_at i h = rw (get_or_tab (occupied_entry axes corners points) (voxels axes) 0 i 0 h, zero-add i) refl

  pub occupied_at_lem : (i : ℕ) → i < voxels axes → is_marked (occupied_of axes corners points) i ≡ occupied_in axes corners points i
  occupied_at_lem i h = rw (entry_at i h) (bit (occupied_in axes corners points i))
    where
      bit : (b : Bool) → eqb (cond {A = ℕ} b 1 0) 1 ≡ b
      bit true = refl
      bit false = refl

  pub occupied_entry_lem : (i : ℕ) → i < voxels axes → (get_or (occupied_of axes corners points) i 0 ≡ 0) ⊎ (get_or (occupied_of axes corners points) i 0 ≡ 1)
  occupied_entry_lem i h = rw (entry_at i h) (bits (occupied_in axes corners points i))
    where
      bits : (b : Bool) → (cond {A = ℕ} b 1 0 ≡ 0) ⊎ (cond {A = ℕ} b 1 0 ≡ 1)
      bits true = inr refl
      bits false = inl refl

-- ---- how it is marked

-- a step that keeps the length, and marks the entries of which h holds
pub record Marks (g : List ℕ → List ℕ) (h : ℕ → Bool) : Type 0 where
  pub keeps : (l : List ℕ) → length (g l) ≡ length l
  pub marks : (l : List ℕ) (i : ℕ) → i < length l → get_or (g l) i 0 ≡ cond (h i) 1 (get_or l i 0)

twice : (a b : Bool) (x : ℕ) → cond a 1 (cond b 1 x) ≡ cond (b || a) 1 x
twice true true x = refl
twice true false x = refl
twice false true x = refl
twice false false x = refl

-- of several such steps, one after the other, some mark the entry
module _ (g : ℕ → List ℕ → List ℕ) (h : ℕ → ℕ → Bool) (m : (j : ℕ) → Marks (g j) (h j)) where
  kept_all : (k s : ℕ) (l : List ℕ) → length (fold g k s l) ≡ length l
  unfolding fold
  kept_all zero s l = refl
  kept_all (suc k) s l = kept_all k (s + 1) (g s l) ∙ (m s).keeps l

  marked_all : (k s : ℕ) (l : List ℕ) (i : ℕ) → i < length l → get_or (fold g k s l) i 0 ≡ cond (any (λ j. h j i) k s) 1 (get_or l i 0)
  unfolding fold any
  marked_all zero s l i p = refl
  marked_all (suc k) s l i p =
      marked_all k (s + 1) (g s l) i (omega (arith, (m s).keeps l)) ∙ rw ((m s).marks l i p) (twice (any (λ j. h j i) k (s + 1)) (h s i) (get_or l i 0))

  fold_marks : (k s : ℕ) → Marks (fold g k s) (λ i. any (λ j. h j i) k s)
  fold_marks k s = record { keeps = kept_all k s; marks = marked_all k s }

-- one entry set
set_marks : (p : ℕ) → Marks (λ l. set l p 1) (λ i. eqb p i)
set_marks p = record { keeps = λ l. length-set l p 1; marks = λ l i h. go l i h (eqb p i) refl }
  where
    go : (l : List ℕ) (i : ℕ) → i < length l → (b : Bool) → eqb p i ≡ b → get_or (set l p 1) i 0 ≡ cond b 1 (get_or l i 0)
    go l i h true e = rw (eqb-true p i e) (get_or-set_same l i 1 0 h)
    go l i h false e = get_or-set_other l p i 1 0 (λ q. eqb-false p i e (sym q))

module _ (axes : Axes) (low edges : Vec3) where
  row_marks : (t : Triangle) (n iu : ℕ) → Marks (mark_row axes low edges t n iu) (λ i. any (λ iv. eqb (sample_cell axes low edges t n iu iv) i) (n - iu) 0)
  unfolding mark_row
  row_marks t n iu =
      fold_marks (mark_sample axes low edges t n iu) (λ iv i. eqb (sample_cell axes low edges t n iu iv) i) (λ iv. set_marks (sample_cell axes low edges t n iu iv)) (n - iu) 0

  rows_marks : (t : Triangle) (n : ℕ) → Marks (mark_rows axes low edges t n) (sampled_in axes low edges t n)
  unfolding mark_rows sampled_in
  rows_marks t n = fold_marks (mark_row axes low edges t n) _ (λ iu. row_marks t n iu) n 0

  triangle_marks : (e : Float) (t : Triangle) → Marks (mark_triangle axes low edges e t) (touches axes low edges e t)
  unfolding mark_triangle touches
  triangle_marks e t = go (absent_of t)
    where
      go : (b : Bool) → Marks (λ l. cond b l (mark_rows axes low edges t (side_of (sample_count t e)) l)) (λ i. not b && sampled_in axes low edges t (side_of (sample_count t e)) i)
      go true = record { keeps = λ l. refl; marks = λ l i h. refl }
      go false = rows_marks t (side_of (sample_count t e))

  all_marks : (e : Float) (points : List Float)
      → Marks (mark_all axes low edges e points) (λ i. any (λ k. touches axes low edges e (triangle_at points k) i) (length points / 9) 0)
  unfolding mark_all
  all_marks e points =
      fold_marks (mark_place axes low edges e points) (λ k. touches axes low edges e (triangle_at points k)) (λ k. triangle_marks e (triangle_at points k)) (length points / 9) 0

-- from a mask of zeros that has an entry for each voxel
pub marked_occupied : (axes : Axes) (corners : Corners) (points : List Float)
    → mark_all axes corners.min (edges_of corners axes) (smallest_edge_of (edges_of corners axes)) points (tab unmarked (voxels axes) 0)
    ≡ occupied_of axes corners points
unfolding occupied_in
marked_occupied axes corners points =
    let m = all_marks axes corners.min (edges_of corners axes) (smallest_edge_of (edges_of corners axes)) points in
    let n : length (tab unmarked (voxels axes) 0) ≡ voxels axes = length_tab unmarked (voxels axes) 0 in
    let k = m.keeps (tab unmarked (voxels axes) 0) in
    ext_get_or 0 _ _ (k ∙ n ∙ sym (occupied_length axes corners points))
    (λ i h.
    let l : i < voxels axes = omega arith in
    m.marks (tab unmarked (voxels axes) 0) i (omega arith) ∙ rw (get_or_tab unmarked (voxels axes) 0 i 0 l) (sym (entry_at axes corners points i l)))
