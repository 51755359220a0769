-- Written rows hold what was written, and nothing else changed. Assumes nothing.
use Rattle.std.specs.Prelude.{◌≡◌, Bool, not, T, set, Float}
use Rattle.std.proofs.Math.Path.{refl, ap, subst}
use Rattle.std.proofs.Common.{sym, ◌∙◌, le-ltb, length-set}
use Rattle.std.proofs.Math.Bool.{true, false, cond}
use mathlib.Core.List.{List}
use Prim.Native.Nat.{ℕ, zero, suc, ◌+◌, ◌%◌, ◌≤◌, ◌<◌}
use native.Mathlib.Omega.{arith}
use Rattle.std.proofs.Math.ListN.{length, get_or}
use Rattle.std.proofs.Math.Seq.{get_or-set_same, get_or-set_other}
use Rattle.std.specs.Float.Ieee.{nan, is_nan, to_bits, nan_bits}
use Rattle.std.specs.Float.{binary32}
use Rattle.std.specs.Float.Ieee.Bits.{nan_bits_is, nan_bits_above, to_bits-of_bits}
use Rattle.names.specs.Bits.{lit}
use Rattle.vectors.specs.Places.{vec_at}
use Rattle.vectors.specs.Vectors.{vec}
use Rattle.vectors.specs.declared.Vec3.{Vec3}
use Rattle.boxes.specs.Boxes.{bounds_at}
use Rattle.boxes.specs.declared.Bounds.{Bounds}
use Rattle.tree.specs.Tree.{count_at, inner_at, left_at, right_at, first_at}
use Rattle.tree_rows.specs.Rows.{row_start, pattern_at, row_bounds, row_after, row_first, row_count}
use Rattle.tree_rows.specs.Layout.{whole_limit, with_vec, with_row, boxes_under, with_rows}
use Rattle.tree_rows.specs.LayoutLaws.{KeptRows, RowAt}

-- ---- a whole number as a pattern

no_nan_bits : (n : ℕ) → n < whole_limit → nan_bits binary32 n ≡ false
no_nan_bits n h = nan_bits_above binary32 n ∙ le-ltb _ _ (let r : n % 2147483648 ≤ 2139095040 = omega arith in r)

pub no_nan_pattern : (n : ℕ) → n < whole_limit → T (not (nan_bits binary32 n))
no_nan_pattern n h = subst (λ (b : Bool). T (not b)) (sym (no_nan_bits n h)) tt

no_nan : (n : ℕ) → n < whole_limit → is_nan (lit n) ≡ false
no_nan n h = sym (nan_bits_is binary32 n) ∙ no_nan_bits n h

pattern_back : (n : ℕ) → n < whole_limit → to_bits binary32 (lit n) ≡ n
pattern_back n h = to_bits-of_bits binary32 n (omega arith) (subst (λ (b : Bool). T (not b)) (sym (no_nan n h)) tt)

kept_self : (rows : List Float) (from to : ℕ) → KeptRows rows rows from to
kept_self rows from to = record { same = refl; below = λ j h. refl; above = λ j h. refl }

-- one change after another, each within the piece
kept_through : (a b c : List Float) (from to f t g u : ℕ) → from ≤ f → t ≤ to → from ≤ g → u ≤ to → KeptRows a b f t → KeptRows b c g u → KeptRows a c from to
kept_through a b c from to f t g u w x y z p q =
    record {
      same = q.same ∙ p.same;
      below = λ j h. q.below j (omega arith) ∙ p.below j (omega arith);
      above = λ j h. q.above j (omega arith) ∙ p.above j (omega arith);
    }

-- ---- three numbers

module _ (rows : List Float) (j : ℕ) (v : Vec3) where
  vec_other : (i : ℕ) → (i ≡ j → ⊥) → (i ≡ j + 1 → ⊥) → (i ≡ j + 2 → ⊥) → get_or (with_vec rows j v) i nan ≡ get_or rows i nan
  unfolding with_vec
  vec_other i a b c =
      get_or-set_other (set (set rows j v.x) (j + 1) v.y) (j + 2) i v.z nan c ∙ get_or-set_other (set rows j v.x) (j + 1) i v.y nan b ∙ get_or-set_other rows j i v.x nan a

  vec_kept : KeptRows rows (with_vec rows j v) j (j + 3)
  unfolding with_vec
  vec_kept =
      record {
        same = simp length-set;
        below = λ i h. vec_other i (λ (e : i ≡ j). omega arith) (λ (e : i ≡ j + 1). omega arith) (λ (e : i ≡ j + 2). omega arith);
        above = λ i h. vec_other i (λ (e : i ≡ j). omega arith) (λ (e : i ≡ j + 1). omega arith) (λ (e : i ≡ j + 2). omega arith);
      }

  vec_here : j + 3 ≤ length rows → vec_at (with_vec rows j v) j ≡ v
  unfolding with_vec
  vec_here h = rw (first, second, third) refl
    where
      first : get_or (with_vec rows j v) j nan ≡ v.x
      first =
          get_or-set_other (set (set rows j v.x) (j + 1) v.y) (j + 2) j v.z nan (λ (e : j ≡ j + 2). omega arith)
          ∙ get_or-set_other (set rows j v.x) (j + 1) j v.y nan (λ (e : j ≡ j + 1). omega arith)
          ∙ get_or-set_same rows j v.x nan (omega arith)

      second : get_or (with_vec rows j v) (j + 1) nan ≡ v.y
      second =
          get_or-set_other (set (set rows j v.x) (j + 1) v.y) (j + 2) (j + 1) v.z nan (λ (e : j + 1 ≡ j + 2). omega arith)
          ∙ get_or-set_same (set rows j v.x) (j + 1) v.y nan (simp length-set (omega arith))

      third : get_or (with_vec rows j v) (j + 2) nan ≡ v.z
      third = get_or-set_same (set (set rows j v.x) (j + 1) v.y) (j + 2) v.z nan (simp length-set (omega arith))

pub vec_same : (rows rows' : List Float) (j : ℕ) → ((i : ℕ) → j ≤ i → i < j + 3 → get_or rows' i nan ≡ get_or rows i nan) → vec_at rows' j ≡ vec_at rows j
vec_same rows rows' j h = rw (h j (omega arith) (omega arith), h (j + 1) (omega arith) (omega arith), h (j + 2) (omega arith) (omega arith)) refl

row_same : (rows rows' : List Float) (k : ℕ) (b : Bounds) (after first count : ℕ) → ((j : ℕ) → row_start k ≤ j → j < row_start (suc k) → get_or rows' j nan ≡ get_or rows j nan)
    → RowAt rows k b after first count → RowAt rows' k b after first count
unfolding row_bounds
row_same rows rows' k b after first count h r =
    record {
      box = rw (vec_same rows rows' (row_start k) (λ i p q. h i (omega arith) (omega arith)), vec_same rows rows' (row_start k + 3) (λ i p q. h i (omega arith) (omega arith))) r.box;
      wholes = vec_same rows rows' (row_start k + 6) (λ i p q. h i (omega arith) (omega arith)) ∙ r.wholes;
    }

module _ (rows : List Float) (k : ℕ) (b : Bounds) (after first count : ℕ) where
  abbrev low : List Float
  low = with_vec rows (row_start k) b.low

  abbrev both : List Float
  both = with_vec low (row_start k + 3) b.high

  row_kept : KeptRows rows (with_row rows k b after first count) (row_start k) (row_start (suc k))
  unfolding with_row
  row_kept =
      let w = vec (lit after) (lit first) (lit count) in
      let s = row_start k in
      kept_through rows both (with_vec both (s + 6) w) s (row_start (suc k)) s (s + 6) (s + 6) (s + 6 + 3) (omega arith) (omega arith) (omega arith) (omega arith)
      (kept_through rows low both s (s + 6) s (s + 3) (s + 3) (s + 3 + 3) (omega arith) (omega arith) (omega arith) (omega arith) (vec_kept rows s b.low) (vec_kept low (s + 3) b.high))
      (vec_kept both (s + 6) w)

  row_here : row_start (suc k) ≤ length rows → RowAt (with_row rows k b after first count) k b after first count
  unfolding with_row row_bounds
  row_here h =
      let w = vec (lit after) (lit first) (lit count) in
      let s = row_start k in
      let l = (vec_kept rows s b.low).same in
      let m = (vec_kept low (s + 3) b.high).same in
      let last = vec_kept both (s + 6) w in
      let a : vec_at (with_vec both (s + 6) w) s ≡ b.low =
      vec_same both (with_vec both (s + 6) w) s (λ i p q. last.below i (omega arith))
      ∙ vec_same low both s (λ i p q. (vec_kept low (s + 3) b.high).below i (omega arith))
      ∙ vec_here rows s b.low (omega arith)
      in
      let c : vec_at (with_vec both (s + 6) w) (s + 3) ≡ b.high =
      vec_same both (with_vec both (s + 6) w) (s + 3) (λ i p q. last.below i (omega arith)) ∙ vec_here low (s + 3) b.high (omega arith)
      in
      record { box = rw (a, c) refl; wholes = vec_here both (s + 6) w (omega arith) }

-- the three numbers, as they are read
module _ {rows : List Float} {k : ℕ} {b : Bounds} {after first count : ℕ} (r : RowAt rows k b after first count) where
  at_6 : get_or rows (row_start k + 6) nan ≡ lit after
  at_6 = ap (λ (v : Vec3). v.x) r.wholes

  at_7 : get_or rows (row_start k + 7) nan ≡ lit first
  at_7 = ap (λ (j : ℕ). get_or rows j nan) (let e : row_start k + 7 ≡ row_start k + 6 + 1 = omega arith in e) ∙ ap (λ (v : Vec3). v.y) r.wholes

  at_8 : get_or rows (row_start k + 8) nan ≡ lit count
  at_8 = ap (λ (j : ℕ). get_or rows j nan) (let e : row_start k + 8 ≡ row_start k + 6 + 2 = omega arith in e) ∙ ap (λ (v : Vec3). v.z) r.wholes

  pub reads_after : after < whole_limit → row_after rows k ≡ after
  unfolding pattern_at
  reads_after h = ap (to_bits binary32) at_6 ∙ pattern_back after h

  pub reads_first : first < whole_limit → row_first rows k ≡ first
  unfolding pattern_at
  reads_first h = ap (to_bits binary32) at_7 ∙ pattern_back first h

  pub reads_count : count < whole_limit → row_count rows k ≡ count
  unfolding pattern_at
  reads_count h = ap (to_bits binary32) at_8 ∙ pattern_back count h

  pub no_nans : after < whole_limit → first < whole_limit → count < whole_limit
      → (is_nan (get_or rows (row_start k + 6) nan) ≡ false) × (is_nan (get_or rows (row_start k + 7) nan) ≡ false) × (is_nan (get_or rows (row_start k + 8) nan) ≡ false)
  no_nans a f c = (ap is_nan at_6 ∙ no_nan after a, ap is_nan at_7 ∙ no_nan first f, ap is_nan at_8 ∙ no_nan count c)

-- ---- the rows of a box

module _ (boxes : List Float) (nodes : List ℕ) where
  -- from row k to `end` stand the rows of box i and of all inside it, so many levels down
  pub data RowsOf (rows : List Float) : ℕ → ℕ → ℕ → ℕ → Type 0 where
    none : {i k : ℕ} → RowsOf rows 0 i k k
    one_row : {n i k : ℕ} → inner_at nodes i ≡ false → RowAt rows k (bounds_at boxes i) (k + 1) (first_at nodes i) (count_at nodes i) → RowsOf rows (suc n) i k (k + 1)
    two_halves : {n i k middle end : ℕ} → inner_at nodes i ≡ true → RowAt rows k (bounds_at boxes i) end 0 0
        → RowsOf rows n (left_at nodes i) (k + 1) middle → RowsOf rows n (right_at nodes i) middle end → RowsOf rows (suc n) i k end

  pub goes_up : {rows : List Float} {n i k end : ℕ} → RowsOf rows n i k end → k ≤ end
  goes_up none = omega arith
  goes_up (one_row q r) = omega arith
  goes_up (two_halves q r a b) = let l = goes_up a in let m = goes_up b in omega arith

  -- they read no other rows
  rows_same : (rows rows' : List Float) {n i k end : ℕ} → ((j : ℕ) → row_start k ≤ j → j < row_start end → get_or rows' j nan ≡ get_or rows j nan)
      → RowsOf rows n i k end → RowsOf rows' n i k end
  rows_same rows rows' h none = none
  rows_same rows rows' h (one_row q r) = one_row q (row_same rows rows' _ _ _ _ _ (λ j a b. h j (omega arith) (omega arith)) r)
  rows_same rows rows' h (two_halves q r a b) =
      let l = goes_up a in
      let m = goes_up b in
      two_halves q (row_same rows rows' _ _ _ _ _ (λ j x y. h j (omega arith) (omega arith)) r) (rows_same rows rows' (λ j x y. h j (omega arith) (omega arith)) a)
      (rows_same rows rows' (λ j x y. h j (omega arith) (omega arith)) b)

  -- ---- written

  module _ (levels i k : ℕ) (rows : List Float) where
    abbrev middle : ℕ
    middle = k + 1 + boxes_under nodes levels (left_at nodes i)

    abbrev end : ℕ
    end = middle + boxes_under nodes levels (right_at nodes i)

    abbrev left_in : List Float
    left_in = with_rows boxes nodes levels (left_at nodes i) (k + 1) rows

    abbrev both_in : List Float
    both_in = with_rows boxes nodes levels (right_at nodes i) middle left_in

    abbrev whole_in : List Float
    whole_in = with_row both_in k (bounds_at boxes i) end 0 0

    abbrev leaf_in : List Float
    leaf_in = with_row rows k (bounds_at boxes i) (k + 1) (first_at nodes i) (count_at nodes i)

  pub rows_kept : (levels i k : ℕ) (rows : List Float) → KeptRows rows (with_rows boxes nodes levels i k rows) (row_start k) (row_start (k + boxes_under nodes levels i))
  unfolding with_rows boxes_under
  rows_kept zero i k rows = kept_self rows (row_start k) (row_start (k + 0))
  rows_kept (suc levels) i k rows = by (inner_at nodes i) (rows_kept levels)
    where
      by : (b : Bool) → ((i k : ℕ) (rows : List Float) → KeptRows rows (with_rows boxes nodes levels i k rows) (row_start k) (row_start (k + boxes_under nodes levels i)))
          → KeptRows rows (cond b (whole_in levels i k rows) (leaf_in levels i k rows)) (row_start k)
          (row_start (k + cond b (1 + boxes_under nodes levels (left_at nodes i) + boxes_under nodes levels (right_at nodes i)) 1))
      by true rec =
          let m = middle levels i k rows in
          let e = end levels i k rows in
          let l = left_in levels i k rows in
          let b = both_in levels i k rows in
          kept_through rows b (whole_in levels i k rows) (row_start k) _ (row_start k) (row_start e) (row_start k) (row_start (suc k)) (omega arith) (omega arith) (omega arith) (omega arith)
          (kept_through rows l b (row_start k) (row_start e) (row_start (k + 1)) (row_start m) (row_start m) (row_start e) (omega arith) (omega arith) (omega arith) (omega arith)
          (rec (left_at nodes i) (k + 1) rows) (rec (right_at nodes i) m l))
          (row_kept b k (bounds_at boxes i) e 0 0)
      by false rec =
          let s : suc k ≡ k + 1 = omega arith in
          subst (λ (e : ℕ). KeptRows rows (leaf_in levels i k rows) (row_start k) (row_start e)) s (row_kept rows k (bounds_at boxes i) (k + 1) (first_at nodes i) (count_at nodes i))

  pub rows_written : (levels i k : ℕ) (rows : List Float) → row_start (k + boxes_under nodes levels i) ≤ length rows
      → RowsOf (with_rows boxes nodes levels i k rows) levels i k (k + boxes_under nodes levels i)
  unfolding with_rows boxes_under
  rows_written zero i k rows h = subst (RowsOf rows 0 i k) (let e : k ≡ k + 0 = omega arith in e) none
  rows_written (suc levels) i k rows h = by (inner_at nodes i) refl h (rows_written levels)
    where
      by : (b : Bool) → inner_at nodes i ≡ b → row_start (k + cond b (1 + boxes_under nodes levels (left_at nodes i) + boxes_under nodes levels (right_at nodes i)) 1) ≤ length rows
          → ((i k : ℕ) (rows : List Float) → row_start (k + boxes_under nodes levels i) ≤ length rows → RowsOf (with_rows boxes nodes levels i k rows) levels i k (k + boxes_under nodes levels i))
          → RowsOf (cond b (whole_in levels i k rows) (leaf_in levels i k rows)) (suc levels) i k (k + cond b (1 + boxes_under nodes levels (left_at nodes i) + boxes_under nodes levels (right_at nodes i)) 1)
      by true q room rec =
          let m = middle levels i k rows in
          let e = end levels i k rows in
          let l = left_in levels i k rows in
          let b = both_in levels i k rows in
          let w = whole_in levels i k rows in
          let first = rows_kept levels (left_at nodes i) (k + 1) rows in
          let second = rows_kept levels (right_at nodes i) m l in
          let own = row_kept b k (bounds_at boxes i) e 0 0 in
          subst (RowsOf w (suc levels) i k) (let s : e ≡ k + (1 + boxes_under nodes levels (left_at nodes i) + boxes_under nodes levels (right_at nodes i)) = omega arith in s)
          (two_halves q (row_here b k (bounds_at boxes i) e 0 0 (omega (arith, first.same, second.same)))
          (rows_same l w (λ j x y. own.above j (omega arith) ∙ second.below j (omega arith)) (rec (left_at nodes i) (k + 1) rows (omega arith)))
          (rows_same b w (λ j x y. own.above j (omega arith)) (rec (right_at nodes i) m l (omega (arith, first.same)))))
      by false q room rec = one_row q (row_here rows k (bounds_at boxes i) (k + 1) (first_at nodes i) (count_at nodes i) (omega arith))
