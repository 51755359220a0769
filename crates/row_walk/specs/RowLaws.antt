-- Going through the triangles of all rows, those under boxes that are passed over left out, comes to the scan over the triangles whose own padded box is not passed over: the rows are a
-- list in which each present triangle stands once. Assumes nothing.
use Rattle.std.specs.Prelude.{◌≡◌, Bool, true, false, List, [], ◌∷◌, eqb, length, get_or, Float}
use Rattle.std.proofs.Math.Path.{refl, sym}
use Rattle.std.proofs.Common.{ap, ◌∙◌, eq-or-lt_of_le, length-append}
use Rattle.std.proofs.Math.Logic.{⊎_elim}
use Prim.Native.Nat.{ℕ, zero, suc, ◌+◌, ◌/◌, ◌≤◌, ◌<◌}
use native.Mathlib.Omega.{arith}
use Rattle.names.specs.Scene.{Scene, Sound}
use Rattle.vectors.specs.declared.Ray.{Ray}
use Rattle.panels.specs.Panels.{own_passed}
use Rattle.boxes.specs.Boxes.{passed_over}
use Rattle.tree.specs.Tree.{present_at, one}
use Rattle.tree.specs.SumLaws.{one_self}
use Rattle.tree.proofs.TestLaws.{present_within}
use Rattle.tree_walk.specs.FoldLaws.{stands_in, stands_append, fold_of, fold_append}
use Rattle.tree_walk.specs.Spans.{span_places, SpanFits}
use Rattle.tree_rows.specs.Rows.{row_bounds, row_after, row_first, row_count, row_places, places_to, Rowed}

-- ---- how long the rows' list is

span_long : (order : List ℕ) (first count : ℕ) → length (span_places order first count) ≡ count
span_long order first zero = refl
span_long order first (suc count) = let a = span_long order first count in omega (arith, length-append (span_places order first count) (get_or order (first + count) 0 ∷ []))

-- with row k its run comes to the list
pub row_longer : (order : List ℕ) (rows : List Float) (k : ℕ) → length (places_to order rows (suc k)) ≡ length (places_to order rows k) + row_count rows k
unfolding places_to
row_longer order rows k = omega (arith, length-append (places_to order rows k) (row_places order rows k), span_long order (row_first rows k) (row_count rows k))

pub rows_longer : (order : List ℕ) (rows : List Float) (k m : ℕ) → k ≤ m → length (places_to order rows k) ≤ length (places_to order rows m)
rows_longer order rows k zero h = let z : k ≡ 0 = omega arith in rw z (omega arith)
rows_longer order rows k (suc m) h =
    ⊎_elim
    (λ (e : k ≡ suc m). rw e (omega arith))
    (λ (l : k < suc m). omega (arith, rows_longer order rows k m (omega arith), row_longer order rows m))
    (eq-or-lt_of_le h)

-- ---- the triangles of a row are present

span_stands : (order : List ℕ) (first count l : ℕ) → first ≤ l → l < first + count → 1 ≤ stands_in (get_or order l 0) (span_places order first count)
span_stands order first zero l a b = absurd (omega arith)
span_stands order first (suc count) l a b =
    let s = stands_append (get_or order l 0) (span_places order first count) (get_or order (first + count) 0 ∷ []) in
    ⊎_elim
    (λ (e : suc l ≡ first + suc count).
    let d : first + count ≡ l = omega arith in
    let o : one (eqb (get_or order (first + count) 0) (get_or order l 0)) ≡ one (eqb (get_or order l 0) (get_or order l 0)) = ap (λ (x : ℕ). one (eqb (get_or order x 0) (get_or order l 0))) d in
    omega (arith, one_self (get_or order l 0)))
    (λ (h : suc l < first + suc count). omega (arith, span_stands order first count l a (omega arith)))
    (eq-or-lt_of_le b)

rows_stand : (order : List ℕ) (rows : List Float) (p k m : ℕ) → k < m → stands_in p (row_places order rows k) ≤ stands_in p (places_to order rows m)
unfolding places_to
rows_stand order rows p k zero h = absurd (omega arith)
rows_stand order rows p k (suc m) h =
    let s = stands_append p (places_to order rows m) (row_places order rows m) in
    ⊎_elim
    (λ (e : suc k ≡ suc m). let d : k ≡ m = omega arith in let o = ap (λ (x : ℕ). stands_in p (row_places order rows x)) d in omega arith)
    (λ (l : suc k < suc m). omega (arith, rows_stand order rows p k m (omega arith)))
    (eq-or-lt_of_le h)

module _ (points : List Float) (order : List ℕ) (n : ℕ) (rows : List Float) (r : Rowed points order n rows) where
  pub row_present : (k l : ℕ) → k < n → row_first rows k ≤ l → l < row_first rows k + row_count rows k → present_at points (get_or order l 0) ≡ true
  row_present k l h a b = by (present_at points (get_or order l 0)) refl
    where
      by : (c : Bool) → present_at points (get_or order l 0) ≡ c → present_at points (get_or order l 0) ≡ true
      by true e = e
      by false e =
          absurd (omega (
            arith,
            span_stands order (row_first rows k) (row_count rows k) l a b,
            rows_stand order rows (get_or order l 0) k n h,
            r.once (get_or order l 0),
            ap one e,
          ))

  -- ---- what going through the rows comes to

  module _ (ray : Ray) {S : Type 0} (step : S → ℕ → S) (over : (s : S) (p : ℕ) → own_passed points ray p ≡ true → step s p ≡ s) (start : S) where
    span_passed : (first count : ℕ) → ((l : ℕ) → l < count → own_passed points ray (get_or order (first + l) 0) ≡ true) → (s : S) → fold_of step s (span_places order first count) ≡ s
    span_passed first zero h s = refl
    span_passed first (suc count) h s =
        fold_append step s (span_places order first count) (get_or order (first + count) 0 ∷ [])
        ∙ ap (λ (x : S). step x (get_or order (first + count) 0)) (span_passed first count (λ l k. h l (omega arith)) s)
        ∙ over s (get_or order (first + count) 0) (h count (omega arith))

    -- up to the row after a box that is passed over nothing is added
    pub passed_on : (k m : ℕ) → k < n → passed_over ray.origin ray.direction (row_bounds rows k) ≡ true → k ≤ m → m ≤ row_after rows k
        → fold_of step start (places_to order rows k) ≡ fold_of step start (places_to order rows m)
    unfolding places_to
    passed_on k zero h e a b = let z : k ≡ 0 = omega arith in rw z refl
    passed_on k (suc m) h e a b =
        ⊎_elim
        (λ (z : k ≡ suc m). rw z refl)
        (λ (c : k < suc m).
        passed_on k m h e (omega arith) (omega arith)
        ∙ sym (fold_append step start (places_to order rows m) (row_places order rows m)
        ∙ span_passed (row_first rows m) (row_count rows m) (λ l d. r.over ray k m l h e (omega arith) (omega arith) d) (fold_of step start (places_to order rows m))))
        (eq-or-lt_of_le a)

    -- with row k its run
    pub rows_next : (k : ℕ) → fold_of step (fold_of step start (places_to order rows k)) (row_places order rows k) ≡ fold_of step start (places_to order rows (suc k))
    unfolding places_to
    rows_next k = sym (fold_append step start (places_to order rows k) (row_places order rows k))

-- ---- a part of a row's run stays within the lists
pub row_fits : (scene : Scene) → Sound scene → (order : List ℕ) (n : ℕ) (rows : List Float) → Rowed scene.points order n rows
    → (k j left : ℕ) → k < n → row_first rows k ≤ j → j + left ≡ row_first rows k + row_count rows k
    → SpanFits scene.points scene.uses scene.kinds order rows j left
row_fits scene sound order n rows r k j left h a e =
    record {
      points_fit = sound.points;
      use_fits = sound.within;
      span_fits = omega (arith, r.run_fits k h);
      place_fits =
          λ l b c.
          let p : get_or order l 0 < length scene.points / 9 = present_within scene.points (get_or order l 0) (row_present scene.points order n rows r k l h (omega arith) (omega arith)) in
          omega (arith, sound.points);
      turned_fits = r.turned;
    }
