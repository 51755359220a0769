-- One turn of the loop over the rows: what the search found missed is left out, and the rest of the run gone through; there is room for what is collected. Assumes nothing.
use mathlib.Core.Path.{◌≡◌, refl, sym, ap, ◌∙◌}
use mathlib.Core.Bool.{true}
use mathlib.Core.List.{List, ◌∷◌, []}
use mathlib.Core.Logic.{⊎_elim}
use Prim.Native.Nat.{ℕ, zero, suc, ◌+◌, ◌-◌, ◌≤◌, ◌<◌}
use native.Mathlib.Nat.{eq-or-lt_of_le}
use native.Mathlib.Omega.{arith}
use lib.ListN.{length, get_or}
use lib.Ieee.{Float}
use Rattle.names.specs.Scene.{Scene, Sound, HitsFit}
use Rattle.vectors.specs.declared.Ray.{Ray}
use Rattle.triangle.specs.Missed.{Missed}
use Rattle.std.specs.Prelude.{None}
use Rattle.boxes.specs.Boxes.{passed_over}
use Rattle.boxes.specs.declared.Bounds.{Bounds}
use Rattle.tree_walk.specs.Boxed.{boxed_at}
use Rattle.tree_walk.specs.BoxedLaws.{boxed_over}
use Rattle.tree_walk.specs.FoldLaws.{fold_of, fold_append}
use Rattle.tree_walk.specs.Spans.{span_places}
use Rattle.tree_walk.specs.ListedLaws.{listed_room}
use Rattle.tree_walk.specs.Collect.{Collected, dark, collect_meet, collect_step}
use Rattle.tree_walk.proofs.CollectLaws.{listed_fits}
use Rattle.tree_walk.specs.Kept.{RoomFor}
use Rattle.tree_walk.proofs.Going.{span_missed}
use Rattle.tree_rows.specs.Rows.{row_bounds, row_after, row_first, row_count, row_places, places_to, Rowed}
use Rattle.row_walk.specs.RowLaws.{row_longer, rows_longer, passed_on, rows_next, row_fits}

-- ---- a span whose first places add nothing

module _ (order : List ℕ) {S : Type 0} (step : S → ℕ → S) where
  split : (first d e : ℕ) (s : S) → fold_of step s (span_places order first (d + e)) ≡ fold_of step (fold_of step s (span_places order first d)) (span_places order (first + d) e)
  split first d zero s = ap (λ (x : ℕ). fold_of step s (span_places order first x)) (let z : d + 0 ≡ d = omega arith in z)
  split first d (suc e) s =
      let z : d + suc e ≡ suc (d + e) = omega arith in
      let o : first + (d + e) ≡ first + d + e = omega arith in
      ap (λ (x : ℕ). fold_of step s (span_places order first x)) z
      ∙ fold_append step s (span_places order first (d + e)) (get_or order (first + (d + e)) 0 ∷ [])
      ∙ ap (λ (x : S). step x (get_or order (first + (d + e)) 0)) (split first d e s)
      ∙ ap (λ (x : ℕ). step (fold_of step (fold_of step s (span_places order first d)) (span_places order (first + d) e)) (get_or order x 0)) o
      ∙ sym (fold_append step (fold_of step s (span_places order first d)) (span_places order (first + d) e) (get_or order (first + d + e) 0 ∷ []))

  still : (first d : ℕ) → ((l : ℕ) → first ≤ l → l < first + d → (s : S) → step s (get_or order l 0) ≡ s) → (s : S) → fold_of step s (span_places order first d) ≡ s
  still first zero f s = refl
  still first (suc d) f s =
      fold_append step s (span_places order first d) (get_or order (first + d) 0 ∷ [])
      ∙ ap (λ (x : S). step x (get_or order (first + d) 0)) (still first d (λ l a b. f l a (omega arith)) s)
      ∙ f (first + d) (omega arith) (omega arith) s

  from_there : (first count j left : ℕ) → first ≤ j → j + left ≡ first + count → ((l : ℕ) → first ≤ l → l < j → (s : S) → step s (get_or order l 0) ≡ s)
      → (s : S) → fold_of step s (span_places order j left) ≡ fold_of step s (span_places order first count)
  from_there first count j left a e f s =
      let c : count ≡ j - first + left = omega arith in
      let o : first + (j - first) ≡ j = omega arith in
      sym (ap (λ (x : ℕ). fold_of step s (span_places order first x)) c ∙ split first (j - first) left s
      ∙ ap (λ (x : S). fold_of step x (span_places order (first + (j - first)) left)) (still first (j - first) (λ l b d. f l b (omega arith)) s)
      ∙ ap (λ (x : ℕ). fold_of step s (span_places order x left)) o)

-- ---- a turn, for a step to which what is missed adds nothing

module _ (scene : Scene) (sound : Sound scene) (order : List ℕ) (n : ℕ) (rows : List Float) (r : Rowed scene.points order n rows) (ray : Ray) {S : Type 0} (step : S → ℕ → S) (start : S)
    (missed : (p : ℕ) → boxed_at scene.points scene.uses scene.kinds ray p ≡ None → (s : S) → step s p ≡ s) (held : S) (k : ℕ) (h : k < n)
    (e : held ≡ fold_of step start (places_to order rows k)) where
  -- the box is passed over
  pub turn_over : (box : Bounds) → box ≡ row_bounds rows k → true ≡ passed_over ray.origin ray.direction box → (after : ℕ) → after ≡ row_after rows k
      → held ≡ fold_of step start (places_to order rows after)
  turn_over box b o after f =
      e ∙ passed_on scene.points order n rows r ray step (λ s p q. missed p (boxed_over scene ray p q) s) start k after h (rw b at (sym o)) (omega (arith, (r.forward k h).0)) (omega arith)

  module _ (first count j : ℕ) (f : first ≡ row_first rows k) (g : count ≡ row_count rows k) (a : first ≤ j) (b : j ≤ first + count) (m : Missed rows ray first j) where
    -- the rest of its run is gone through
    pub turn_run : (after : S) → after ≡ fold_of step held (span_places order j (first + count - j)) → after ≡ fold_of step start (places_to order rows (k + 1))
    turn_run after w =
        let z : suc k ≡ k + 1 = omega arith in
        w
        ∙ from_there order step (row_first rows k) (row_count rows k) j (first + count - j) (omega arith) (omega arith)
        (λ l c d s. missed (get_or order l 0) (span_missed scene.points scene.uses scene.kinds order rows (row_first rows k) (row_count rows k)
        (row_fits scene sound order n rows r k (row_first rows k) (row_count rows k) h (omega arith) refl) ray first j (omega arith) (omega arith) m l (omega arith) d) s)
        held
        ∙ ap (λ (x : S). fold_of step x (row_places order rows k)) e
        ∙ rows_next scene.points order n rows r ray step (λ s p q. missed p (boxed_over scene ray p q) s) start k
        ∙ ap (λ (x : ℕ). fold_of step start (places_to order rows x)) z

    -- or nothing of it is left
    pub turn_clear : first + count ≤ j → held ≡ fold_of step start (places_to order rows (k + 1))
    turn_clear x = turn_run held (let z : first + count - j ≡ 0 = omega arith in rw z refl)

-- ---- the hits that are collected

module _ (points : List Float) (uses kinds : List ℕ) (ray : Ray) (order : List ℕ) (rows : List Float) where
  dark_fold : (l : List ℕ) → fold_of (collect_step points uses kinds ray) dark l ≡ dark
  unfolding collect_meet
  dark_fold [] = refl
  dark_fold (p ∷ l) = dark_fold l

  -- after one that stops light nothing is added
  pub rows_dark : (a b : ℕ) (start : Collected) → a ≤ b
      → dark ≡ fold_of (collect_step points uses kinds ray) start (places_to order rows a) → dark ≡ fold_of (collect_step points uses kinds ray) start (places_to order rows b)
  unfolding places_to
  rows_dark a zero start h d = let z : a ≡ 0 = omega arith in rw z at d
  rows_dark a (suc b) start h d =
      ⊎_elim
      (λ (z : a ≡ suc b). rw z at d)
      (λ (l : a < suc b).
      sym (dark_fold (row_places order rows b)) ∙ ap (λ (c : Collected). fold_of (collect_step points uses kinds ray) c (row_places order rows b)) (rows_dark a b start (omega arith) d)
      ∙ sym (fold_append (collect_step points uses kinds ray) start (places_to order rows b) (row_places order rows b)))
      (eq-or-lt_of_le h)

module _ (scene : Scene) (sound : Sound scene) (order : List ℕ) (n : ℕ) (rows : List Float) (r : Rowed scene.points order n rows) where
  -- no more hits than triangles of the rows, and there is room for them
  pub rows_most : (k m : ℕ) → k ≤ n → m ≤ length (places_to order rows k) → m ≤ length scene.uses
  rows_most k m h a = omega (arith, rows_longer order rows k n h, listed_room scene sound (places_to order rows n) r.once)

  pub turn_most : (k m left h : ℕ) → m ≤ length (places_to order rows k) → left ≤ row_count rows k → h ≤ m + left → h ≤ length (places_to order rows (k + 1))
  turn_most k m left h a b c = let z : suc k ≡ k + 1 = omega arith in rw (← z) (omega (arith, row_longer order rows k))

  pub turn_room : (k m left d p : ℕ) → k < n → m ≤ length (places_to order rows k) → left ≤ row_count rows k → HitsFit scene d p → RoomFor scene.kinds (m + left) d p
  turn_room k m left d p h a b f o =
      let t = turn_most k m left (m + left) a b (omega arith) in
      let u = rows_longer order rows (k + 1) n (omega arith) in
      let w = listed_fits scene sound (places_to order rows n) r.once d p f o in
      (omega (arith, w.0), omega (arith, w.1))
