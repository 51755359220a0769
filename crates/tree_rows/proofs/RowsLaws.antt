-- The rows of an accepted tree hold all that a scan by them may count on (`tree_rowed`): there are as many rows as boxes; a box's row is followed by the rows of all
-- inside it, up to the one that it names; and the triangles of the rows, in their order, are those under the root. Assumes nothing.
use Rattle.std.specs.Prelude.{◌≡◌, Bool, get_or, Float}
use Rattle.std.proofs.Math.Path.{refl, sym, ap}
use Rattle.std.proofs.Common.{subst, ◌∙◌}
use Rattle.std.proofs.Math.Bool.{true, false, cond}
use mathlib.Core.List.{List, [], ◌∷◌, ◌++◌, append-nil, append_assoc}
use Prim.Native.Nat.{ℕ, zero, suc, ◌+◌, ◌*◌, ◌≤◌, ◌<◌}
use native.Mathlib.Omega.{arith}
use borrow.Author.Tests.{eqb-true, eqb-false, ltb-true, ltb-false}
use Rattle.std.proofs.Math.Arith.{lt_of_le-ne}
use Rattle.std.proofs.Math.Dec.{eqb, ltb}
use Rattle.std.proofs.Math.ListN.{length}
use Rattle.std.specs.Float.{nan}
use Rattle.std.specs.Float.Ieee.{is_nan}
use Rattle.names.specs.Numbers.{triangle_limit, depth_limit}
use Rattle.vectors.specs.declared.Ray.{Ray}
use Rattle.triangle.specs.Places.{triangle_at}
use Rattle.panels.specs.Panels.{own_passed}
use Rattle.boxes.specs.Boxes.{bounds_at, passed_over}
use Rattle.tree.specs.Tree.{box_count, count_at, inner_at, left_at, right_at, first_at, place_at, one, root, AcceptedTree}
use Rattle.tree.specs.SumLaws.{positive, sum_ones}
use Rattle.tree.proofs.AcceptedLaws.{few_boxes, halves_passed, triangles_passed}
use Rattle.tree_walk.specs.CountLaws.{under_first}
use Rattle.tree_walk.specs.FoldLaws.{stands_in}
use Rattle.tree_walk.specs.Spans.{span_places}
use Rattle.tree_walk.specs.Turned.{Turned}
use Rattle.tree_walk.specs.UnderLaws.{run_places, places_under, Levels, leaf, halves, depth_levels, follow_levels, root_stands}
use Rattle.tree_rows.specs.Rows.{row_start, row_bounds, row_after, row_first, row_count, row_places, places_to, Rowed}
use Rattle.tree_rows.specs.Layout.{whole_limit, boxes_under, with_rows, with_tree, Lays}
use Rattle.tree_rows.specs.LayoutLaws.{KeptRows}
use Rattle.tree_rows.proofs.LayoutLaws.{vec_same, reads_after, reads_first, reads_count, no_nans, RowsOf, none, one_row, two_halves, goes_up, rows_kept, rows_written}

-- ---- as many rows as boxes

module _ (nodes : List ℕ) where
  -- more levels than there are add nothing
  enough : (n e : ℕ) {i : ℕ} → Levels nodes n i → boxes_under nodes n i ≡ boxes_under nodes (n + e) i
  unfolding boxes_under
  enough zero e {i = i} x' = elim x' [ ]
  enough (suc n) e {i} (leaf q) = let s : suc n + e ≡ suc (n + e) = omega arith in rw (s, q)
  enough (suc n) e {i} (halves q l r) = let s : suc n + e ≡ suc (n + e) = omega arith in rw (s, q, enough n e l, enough n e r)

  same_boxes : (m n i : ℕ) → Levels nodes m i → Levels nodes n i → boxes_under nodes m i ≡ boxes_under nodes n i
  same_boxes m n i a b = enough m n a ∙ ap (λ (k : ℕ). boxes_under nodes k i) (let e : m + n ≡ n + m = omega arith in e) ∙ sym (enough n m b)

-- the points lie before the rows
turned_kept : (points : List Float) (order : List ℕ) (rows rows' : List Float) (to : ℕ) → length order ≤ triangle_limit → KeptRows rows rows' (row_start 0) to → Turned points order rows → Turned points order rows'
unfolding triangle_at
turned_kept points order rows rows' to few kept t =
    record {
      long = omega (arith, t.long, kept.same);
      same =
          λ k h w.
          rw (
            vec_same rows rows' (k * 9) (λ j a b. kept.below j (omega arith)),
            vec_same rows rows' (k * 9 + 3) (λ j a b. kept.below j (omega arith)),
            vec_same rows rows' (k * 9 + 6) (λ j a b. kept.below j (omega arith)),
          ) (t.same k h w);
    }

-- a leaf's run, as its row has it
span_run : (nodes order : List ℕ) (i n : ℕ) → span_places order (first_at nodes i) n ≡ run_places nodes order i n
unfolding place_at
span_run nodes order i zero = refl
span_run nodes order i (suc n) = ap (λ (l : List ℕ). l ++ (get_or order (first_at nodes i + n) 0 ∷ [])) (span_run nodes order i n)

module _ (points boxes : List Float) (nodes order : List ℕ) (t : AcceptedTree points boxes nodes order) where
  under : (i : ℕ) → i < box_count nodes
      → boxes_under nodes (box_count nodes) i ≡ 1 + cond (inner_at nodes i) (boxes_under nodes (box_count nodes) (left_at nodes i) + boxes_under nodes (box_count nodes) (right_at nodes i)) 0
  unfolding boxes_under
  under i h = go (box_count nodes) refl
    where
      go : (m : ℕ) → box_count nodes ≡ m
          → boxes_under nodes m i ≡ 1 + cond (inner_at nodes i) (boxes_under nodes (box_count nodes) (left_at nodes i) + boxes_under nodes (box_count nodes) (right_at nodes i)) 0
      go zero e = absurd (omega arith)
      go (suc k) e = by (inner_at nodes i) refl
        where
          more : (j : ℕ) → i < j → j < box_count nodes → boxes_under nodes k j ≡ boxes_under nodes (box_count nodes) j
          more j a b =
              same_boxes nodes k (box_count nodes) j (follow_levels points boxes nodes order t k j b (omega arith)) (follow_levels points boxes nodes order t (box_count nodes) j b (omega arith))

          by : (b : Bool) → inner_at nodes i ≡ b
              → cond b (1 + boxes_under nodes k (left_at nodes i) + boxes_under nodes k (right_at nodes i)) 1
              ≡ 1 + cond b (boxes_under nodes (box_count nodes) (left_at nodes i) + boxes_under nodes (box_count nodes) (right_at nodes i)) 0
          by true q =
              let l = t.left_follows i h q in
              let r = t.right_follows i h q in
              omega (arith, more (left_at nodes i) l.0 l.1, more (right_at nodes i) r.0 r.1)
          by false q = refl

  pub root_boxes : 0 < box_count nodes → boxes_under nodes (suc depth_limit) 0 ≡ box_count nodes
  root_boxes h =
      same_boxes nodes (suc depth_limit) (box_count nodes) 0 (depth_levels points boxes nodes order t (suc depth_limit) 0 0 h root refl) (follow_levels points boxes nodes order t (box_count nodes) 0 h (omega arith))
      ∙ under_first points boxes nodes order t (boxes_under nodes (box_count nodes)) (λ i. 1) under h
      ∙ sum_ones (box_count nodes)

  module _ (small : length points ≤ triangle_limit * 9) where
    -- every whole number of a row is small
    pub boxes_small : box_count nodes < triangle_limit * 2
    boxes_small = omega (arith, few_boxes points boxes nodes order t)

    run_small_lem : (i : ℕ) → i < box_count nodes → inner_at nodes i ≡ false → first_at nodes i + count_at nodes i < whole_limit
    run_small_lem i h q = omega (arith, t.run_fits i h q, t.order_fits)

    pub accepted_lays : Lays boxes nodes
    accepted_lays = record { boxes_fit = t.boxes_fit; left_fits = λ i h q. (t.left_follows i h q).1; right_fits = λ i h q. (t.right_follows i h q).1; run_small = run_small_lem }

    module _ (rows : List Float) where
      -- ---- the row of a box

      record Row (i k end : ℕ) : Type 0 where
        bounds : row_bounds rows k ≡ bounds_at boxes i
        numbers : (is_nan (get_or rows (row_start k + 6) nan) ≡ false) × (is_nan (get_or rows (row_start k + 7) nan) ≡ false) × (is_nan (get_or rows (row_start k + 8) nan) ≡ false)
        forward : k < end
        after : row_after rows k ≡ end
        run_fits : row_first rows k + row_count rows k ≤ length order

      row : {n i k end : ℕ} → i < box_count nodes → end ≤ box_count nodes → RowsOf boxes nodes rows (suc n) i k end → Row i k end
      row {n} {i} h l (one_row q r) =
          let s = run_small_lem i h q in
          let b = boxes_small in
          let f = reads_first r (omega arith) in
          let c = reads_count r (omega arith) in
          record {
            bounds = r.box;
            numbers = no_nans r (omega arith) (omega arith) (omega arith);
            forward = omega arith;
            after = reads_after r (omega arith);
            run_fits = omega (arith, f, c, t.run_fits i h q);
          }
      row h l (two_halves q r x y) =
          let b = boxes_small in
          let f = reads_first r (omega arith) in
          let c = reads_count r (omega arith) in
          let u = goes_up boxes nodes x in
          let v = goes_up boxes nodes y in
          record { bounds = r.box; numbers = no_nans r (omega arith) (omega arith) (omega arith); forward = omega arith; after = reads_after r (omega arith); run_fits = omega (arith, f, c) }

      -- each row among those of a box is a box's
      record Found (m end : ℕ) : Type 0 where
        levels : ℕ
        box : ℕ
        stop : ℕ
        within : box < box_count nodes
        ends : stop ≤ end
        under : RowsOf boxes nodes rows (suc levels) box m stop

      further : (m a b : ℕ) → a ≤ b → Found m a → Found m b
      further m a b h f = record { levels = f.levels; box = f.box; stop = f.stop; within = f.within; ends = omega (arith, f.ends); under = f.under }

      found : (n : ℕ) {i k end : ℕ} → i < box_count nodes → RowsOf boxes nodes rows n i k end → (m : ℕ) → k ≤ m → m < end → Found m end
      found n h none m a b = absurd (omega arith)
      found (suc n) {i} {k} h (one_row q r) m a b =
          subst (λ (x : ℕ). Found x (k + 1)) (let e : k ≡ m = omega arith in e) (record { levels = n; box = i; stop = k + 1; within = h; ends = omega arith; under = one_row q r })
      found (suc n) {i} {k} {end} h (two_halves {middle = middle} q r x y) m a b =
          by (eqb k m) refl (ltb m middle) refl (λ p w. found n (t.left_follows i h q).1 x m p w) (λ p. found n (t.right_follows i h q).1 y m p b)
        where
          by : (c : Bool) → eqb k m ≡ c → (d : Bool) → ltb m middle ≡ d → (k + 1 ≤ m → m < middle → Found m middle) → (middle ≤ m → Found m end) → Found m end
          by true e d f left right =
              subst (λ (x : ℕ). Found x end) (eqb-true k m e) (record { levels = n; box = i; stop = end; within = h; ends = omega arith; under = two_halves q r x y })
          by false e true f left right = further m middle end (goes_up boxes nodes y) (left (let s = lt_of_le-ne a (eqb-false k m e) in omega arith) (ltb-true m middle f))
          by false e false f left right = right (ltb-false m middle f)

      -- ---- with a box all inside it is passed over

      passed : (ray : Ray) (n : ℕ) {i k end : ℕ} → i < box_count nodes → end ≤ box_count nodes → RowsOf boxes nodes rows n i k end
          → passed_over ray.origin ray.direction (bounds_at boxes i) ≡ true
          → (m l : ℕ) → k ≤ m → m < end → l < row_count rows m → own_passed points ray (get_or order (row_first rows m + l) 0) ≡ true
      unfolding own_passed place_at
      passed ray n h u none over m l a b c = absurd (omega arith)
      passed ray (suc n) {i} {k} h u (one_row q r) over m l a b c =
          let s = run_small_lem i h q in
          let e : m ≡ k = omega arith in
          let f : row_first rows m ≡ first_at nodes i = ap (row_first rows) e ∙ reads_first r (omega arith) in
          let d : row_count rows m ≡ count_at nodes i = ap (row_count rows) e ∙ reads_count r (omega arith) in
          rw f (triangles_passed points boxes nodes order t ray.origin ray.direction i h over q l (omega arith))
      passed ray (suc n) {i} {k} {end} h u (two_halves {middle = middle} q r x y) over m l a b c =
          let v = goes_up boxes nodes y in
          let o = halves_passed points boxes nodes order t ray.origin ray.direction i h over q in
          by (eqb k m) refl (ltb m middle) refl (λ p w. passed ray n (t.left_follows i h q).1 (omega arith) x o.0 m l p w c) (λ p. passed ray n (t.right_follows i h q).1 u y o.1 m l p b c)
        where
          by : (s : Bool) → eqb k m ≡ s → (d : Bool) → ltb m middle ≡ d → (k + 1 ≤ m → m < middle → own_passed points ray (get_or order (row_first rows m + l) 0) ≡ true)
              → (middle ≤ m → own_passed points ray (get_or order (row_first rows m + l) 0) ≡ true) → own_passed points ray (get_or order (row_first rows m + l) 0) ≡ true
          by true e d f left right = absurd (omega (arith, ap (row_count rows) (sym (eqb-true k m e)), reads_count r (omega arith)))
          by false e true f left right = left (let s = lt_of_le-ne a (eqb-false k m e) in omega arith) (ltb-true m middle f)
          by false e false f left right = right (ltb-false m middle f)

      -- ---- the triangles of the rows are those under the box

      next : (k : ℕ) → places_to order rows (k + 1) ≡ places_to order rows k ++ row_places order rows k
      unfolding places_to
      next k = ap (places_to order rows) (let e : k + 1 ≡ suc k = omega arith in e)

      places : (n : ℕ) {i k end : ℕ} → i < box_count nodes → end ≤ box_count nodes → RowsOf boxes nodes rows n i k end → places_to order rows end ≡ places_to order rows k ++ places_under nodes order n i
      unfolding places_under
      places zero {i} {k} h u none = sym (append-nil (places_to order rows k))
      places (suc n) {i} {k} h u (one_row q r) =
          let s = run_small_lem i h q in
          next k ∙ rw (q, reads_first r (omega arith), reads_count r (omega arith)) (ap (λ (l : List ℕ). places_to order rows k ++ l) (span_run nodes order i (count_at nodes i)))
      places (suc n) {i} {k} {end} h u (two_halves {middle = middle} q r x y) =
          let v = goes_up boxes nodes y in
          let own : places_to order rows (k + 1) ≡ places_to order rows k = next k ∙ rw (reads_count r (omega arith)) (append-nil (places_to order rows k)) in
          let a = places_under nodes order n (left_at nodes i) in
          let b = places_under nodes order n (right_at nodes i) in
          places n (t.right_follows i h q).1 u y
          ∙ ap (λ (l : List ℕ). l ++ b) (places n (t.left_follows i h q).1 (omega arith) x ∙ ap (λ (l : List ℕ). l ++ a) own)
          ∙ rw q (append_assoc (places_to order rows k) a b)

    -- ---- the rows of the tree

    root_rowed : (rows : List Float) → 0 < box_count nodes → triangle_limit * 27 ≤ length rows → Turned points order rows → RowsOf boxes nodes rows (suc depth_limit) 0 0 (box_count nodes)
        → Rowed points order (box_count nodes) rows
    unfolding places_to
    root_rowed rows h long turned w =
        let b = boxes_small in
        let n = box_count nodes in
        let at : (k : ℕ) → k < n → Found rows k n = λ k l. found rows (suc depth_limit) h w k (omega arith) l in
        let is : (k : ℕ) (l : k < n) → Row rows (at k l).box k (at k l).stop = λ k l. row rows (at k l).within (at k l).ends (at k l).under in
        record {
          turned = turned;
          long = omega arith;
          numbers = λ k l. (is k l).numbers;
          forward = λ k l. (omega (arith, (is k l).forward, (is k l).after), omega (arith, (is k l).after, (at k l).ends));
          run_fits = λ k l. (is k l).run_fits;
          over =
              λ ray k m l p o a c d.
              passed rows ray (suc (at k p).levels) (at k p).within (at k p).ends (at k p).under (rw (← (is k p).bounds) o) m l a (omega (arith, (is k p).after)) d;
          once = λ p. ap (stands_in p) (places rows (suc depth_limit) h (omega arith) w) ∙ root_stands points boxes nodes order t h p;
        }

    pub tree_rowed : (rows : List Float) → triangle_limit * 27 ≤ length rows → Turned points order rows → Rowed points order (box_count nodes) (with_tree boxes nodes rows)
    unfolding with_tree places_to
    tree_rowed rows long turned = by (eqb (box_count nodes) 0) refl
      where
        by : (b : Bool) → eqb (box_count nodes) 0 ≡ b → Rowed points order (box_count nodes) (cond b rows (with_rows boxes nodes (suc depth_limit) 0 0 rows))
        by true e =
            let z = eqb-true (box_count nodes) 0 e in
            record {
              turned = turned;
              long = omega arith;
              numbers = λ k l. absurd (omega arith);
              forward = λ k l. absurd (omega arith);
              run_fits = λ k l. absurd (omega arith);
              over = λ ray k m l p o a c d. absurd (omega arith);
              once = λ p. rw z (sym (ap one (t.empty_there_only.0 z p)));
            }
        by false e =
            let h = positive (box_count nodes) (eqb-false (box_count nodes) 0 e) in
            let b = boxes_small in
            let s = root_boxes h in
            let kept = rows_kept boxes nodes (suc depth_limit) 0 0 rows in
            let few : length order ≤ triangle_limit = omega (arith, t.order_fits) in
            root_rowed (with_rows boxes nodes (suc depth_limit) 0 0 rows) h (omega (arith, kept.same)) (turned_kept points order rows _ _ few kept turned)
            (subst (RowsOf boxes nodes (with_rows boxes nodes (suc depth_limit) 0 0 rows) (suc depth_limit) 0 0) (let z : 0 + boxes_under nodes (suc depth_limit) 0 ≡ box_count nodes = omega arith in z)
            (rows_written boxes nodes (suc depth_limit) 0 0 rows (omega arith)))
