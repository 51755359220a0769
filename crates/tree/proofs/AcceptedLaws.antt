-- What follows of an accepted tree: the triangles of a leaf are present; with a box its halves and its triangles are passed over; no bound is NaN; the first box
-- has no parent; and there are fewer than twice as many boxes as triangles, since every box but the first is a half of one inner box, and every leaf holds a
-- triangle of its own. Assumes nothing.
use Rattle.std.specs.Prelude.{◌≡◌, Bool, not, List, eqb, Float}
use Rattle.std.proofs.Math.Path.{refl, ap}
use Rattle.std.proofs.Common.{sym, ◌∙◌}
use Rattle.std.proofs.Math.Bool.{true, false, cond}
use Prim.Native.Nat.{ℕ, zero, suc, ◌+◌, ◌-◌, ◌*◌, ◌/◌, ◌≤◌, ◌<◌}
use native.Mathlib.Omega.{arith}
use Rattle.std.proofs.lemmas.Bool.{eqb-false}
use Rattle.std.proofs.Math.ListN.{length}
use Rattle.vectors.specs.declared.Vec3.{Vec3}
use Rattle.triangle.specs.Places.{triangle_at}
use Rattle.boxes.specs.Boxes.{bounds_at, padded_of, passed_over}
use Rattle.boxes.specs.BoxLaws.{passed_inside, NumbersOf, inside_numbers}
use Rattle.tree.specs.Tree.{box_count, count_at, inner_at, left_at, right_at, place_at, present_at, sum_to, one, halves_of, parents_to, run_to, leaf_of, stands_to, AcceptedTree}
use Rattle.tree.specs.SumLaws.{one_self, one_other, positive, sum_more, sum_less, sum_same, sum_plus, sum_ones, sum_swap, sum_hit}
use Rattle.tree.proofs.TestLaws.{present_within}

module _ (points boxes : List Float) (nodes order : List ℕ) (t : AcceptedTree points boxes nodes order) where
  -- ---- the triangles of a leaf

  -- how often the k th triangle of leaf i stands, at least: before, and here
  pub stands_here : (i k : ℕ) → i < box_count nodes → inner_at nodes i ≡ false → k < count_at nodes i
      → stands_to nodes order i (place_at nodes order i k) + run_to nodes order i k (place_at nodes order i k) + 1 ≤ stands_to nodes order (box_count nodes) (place_at nodes order i k)
  unfolding stands_to run_to
  stands_here i k h q l =
      let p = place_at nodes order i k in
      let more : stands_to nodes order (suc i) p ≤ stands_to nodes order (box_count nodes) p = sum_more (leaf_of nodes order p) (suc i) (box_count nodes) h in
      let here : leaf_of nodes order p i ≡ run_to nodes order i (count_at nodes i) p = rw q refl in
      let run : run_to nodes order i (suc k) p ≤ run_to nodes order i (count_at nodes i) p = sum_more (λ j. one (eqb (place_at nodes order i j) p)) (suc k) (count_at nodes i) l in
      let self = one_self p in
      omega arith

  -- it is present, so that its place is within the scene's list
  pub leaf_present : (i k : ℕ) → i < box_count nodes → inner_at nodes i ≡ false → k < count_at nodes i → present_at points (place_at nodes order i k) ≡ true
  leaf_present i k h q l = by (present_at points (place_at nodes order i k)) refl
    where
      by : (b : Bool) → present_at points (place_at nodes order i k) ≡ b → present_at points (place_at nodes order i k) ≡ true
      by true e = e
      by false e = absurd (omega (arith, stands_here i k h q l, t.others_nowhere (place_at nodes order i k) e))

  -- ---- what is passed over with a box

  module _ (origin direction : Vec3) (i : ℕ) (h : i < box_count nodes) (over : passed_over origin direction (bounds_at boxes i) ≡ true) where
    -- its halves, and in a leaf each triangle's own padded box
    pub halves_passed : inner_at nodes i ≡ true
        → (passed_over origin direction (bounds_at boxes (left_at nodes i)) ≡ true) × (passed_over origin direction (bounds_at boxes (right_at nodes i)) ≡ true)
    halves_passed q =
        let s = t.inside_above i h q in (
          passed_inside origin direction (bounds_at boxes (left_at nodes i)) (bounds_at boxes i) s.0 over,
          passed_inside origin direction (bounds_at boxes (right_at nodes i)) (bounds_at boxes i) s.1 over,
        )

    pub triangles_passed : inner_at nodes i ≡ false → (k : ℕ) → k < count_at nodes i → passed_over origin direction (padded_of (triangle_at points (place_at nodes order i k))) ≡ true
    triangles_passed q k l = passed_inside origin direction (padded_of (triangle_at points (place_at nodes order i k))) (bounds_at boxes i) (t.inside_leaf i k h q l) over

  -- ---- no bound of a box is NaN

  pub bounds_numbers : (i : ℕ) → i < box_count nodes → NumbersOf (bounds_at boxes i)
  bounds_numbers i h = by (inner_at nodes i) refl
    where
      by : (b : Bool) → inner_at nodes i ≡ b → NumbersOf (bounds_at boxes i)
      by true q = (inside_numbers (bounds_at boxes (left_at nodes i)) (bounds_at boxes i) (t.inside_above i h q).0).1
      by false q =
          (inside_numbers (padded_of (triangle_at points (place_at nodes order i 0))) (bounds_at boxes i)
          (t.inside_leaf i 0 h q (positive (count_at nodes i) (eqb-false (count_at nodes i) 0 q)))).1

  abbrev inner : ℕ → ℕ
  inner i = one (inner_at nodes i)

  abbrev leaf : ℕ → ℕ
  leaf i = one (not (inner_at nodes i))

  -- ---- inner boxes and their halves

  either : (m : ℕ) → sum_to inner m + sum_to leaf m ≡ m
  either m = sym (sum_plus inner leaf m) ∙ sum_same (λ i. inner i + leaf i) (λ i. 1) m (λ i h. by (inner_at nodes i)) ∙ sum_ones m
    where
      by : (b : Bool) → one b + one (not b) ≡ 1
      by true = refl
      by false = refl

  -- box i has two halves, or none
  halves : (i : ℕ) → i < box_count nodes → sum_to (λ j. halves_of nodes j i) (box_count nodes) ≡ inner i + inner i
  halves i h = by (inner_at nodes i) refl
    where
      none : (m : ℕ) → sum_to (λ j. 0) m ≡ 0
      none zero = refl
      none (suc m) = let a = none m in omega arith

      by : (b : Bool) → inner_at nodes i ≡ b → sum_to (λ j. cond b (one (eqb (left_at nodes i) j) + one (eqb (right_at nodes i) j)) 0) (box_count nodes) ≡ one b + one b
      by true q =
          let a = sum_plus (λ j. one (eqb (left_at nodes i) j)) (λ j. one (eqb (right_at nodes i) j)) (box_count nodes) in
          let l = sum_hit (left_at nodes i) (box_count nodes) (t.left_follows i h q).1 in
          let r = sum_hit (right_at nodes i) (box_count nodes) (t.right_follows i h q).1 in
          omega arith
      by false q = none (box_count nodes)

  -- the first box has no parent, since children follow
  pub rootless : (m : ℕ) → m ≤ box_count nodes → parents_to nodes m 0 ≡ 0
  unfolding parents_to
  rootless zero h = refl
  rootless (suc m) h = let a = rootless m (omega arith) in let b = by (inner_at nodes m) refl in omega arith
    where
      by : (b : Bool) → inner_at nodes m ≡ b → cond b (one (eqb (left_at nodes m) 0) + one (eqb (right_at nodes m) 0)) 0 ≡ 0
      by true q =
          let l = (t.left_follows m (omega arith) q).0 in
          let r = (t.right_follows m (omega arith) q).0 in
          omega (arith, one_other (left_at nodes m) 0 (λ (e : left_at nodes m ≡ 0). omega arith), one_other (right_at nodes m) 0 (λ (e : right_at nodes m ≡ 0). omega arith))
      by false q = refl

  -- so the first m + 1 boxes have m parents
  parents : (m : ℕ) → suc m ≤ box_count nodes → sum_to (parents_to nodes (box_count nodes)) (suc m) ≡ m
  parents zero h = omega (arith, rootless (box_count nodes) (omega arith))
  parents (suc m) h = let a = parents m (omega arith) in let b = t.one_parent (suc m) (omega arith) h in omega arith

  -- ---- leaves and their triangles

  -- a leaf holds a triangle
  holds : (i : ℕ) → i < box_count nodes → leaf i ≤ sum_to (λ p. leaf_of nodes order p i) (length points / 9)
  unfolding run_to
  holds i h = by (inner_at nodes i) refl
    where
      by : (b : Bool) → inner_at nodes i ≡ b → one (not b) ≤ sum_to (λ p. cond b 0 (run_to nodes order i (count_at nodes i) p)) (length points / 9)
      by true q = omega arith
      by false q =
          let some = positive (count_at nodes i) (eqb-false (count_at nodes i) 0 q) in
          let f = place_at nodes order i 0 in
          let hit = sum_hit f (length points / 9) (present_within points f (leaf_present i 0 h q some)) in
          let less = sum_less (λ p. one (eqb f p)) (run_to nodes order i (count_at nodes i)) (length points / 9) (λ p _. omega (arith, sum_more (λ k. one (eqb (place_at nodes order i k) p)) 1 (count_at nodes i) some)) in
          omega arith

  -- no triangle stands twice
  stands_most : (p : ℕ) → stands_to nodes order (box_count nodes) p ≤ 1
  stands_most p = by (present_at points p) refl
    where
      by : (b : Bool) → present_at points p ≡ b → stands_to nodes order (box_count nodes) p ≤ 1
      by true e = omega (arith, t.stands_once p e)
      by false e = omega (arith, t.others_nowhere p e)

  leaves_most : sum_to leaf (box_count nodes) ≤ length points / 9
  unfolding stands_to
  leaves_most =
      let a = sum_less leaf (λ i. sum_to (λ p. leaf_of nodes order p i) (length points / 9)) (box_count nodes) holds in
      let b = sum_swap (leaf_of nodes order) (length points / 9) (box_count nodes) in
      let c = sum_less (stands_to nodes order (box_count nodes)) (λ p. 1) (length points / 9) (λ p _. stands_most p) in
      let d = sum_ones (length points / 9) in
      omega arith

  -- ---- fewer boxes than twice the triangles

  pub few_boxes : box_count nodes ≤ length points / 9 * 2 - 1
  unfolding parents_to
  few_boxes = go (box_count nodes) refl
    where
      go : (m : ℕ) → box_count nodes ≡ m → box_count nodes ≤ length points / 9 * 2 - 1
      go zero e = omega arith
      go (suc m) e =
          let a = sum_swap (halves_of nodes) (box_count nodes) (box_count nodes) in
          let b = sum_same (λ i. sum_to (λ j. halves_of nodes j i) (box_count nodes)) (λ i. inner i + inner i) (box_count nodes) halves in
          let c = sum_plus inner inner (box_count nodes) in
          let d = parents m (omega arith) in
          let f = ap (sum_to (parents_to nodes (box_count nodes))) e in
          let g = either (box_count nodes) in
          let k = leaves_most in
          omega arith
