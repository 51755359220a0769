-- The builder's tree is accepted, for every scene whose points row 5 accepts and whose triangles are at most 4,096, and whatever the order of the triangles.
-- Assumes nothing.
use Rattle.std.specs.Prelude.{◌≡◌, Bool, true, false, List, get_or, Float}
use Rattle.std.proofs.Math.Path.{refl, sym, ap}
use Rattle.std.proofs.Common.{◌∙◌}
use Rattle.std.proofs.lemmas.Bool.{false≢true}
use Prim.Native.Nat.{ℕ, zero, suc, ◌+◌, ◌/◌, ◌≤◌, ◌<◌}
use Rattle.std.proofs.Math.Nat.{zero-add}
use native.Mathlib.Omega.{arith}
use Rattle.std.proofs.Math.ListN.{length}
use Rattle.names.specs.Numbers.{triangle_limit}
use Rattle.limits.specs.Limits.{bad_points}
use Rattle.tree.specs.Tree.{box_count, present_at, one, parents_to, stands_to, Deep, root, left, right, AcceptedTree}
use Rattle.tree.specs.SumLaws.{one_other, sum_hit}
use Rattle.tree.proofs.TestLaws.{present_within}
use Rattle.tree_build.specs.Built.{Built, times_in, BuiltTree}
use Rattle.tree_build.specs.RunLaws.{times_here}
use Rattle.tree_build.specs.JoinLaws.{NumbersIn}
use Rattle.tree_build.specs.PointLaws.{padded_numbers}
use Rattle.tree_build.specs.BuiltLaws.{built_parents, built_stands}
use Rattle.tree_build.specs.EachBoxLaws.{BoxAt, box_at, built_follows, built_run, built_leaf, built_above, deep_box}

deep_none : (nodes : List ℕ) {i d : ℕ} → box_count nodes ≡ 0 → Deep nodes i d → d ≡ 0
deep_none nodes z root = refl
deep_none nodes z (left {i} {d} l q e) = absurd (omega arith)
deep_none nodes z (right {i} {d} l q e) = absurd (omega arith)

module _ (points boxes : List Float) (nodes order : List ℕ) (t : BuiltTree points boxes nodes order) where
  -- a tree with a box has a triangle
  some : 0 < box_count nodes → 0 < length order
  some h = by (length order) refl
    where
      by : (m : ℕ) → length order ≡ m → 0 < length order
      by zero e = absurd (omega (arith, t.none e))
      by (suc m) e = omega arith

  of : (i : ℕ) → i < box_count nodes → Built points boxes nodes order 0 0 (length order) (box_count nodes)
  of i h = t.tree (some (omega arith))

  -- what stands in the order is present
  present_in_lem : (k : ℕ) → k < length order → present_at points (get_or order k 0) ≡ true
  present_in_lem k h = by (present_at points (get_or order k 0)) refl
    where
      by : (b : Bool) → present_at points (get_or order k 0) ≡ b → present_at points (get_or order k 0) ≡ true
      by true e = e
      by false e = absurd (omega (arith, rw (zero-add k) at (times_here order 0 (length order) k h), t.each_once (get_or order k 0), ap one e))

  -- what stands in the boxes
  stands : (p : ℕ) → stands_to nodes order (box_count nodes) p ≡ one (present_at points p)
  unfolding stands_to times_in
  stands p = by (length order) refl
    where
      by : (m : ℕ) → length order ≡ m → stands_to nodes order (box_count nodes) p ≡ one (present_at points p)
      by zero e = ap (λ (x : ℕ). stands_to nodes order x p) (t.none e) ∙ sym (ap (λ (x : ℕ). times_in order 0 x p) e) ∙ t.each_once p
      by (suc m) e = built_stands p (t.tree (omega arith)) ∙ zero-add (times_in order 0 (length order) p) ∙ t.each_once p

  module _ (accepted : bad_points points ≡ false) (few : length points / 9 ≤ triangle_limit) where
    numbers : (first count : ℕ) → first + count ≤ length order → NumbersIn points order first count
    numbers first count h k l =
        padded_numbers points (get_or order (first + k) 0) accepted (present_within points (get_or order (first + k) 0) (present_in_lem (first + k) (omega arith)))

    pub built_accepted : AcceptedTree points boxes nodes order
    built_accepted =
        record {
          nodes_fit = t.nodes_fit;
          boxes_fit = t.boxes_fit;
          order_fits = t.few;
          one_parent = parent;
          stands_once = λ p e. stands p ∙ ap one e;
          others_nowhere = λ p e. stands p ∙ ap one e;
          inside_leaf = λ i k h q l. let b = at i h in built_leaf points boxes nodes order b.built (numbers b.first b.count b.ends) q k l;
          inside_above = λ i h q. let b = at i h in built_above points boxes nodes order b.built (numbers b.first b.count b.ends) q;
          left_follows = λ i h q. let b = at i h in let s = b.stops in let f = built_follows points boxes nodes order b.built q in (f.0, omega (arith, f.1));
          right_follows = λ i h q. let b = at i h in let s = b.stops in let f = built_follows points boxes nodes order b.built q in (f.2, omega (arith, f.3));
          run_fits = λ i h q. let b = at i h in let s = b.ends in let f = built_run points boxes nodes order b.built q in omega (arith, f.0, f.1);
          shallow = depth;
          empty_there_only = (nothing, empty);
        }
      where
        at : (i : ℕ) → i < box_count nodes → BoxAt points boxes nodes order i 0 (length order) (box_count nodes)
        at i h = rw (zero-add (length order)) at (box_at points boxes nodes order i (of i h) (omega arith) h)

        parent : (j : ℕ) → 0 < j → j < box_count nodes → parents_to nodes (box_count nodes) j ≡ 1
        parent j l h =
            let a = built_parents j (of j h) in
            let b = sum_hit j (box_count nodes) h in
            let c = one_other j 0 (λ (e : j ≡ 0). omega arith) in
            let d : parents_to nodes 0 j ≡ 0 = unfold parents_to in refl in
            omega arith

        depth : (i d : ℕ) → Deep nodes i d → d ≤ 24
        depth i d e = by (box_count nodes) refl
          where
            by : (m : ℕ) → box_count nodes ≡ m → d ≤ 24
            by zero z = omega (arith, deep_none nodes z e)
            by (suc m) z = let f = t.few in omega (arith, (deep_box points boxes nodes order (of 0 (omega arith)) (omega arith) e).depth)

        nothing : box_count nodes ≡ 0 → (p : ℕ) → present_at points p ≡ false
        nothing z p = by (present_at points p) refl
          where
            by : (b : Bool) → present_at points p ≡ b → present_at points p ≡ false
            by false e = e
            by true e =
                let o : stands_to nodes order 0 p ≡ 0 = unfold stands_to in refl in
                absurd (omega (arith, stands p, ap one e, ap (λ (x : ℕ). stands_to nodes order x p) z))

        empty : ((p : ℕ) → present_at points p ≡ false) → box_count nodes ≡ 0
        empty h = by (length order) refl
          where
            by : (m : ℕ) → length order ≡ m → box_count nodes ≡ 0
            by zero e = t.none e
            by (suc m) e = absurd (false≢true (sym (h (get_or order 0 0)) ∙ present_in_lem 0 (omega arith)))
