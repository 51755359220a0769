-- Where each box but the first has one parent, what is counted under the first box is what is counted over all boxes. Assumes nothing.
use Rattle.std.specs.Prelude.{◌≡◌, Bool, true, false, cond, List, eqb, Float}
use Rattle.std.proofs.Math.Path.{refl, ap}
use Rattle.std.proofs.Common.{sym, ◌∙◌, mul-add, mul-one, mul-zero, eqb-true}
use Prim.Native.Nat.{ℕ, zero, suc, ◌+◌, ◌*◌, ◌≤◌, ◌<◌}
use native.Mathlib.Omega.{arith}
use Rattle.std.proofs.lemmas.Bool.{eqb-false}
use Rattle.std.proofs.Math.Arith.{lt_of_le-ne}
use Rattle.tree.specs.Tree.{box_count, inner_at, left_at, right_at, sum_to, one, halves_of, parents_to, AcceptedTree}
use Rattle.tree.specs.SumLaws.{one_other, sum_same, sum_plus}
use Rattle.tree.proofs.AcceptedLaws.{rootless}

module _ (w : ℕ → ℕ) where
  -- of the terms of a sum the one at x is left
  none_left : (x m : ℕ) → m ≤ x → sum_to (λ j. w j * one (eqb x j)) m ≡ 0
  none_left x zero h = refl
  none_left x (suc m) h =
      let a = none_left x m (omega arith) in
      let z : w m * one (eqb x m) ≡ 0 = rw (one_other x m (λ (q : x ≡ m). omega arith)) (mul-zero (w m)) in
      omega arith

  one_left : (x m : ℕ) → x < m → sum_to (λ j. w j * one (eqb x j)) m ≡ w x
  one_left x zero h = absurd (omega arith)
  one_left x (suc m) h = by (eqb x m) refl (one_left x m)
    where
      by : (b : Bool) → eqb x m ≡ b → (x < m → sum_to (λ j. w j * one (eqb x j)) m ≡ w x) → sum_to (λ j. w j * one (eqb x j)) m + w m * one b ≡ w x
      by true e rec =
          let q = eqb-true x m e in
          let a = none_left x m (omega arith) in
          let v : w m ≡ w x = ap w (sym q) in
          omega (arith, mul-one (w m))
      by false e rec = let a = rec (lt_of_le-ne (omega arith) (eqb-false x m e)) in omega (arith, mul-zero (w m))

  zeros : (m : ℕ) → sum_to (λ j. w j * 0) m ≡ 0
  zeros zero = refl
  zeros (suc m) = let a = zeros m in omega (arith, mul-zero (w m))

module _ (points boxes : List Float) (nodes order : List ℕ) (t : AcceptedTree points boxes nodes order) (w c : ℕ → ℕ)
    (under : (i : ℕ) → i < box_count nodes → w i ≡ c i + cond (inner_at nodes i) (w (left_at nodes i) + w (right_at nodes i)) 0) where
  halves : (i : ℕ) → i < box_count nodes → sum_to (λ j. w j * halves_of nodes j i) (box_count nodes) ≡ cond (inner_at nodes i) (w (left_at nodes i) + w (right_at nodes i)) 0
  halves i h = by (inner_at nodes i) refl
    where
      by : (b : Bool) → inner_at nodes i ≡ b
          → sum_to (λ j. w j * cond b (one (eqb (left_at nodes i) j) + one (eqb (right_at nodes i) j)) 0) (box_count nodes) ≡ cond b (w (left_at nodes i) + w (right_at nodes i)) 0
      by true e =
          let l : ℕ → ℕ = λ j. w j * one (eqb (left_at nodes i) j) in
          let r : ℕ → ℕ = λ j. w j * one (eqb (right_at nodes i) j) in
          sum_same _ (λ j. l j + r j) (box_count nodes) (λ j _. mul-add (w j) (one (eqb (left_at nodes i) j)) (one (eqb (right_at nodes i) j)))
          ∙ sum_plus l r (box_count nodes)
          ∙ (let a = one_left w (left_at nodes i) (box_count nodes) (t.left_follows i h e).1 in let b = one_left w (right_at nodes i) (box_count nodes) (t.right_follows i h e).1 in omega arith)
      by false e = zeros w (box_count nodes)

  -- the first m boxes: their own, and what their halves come to
  prefix : (m : ℕ) → m ≤ box_count nodes → sum_to w m ≡ sum_to c m + sum_to (λ j. w j * sum_to (halves_of nodes j) m) (box_count nodes)
  prefix zero h = omega (arith, zeros w (box_count nodes))
  prefix (suc m) h =
      let a = prefix m (omega arith) in
      let u = under m (omega arith) in
      let k = halves m (omega arith) in
      let s : sum_to (λ j. w j * (sum_to (halves_of nodes j) m + halves_of nodes j m)) (box_count nodes) ≡ sum_to (λ j. w j * sum_to (halves_of nodes j) m) (box_count nodes) + sum_to (λ j. w j * halves_of nodes j m) (box_count nodes) =
      sum_same _ (λ j. w j * sum_to (halves_of nodes j) m + w j * halves_of nodes j m) (box_count nodes) (λ j _. mul-add (w j) (sum_to (halves_of nodes j) m) (halves_of nodes j m))
      ∙ sum_plus (λ j. w j * sum_to (halves_of nodes j) m) (λ j. w j * halves_of nodes j m) (box_count nodes)
      in
      omega arith

  -- every box but the first is one half
  rest : (m : ℕ) → m < box_count nodes → sum_to w (suc m) ≡ w 0 + sum_to (λ j. w j * parents_to nodes (box_count nodes) j) (suc m)
  rest zero h =
      let z : w 0 * parents_to nodes (box_count nodes) 0 ≡ 0 = rw (rootless points boxes nodes order t (box_count nodes) (omega arith)) (mul-zero (w 0)) in
      omega arith
  rest (suc m) h =
      let a = rest m (omega arith) in
      let z : w (suc m) * parents_to nodes (box_count nodes) (suc m) ≡ w (suc m) = rw (t.one_parent (suc m) (omega arith) h) (mul-one (w (suc m))) in
      omega arith

  pub under_first : 0 < box_count nodes → w 0 ≡ sum_to c (box_count nodes)
  unfolding parents_to
  under_first h = go (box_count nodes) refl h
    where
      go : (m : ℕ) → m ≡ box_count nodes → 0 < m → w 0 ≡ sum_to c (box_count nodes)
      go zero e h = absurd (omega arith)
      go (suc m) e h =
          let a = prefix (box_count nodes) (omega arith) in
          let b = rest m (omega arith) in
          let p : sum_to w (suc m) ≡ sum_to w (box_count nodes) = ap (sum_to w) e in
          let q : sum_to (λ j. w j * parents_to nodes (box_count nodes) j) (suc m) ≡ sum_to (λ j. w j * parents_to nodes (box_count nodes) j) (box_count nodes) = ap (sum_to (λ j. w j * parents_to nodes (box_count nodes) j)) e in
          omega arith
