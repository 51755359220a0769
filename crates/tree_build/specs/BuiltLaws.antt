-- A run's tree: how many boxes it has, that each but the first has one parent, and that what stands in its leaves is the run. Assumes nothing.
use Rattle.std.specs.Prelude.{◌≡◌, Bool, true, false, cond, List, eqb, leb, get_or, Float}
use Rattle.std.proofs.Math.Path.{refl}
use Rattle.std.proofs.Common.{sym, ap, ◌∙◌, eq-eqb, ne_eqb, eqb-true, leb-false, le-leb}
use Rattle.std.proofs.lemmas.Bool.{false≢true, lt-leb}
use Prim.Native.Nat.{ℕ, zero, suc, ◌+◌, ◌-◌, ◌*◌, ◌/◌, ◌≤◌, ◌<◌}
use native.Mathlib.Omega.{arith}
use Rattle.names.specs.Numbers.{leaf_limit}
use Rattle.boxes.specs.Boxes.{bounds_at}
use Rattle.tree.specs.Tree.{count_at, inner_at, place_at, sum_to, one, halves_of, parents_to, run_to, leaf_of, stands_to}
use Rattle.tree_build.specs.Built.{run_bounds, BoxHolds, Built, leaf, pair, boxes_within, boxes_for, times_in}
use Rattle.tree_build.specs.RunLaws.{sum_next, times_cut}

-- ---- counting

pub same_test : (a b : ℕ) → one (eqb a b) ≡ one (eqb b a)
same_test a b = by (eqb a b) refl
  where
    by : (t : Bool) → eqb a b ≡ t → one (eqb a b) ≡ one (eqb b a)
    by true e = ap one (e ∙ sym (eq-eqb b a (sym (eqb-true a b e))))
    by false e = ap one (e ∙ sym (ne_eqb b a (λ (z : b ≡ a). false≢true (sym e ∙ eq-eqb a b (sym z)))))

-- how often j is met up to m
abbrev pub met_to : ℕ → ℕ → ℕ
met_to j m = sum_to (λ x. one (eqb j x)) m

-- ---- boxes of a run of m triangles

-- at most 2·m − 1
pub boxes_most : (k m : ℕ) → 1 ≤ m → boxes_within k m ≤ m * 2 - 1
unfolding boxes_within
boxes_most zero m h = omega arith
boxes_most (suc k) m h = by (leb m leaf_limit) refl (λ (g : 4 < m). boxes_most k (m / 2) (omega arith)) (λ (g : 4 < m). boxes_most k (m - m / 2) (omega arith))
  where
    by : (b : Bool) → leb m leaf_limit ≡ b → (4 < m → boxes_within k (m / 2) ≤ m / 2 * 2 - 1) → (4 < m → boxes_within k (m - m / 2) ≤ (m - m / 2) * 2 - 1)
        → cond b 1 (1 + boxes_within k (m / 2) + boxes_within k (m - m / 2)) ≤ m * 2 - 1
    by true e p q = omega arith
    by false e p q =
        let g = leb-false m leaf_limit e in
        let x = p g in
        let y = q g in
        omega arith

module _ {points boxes : List Float} {nodes order : List ℕ} where
  -- ---- how many boxes

  pub built_some : {at first count next : ℕ} → Built points boxes nodes order at first count next → 1 ≤ count
  built_some (leaf a b h) = a
  built_some (pair {at} {first} {count} middle a h x y) = omega arith

  pub built_more : {at first count next : ℕ} → Built points boxes nodes order at first count next → at < next
  built_more (leaf {at} a b h) = omega arith
  built_more (pair {at} {first} {count} {next} middle a h x y) = let p = built_more x in let q = built_more y in omega arith

  -- a box, and fewer boxes than triangles where these are two or more
  pub built_fewer : {at first count next : ℕ} → Built points boxes nodes order at first count next → 2 ≤ count → next < at + count
  built_fewer (leaf {at} {first} {count} a b h) g = omega arith
  built_fewer (pair {at} {first} {count} {next} middle a h x y) g = let p = built_fewer x (omega arith) in let q = built_fewer y (omega arith) in omega arith

  pub built_most : {at first count next : ℕ} → Built points boxes nodes order at first count next → next ≤ at + count
  built_most (leaf {at} {first} {count} a b h) = omega arith
  built_most (pair {at} {first} {count} {next} middle a h x y) = let p = built_most x in let q = built_fewer y (omega arith) in let r = built_fewer x (omega arith) in omega arith

  -- as many as the run's length says
  pub built_within : {at first count next : ℕ} (k : ℕ) → count ≤ k → Built points boxes nodes order at first count next → next ≡ at + boxes_within k count
  unfolding boxes_within
  built_within zero g (leaf {at} {first} {count} a b h) = absurd (omega arith)
  built_within (suc k) g (leaf {at} {first} {count} a b h) = rw (le-leb count leaf_limit b) refl
  built_within zero g (pair {at} {first} {count} {next} middle a h x y) = absurd (omega arith)
  built_within (suc k) g (pair {at} {first} {count} {next} middle a h x y) =
      let p = built_within {at = at + 1} {first = first} {count = count / 2} {next = middle} k (omega arith) x in
      let q = built_within {at = middle} {first = first + count / 2} {count = count - count / 2} {next = next} k (omega arith) y in
      rw (lt-leb count leaf_limit a) (omega arith)

  pub built_boxes : {at first count next : ℕ} → Built points boxes nodes order at first count next → next ≡ at + boxes_for count
  built_boxes {at} {first} {count} b = built_within count (omega arith) b

  -- ---- a box's own

  pub inner_of : {at first count b c : ℕ} → BoxHolds points boxes nodes order at first count 0 b c → inner_at nodes at ≡ true
  inner_of {at} h = eq-eqb (count_at nodes at) 0 h.number

  pub leaf_of_lem : {at first count b c : ℕ} → 1 ≤ count → BoxHolds points boxes nodes order at first count count b c → inner_at nodes at ≡ false
  leaf_of_lem {at} {first} {count} l h = let e = h.number in ne_eqb (count_at nodes at) 0 (λ (z : count_at nodes at ≡ 0). omega arith)

  pub built_bounds : {at first count next : ℕ} → Built points boxes nodes order at first count next → bounds_at boxes at ≡ run_bounds points order first (count - 1)
  built_bounds (leaf a b h) = h.bounds
  built_bounds (pair middle a h x y) = h.bounds

  -- ---- parents

  -- each box but the run's first has one parent here
  pub built_parents : {at first count next : ℕ} (j : ℕ) → Built points boxes nodes order at first count next
      → parents_to nodes next j + met_to j (at + 1) ≡ parents_to nodes at j + met_to j next
  unfolding parents_to
  built_parents j (leaf {at} {first} {count} a b h) =
      let z : halves_of nodes j at ≡ 0 = rw (leaf_of_lem a h) refl in
      let s = sum_next (halves_of nodes j) at in
      omega arith
  built_parents j (pair {at} {first} {count} {next} middle a h x y) =
      let p = built_parents j x in
      let q = built_parents j y in
      let z : halves_of nodes j at ≡ one (eqb (at + 1) j) + one (eqb middle j) = rw (inner_of h, h.left, h.right) refl in
      let s = sum_next (halves_of nodes j) at in
      let u = sum_next (λ x. one (eqb j x)) (at + 1) in
      let v = sum_next (λ x. one (eqb j x)) middle in
      omega (arith, same_test j (at + 1), same_test j middle)

  -- ---- triangles

  -- what stands in these boxes is what stands in the run
  pub built_stands : {at first count next : ℕ} (p : ℕ) → Built points boxes nodes order at first count next
      → stands_to nodes order next p ≡ stands_to nodes order at p + times_in order first count p
  unfolding stands_to run_to times_in place_at
  built_stands p (leaf {at} {first} {count} a b h) =
      let z : leaf_of nodes order p at ≡ sum_to (λ k. one (eqb (get_or order (first + k) 0) p)) count = rw (leaf_of_lem a h, h.number, h.left) refl in
      let s = sum_next (leaf_of nodes order p) at in
      omega arith
  built_stands p (pair {at} {first} {count} {next} middle a h x y) =
      let l = built_stands p x in
      let r = built_stands p y in
      let z : leaf_of nodes order p at ≡ 0 = rw (inner_of h) refl in
      let s = sum_next (leaf_of nodes order p) at in
      let c = times_cut order first (count / 2) count p (omega arith) in
      omega arith
