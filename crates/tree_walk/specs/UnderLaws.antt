-- The triangles that stand under a box, whatever is passed over. Under the root of an accepted tree each present triangle stands once, and no other. Assumes nothing.
use Rattle.std.specs.Prelude.{◌≡◌, Bool, List, [], ◌∷◌, ◌++◌, eqb, ltb, length, Float}
use Rattle.std.proofs.Math.Path.{refl, ap}
use Rattle.std.proofs.Common.{sym, ◌∙◌, eqb-true, ltb-true, ltb-false, length-append}
use Rattle.std.proofs.Math.Bool.{true, false, cond}
use Prim.Native.Nat.{ℕ, zero, suc, ◌+◌, ◌≤◌, ◌<◌}
use native.Mathlib.Omega.{arith}
use Rattle.std.proofs.lemmas.Bool.{eqb-false}
use Rattle.names.specs.Numbers.{depth_limit}
use Rattle.tree.specs.Tree.{box_count, count_at, inner_at, left_at, right_at, place_at, present_at, sum_to, one, run_to, leaf_of, stands_to, Deep, root, left, right, AcceptedTree}
use Rattle.tree.specs.SumLaws.{one_self, sum_plus, sum_none, sum_hit, positive}
use Rattle.tree_walk.specs.FoldLaws.{stands_in, stands_append}
use Rattle.tree_walk.specs.CountLaws.{under_first}

-- the first k places of leaf i
abbrev pub run_places : List ℕ → List ℕ → ℕ → ℕ → List ℕ
run_places nodes order i zero = []
run_places nodes order i (suc k) = run_places nodes order i k ++ (place_at nodes order i k ∷ [])

-- the places under box i, so many levels down
unfoldable pub places_under : List ℕ → List ℕ → ℕ → ℕ → List ℕ
places_under nodes order zero i = []
places_under nodes order (suc levels) i =
    cond (inner_at nodes i) (places_under nodes order levels (left_at nodes i) ++ places_under nodes order levels (right_at nodes i)) (run_places nodes order i (count_at nodes i))

-- box i has at most so many levels
pub data Levels (nodes : List ℕ) : ℕ → ℕ → Type 0 where
  leaf : {n i : ℕ} → inner_at nodes i ≡ false → Levels nodes (suc n) i
  halves : {n i : ℕ} → inner_at nodes i ≡ true → Levels nodes n (left_at nodes i) → Levels nodes n (right_at nodes i) → Levels nodes (suc n) i

module _ (nodes order : List ℕ) where
  run_stands : (p i k : ℕ) → stands_in p (run_places nodes order i k) ≡ run_to nodes order i k p
  unfolding run_to
  run_stands p i zero = refl
  run_stands p i (suc k) = let a = run_stands p i k in omega (arith, stands_append p (run_places nodes order i k) (place_at nodes order i k ∷ []))

  -- as many stand under an inner box as under its halves, and in a leaf as many as it says
  pub halves_room : (levels i : ℕ) → inner_at nodes i ≡ true
      → length (places_under nodes order (suc levels) i) ≡ length (places_under nodes order levels (left_at nodes i)) + length (places_under nodes order levels (right_at nodes i))
  unfolding places_under
  halves_room levels i q = rw q (length-append (places_under nodes order levels (left_at nodes i)) (places_under nodes order levels (right_at nodes i)))

  run_room : (i k : ℕ) → length (run_places nodes order i k) ≡ k
  run_room i zero = refl
  run_room i (suc k) = let a = run_room i k in omega (arith, length-append (run_places nodes order i k) (place_at nodes order i k ∷ []))

  pub leaf_room : (levels i : ℕ) → inner_at nodes i ≡ false → length (places_under nodes order (suc levels) i) ≡ count_at nodes i
  unfolding places_under
  leaf_room levels i q = rw q (run_room i (count_at nodes i))

  -- more levels than there are add nothing
  enough : (n e : ℕ) {i : ℕ} → Levels nodes n i → places_under nodes order n i ≡ places_under nodes order (n + e) i
  unfolding places_under
  enough zero e {i = i} x' = elim x' [ ]
  enough (suc n) e {i} (leaf q) = let s : suc n + e ≡ suc (n + e) = omega arith in rw (s, q)
  enough (suc n) e {i} (halves q l r) = let s : suc n + e ≡ suc (n + e) = omega arith in rw (s, q, enough n e l, enough n e r)

  -- so two numbers of levels that are enough give the same places
  same_places : (m n i : ℕ) → Levels nodes m i → Levels nodes n i → places_under nodes order m i ≡ places_under nodes order n i
  same_places m n i a b =
      enough m n a ∙ ap (λ (k : ℕ). places_under nodes order k i) (let e : m + n ≡ n + m = omega arith in e) ∙ sym (enough n m b)

-- a list of places below n is as long as they stand in it together
pub length_stands : (n : ℕ) (l : List ℕ) → ((p : ℕ) → n ≤ p → stands_in p l ≡ 0) → length l ≡ sum_to (λ p. stands_in p l) n
length_stands n [] h = sym (sum_none n)
length_stands n (x ∷ l) h =
    let a = length_stands n l (λ p k. omega (arith, h p k)) in
    let b = sum_plus (λ p. one (eqb x p)) (λ p. stands_in p l) n in
    let c = sum_hit x n (below (ltb x n) refl) in
    omega arith
  where
    below : (b : Bool) → ltb x n ≡ b → x < n
    below true e = ltb-true x n e
    below false e = absurd (omega (arith, h x (ltb-false x n e), one_self x))

module _ (points boxes : List Float) (nodes order : List ℕ) (t : AcceptedTree points boxes nodes order) where
  -- as many levels as there are boxes are enough, since children follow their parents
  pub follow_levels : (n i : ℕ) → i < box_count nodes → box_count nodes ≤ i + n → Levels nodes n i
  follow_levels zero i h k = absurd (omega arith)
  follow_levels (suc n) i h k = by (inner_at nodes i) refl (follow_levels n)
    where
      by : (b : Bool) → inner_at nodes i ≡ b → ((j : ℕ) → j < box_count nodes → box_count nodes ≤ j + n → Levels nodes n j) → Levels nodes (suc n) i
      by true q rec =
          let l = t.left_follows i h q in
          let r = t.right_follows i h q in
          halves q (rec (left_at nodes i) l.1 (omega arith)) (rec (right_at nodes i) r.1 (omega arith))
      by false q rec = leaf q

  -- and so are those of the depth
  pub depth_levels : (n i d : ℕ) → i < box_count nodes → Deep nodes i d → d + n ≡ suc depth_limit → Levels nodes n i
  depth_levels zero i d h k e = absurd (omega (arith, t.shallow i d k))
  depth_levels (suc n) i d h k e = by (inner_at nodes i) refl (λ j b c. depth_levels n j (suc d) b c (omega arith))
    where
      by : (b : Bool) → inner_at nodes i ≡ b → ((j : ℕ) → j < box_count nodes → Deep nodes j (suc d) → Levels nodes n j) → Levels nodes (suc n) i
      by true q rec = halves q (rec (left_at nodes i) (t.left_follows i h q).1 (left h q k)) (rec (right_at nodes i) (t.right_follows i h q).1 (right h q k))
      by false q rec = leaf q

  -- how often p stands under box i
  abbrev stands_under : ℕ → ℕ → ℕ
  stands_under p i = stands_in p (places_under nodes order (box_count nodes) i)

  under : (p i : ℕ) → i < box_count nodes → stands_under p i ≡ leaf_of nodes order p i + cond (inner_at nodes i) (stands_under p (left_at nodes i) + stands_under p (right_at nodes i)) 0
  unfolding places_under
  under p i h = go (box_count nodes) refl
    where
      go : (m : ℕ) → box_count nodes ≡ m
          → stands_in p (places_under nodes order m i) ≡ leaf_of nodes order p i + cond (inner_at nodes i) (stands_under p (left_at nodes i) + stands_under p (right_at nodes i)) 0
      go zero e = absurd (omega arith)
      go (suc k) e = by (inner_at nodes i) refl
        where
          by : (b : Bool) → inner_at nodes i ≡ b
              → stands_in p (cond b (places_under nodes order k (left_at nodes i) ++ places_under nodes order k (right_at nodes i)) (run_places nodes order i (count_at nodes i)))
              ≡ cond b 0 (run_to nodes order i (count_at nodes i) p) + cond b (stands_under p (left_at nodes i) + stands_under p (right_at nodes i)) 0
          by true q =
              let l = t.left_follows i h q in
              let r = t.right_follows i h q in
              let a = ap (stands_in p) (same_places nodes order k (box_count nodes) (left_at nodes i) (follow_levels k (left_at nodes i) l.1 (omega arith)) (follow_levels (box_count nodes) (left_at nodes i) l.1 (omega arith))) in
              let b = ap (stands_in p) (same_places nodes order k (box_count nodes) (right_at nodes i) (follow_levels k (right_at nodes i) r.1 (omega arith)) (follow_levels (box_count nodes) (right_at nodes i) r.1 (omega arith))) in
              omega (arith, stands_append p (places_under nodes order k (left_at nodes i)) (places_under nodes order k (right_at nodes i)))
          by false q = omega (arith, run_stands nodes order p i (count_at nodes i))

  -- each place stands under the root as often as in all leaves
  pub root_stands : 0 < box_count nodes → (p : ℕ) → stands_in p (places_under nodes order (suc depth_limit) 0) ≡ one (present_at points p)
  unfolding stands_to
  root_stands h p =
      ap (stands_in p) (same_places nodes order (suc depth_limit) (box_count nodes) 0 (depth_levels (suc depth_limit) 0 0 h root refl) (follow_levels (box_count nodes) 0 h (omega arith)))
      ∙ under_first points boxes nodes order t (stands_under p) (leaf_of nodes order p) (under p) h
      ∙ by (present_at points p) refl
    where
      by : (b : Bool) → present_at points p ≡ b → stands_to nodes order (box_count nodes) p ≡ one b
      by true e = t.stands_once p e
      by false e = t.others_nowhere p e

-- ---- the places of a whole tree, none of the empty one
unfoldable pub tree_places : List ℕ → List ℕ → List ℕ
tree_places nodes order = cond (eqb (box_count nodes) 0) [] (places_under nodes order (suc depth_limit) 0)

-- in an accepted one each present triangle stands once, and no other
pub tree_once : (points boxes : List Float) (nodes order : List ℕ) → AcceptedTree points boxes nodes order → (p : ℕ) → stands_in p (tree_places nodes order) ≡ one (present_at points p)
unfolding tree_places
tree_once points boxes nodes order t p = by (eqb (box_count nodes) 0) refl
  where
    by : (b : Bool) → eqb (box_count nodes) 0 ≡ b → stands_in p (cond b [] (places_under nodes order (suc depth_limit) 0)) ≡ one (present_at points p)
    by true q = rw (t.empty_there_only.0 (eqb-true (box_count nodes) 0 q) p) refl
    by false q = root_stands points boxes nodes order t (positive (box_count nodes) (eqb-false (box_count nodes) 0 q)) p
