-- Of an accepted tree the test finds no box bad and no triangle missed: before box i all its parents were passed, since children follow; whoever is marked there
-- already would have a second parent, or stand twice; and a mark is a box's depth plus 1. Assumes nothing.
use Rattle.std.specs.Prelude.{◌≡◌, Bool, cond, get_or, set, Float}
use Rattle.std.proofs.Math.Path.{refl, ap, subst}
use Rattle.std.proofs.Common.{sym, ◌∙◌, ⊎_elim, eq-or-lt_of_le, length-set, get_or-set_same, get_or-set_other}
use Rattle.std.proofs.Math.Bool.{true, false}
use mathlib.Core.List.{List}
use Prim.Native.Nat.{ℕ, zero, suc, ◌+◌, ◌≤◌, ◌<◌}
use native.Mathlib.Omega.{arith}
use borrow.Author.Tests.{eqb-true, eqb-false, eq-eqb}
use Rattle.std.proofs.Math.Dec.{eqb}
use Rattle.names.specs.Numbers.{depth_limit}
use Rattle.boxes.specs.Boxes.{bounds_at}
use Rattle.tree.specs.Tree.{box_count, count_at, inner_at, left_at, right_at, place_at, present_at, one, halves_of, parents_to, stands_to, Deep, root, left, right, AcceptedTree}
use Rattle.tree.specs.Test.{mark_pair, depths_to, see_run, seen_to}
use Rattle.tree.specs.SumLaws.{one_self, one_other, sum_more}
use Rattle.tree.specs.TestLaws.{GoodPair, GoodPlace}
use Rattle.tree.proofs.TestLaws.{present_within, GoodBox, GoodRun}
use Rattle.tree.proofs.AcceptedLaws.{stands_here, leaf_present}
use Rattle.tree.specs.MarkLaws.{run_shows, Start, depths_after, seen_after_lem}

parents_next : (nodes : List ℕ) (m j : ℕ) → parents_to nodes (suc m) j ≡ parents_to nodes m j + halves_of nodes j m
unfolding parents_to
parents_next nodes m j = refl

module _ (points boxes : List Float) (nodes order depths seen : List ℕ) (start : Start points nodes depths seen) (t : AcceptedTree points boxes nodes order) where
  -- ---- a box is reached

  -- who comes later is no parent
  parents_late : (i m : ℕ) → i ≤ m → m ≤ box_count nodes → parents_to nodes m i ≡ parents_to nodes i i
  parents_late i zero p h = let z : i ≡ 0 = omega arith in rw z refl
  parents_late i (suc m) p h = ⊎_elim (λ (e : i ≡ suc m). rw e refl) (λ (l : i < suc m). later l (parents_late i m (omega arith) (omega arith))) (eq-or-lt_of_le p)
    where
      later : i < suc m → parents_to nodes m i ≡ parents_to nodes i i → parents_to nodes (suc m) i ≡ parents_to nodes i i
      later l r = omega (arith, parents_next nodes m i, by (inner_at nodes m) refl)
        where
          by : (b : Bool) → inner_at nodes m ≡ b → cond b (one (eqb (left_at nodes m) i) + one (eqb (right_at nodes m) i)) 0 ≡ 0
          by true q =
              let a = (t.left_follows m (omega arith) q).0 in
              let b = (t.right_follows m (omega arith) q).0 in
              omega (arith, one_other (left_at nodes m) i (λ (e : left_at nodes m ≡ i). omega arith), one_other (right_at nodes m) i (λ (e : right_at nodes m ≡ i). omega arith))
          by false q = refl

  pub reached : (i : ℕ) → i < box_count nodes → get_or (depths_to nodes depths i) i 0 ≡ 0 → ⊥
  reached i h z = first i refl
    where
      n : one (eqb 0 i) + parents_to nodes i i ≡ 0
      n = (depths_after points nodes order depths seen start i).uncounted i h z

      first : (x : ℕ) → i ≡ x → ⊥
      first zero e = omega (arith, n, ap (λ (y : ℕ). one (eqb 0 y)) e)
      first (suc x) e = omega (arith, n, t.one_parent i (omega arith) h, parents_late i (box_count nodes) (omega arith) (omega arith))

  -- ---- a mark is a depth plus 1

  pub mark_deep : (m : ℕ) → m ≤ box_count nodes → (j d : ℕ) → get_or (depths_to nodes depths m) j 0 ≡ suc d → Deep nodes j d
  unfolding depths_to mark_pair
  mark_deep zero h j d e = by (eqb 0 j) refl
    where
      by : (b : Bool) → eqb 0 j ≡ b → Deep nodes j d
      by true q =
          let x = eqb-true 0 j q in
          let y : 0 ≡ d = omega (arith, start.depths_start j, ap one q) in
          subst (λ (k : ℕ). Deep nodes k d) x (subst (Deep nodes 0) y root)
      by false q = absurd (omega (arith, start.depths_start j, ap one q))
  mark_deep (suc m) h j d e = by (inner_at nodes m) refl e (mark_deep m (omega arith))
    where
      D : List ℕ
      D = depths_to nodes depths m

      w : ℕ
      w = get_or D m 0 + 1

      -- a half of box m has the mark after m's
      half : (x : ℕ) → ((d : ℕ) → Deep nodes m d → Deep nodes x (suc d)) → ((j d : ℕ) → get_or D j 0 ≡ suc d → Deep nodes j d) → w ≡ suc d → Deep nodes x d
      half x down r z = go (get_or D m 0) refl
        where
          go : (y : ℕ) → get_or D m 0 ≡ y → Deep nodes x d
          go zero q = absurd (reached m (omega arith) q)
          go (suc v) q = let k : suc v ≡ d = omega arith in subst (Deep nodes x) k (down v (r m v q))

      pair : inner_at nodes m ≡ true → get_or (set (set D (left_at nodes m) w) (right_at nodes m) w) j 0 ≡ suc d → ((j d : ℕ) → get_or D j 0 ≡ suc d → Deep nodes j d)
          → (a b : Bool) → eqb (left_at nodes m) j ≡ a → eqb (right_at nodes m) j ≡ b → Deep nodes j d
      pair q z r a true f g =
          let x = eqb-true (right_at nodes m) j g in
          let long = (depths_after points nodes order depths seen start m).long in
          let lt = (t.right_follows m (omega arith) q).1 in
          let v = get_or-set_same (set D (left_at nodes m) w) (right_at nodes m) w 0 (omega (arith, length-set D (left_at nodes m) w)) in
          subst (λ (k : ℕ). Deep nodes k d) x
          (half (right_at nodes m) (λ e. right (omega arith) q) r (sym v ∙ ap (λ (k : ℕ). get_or (set (set D (left_at nodes m) w) (right_at nodes m) w) k 0) x ∙ z))
      pair q z r true false f g =
          let x = eqb-true (left_at nodes m) j f in
          let long = (depths_after points nodes order depths seen start m).long in
          let lt = (t.left_follows m (omega arith) q).1 in
          let o = get_or-set_other (set D (left_at nodes m) w) (right_at nodes m) j w 0 (λ (k : j ≡ right_at nodes m). eqb-false (right_at nodes m) j g (sym k)) in
          let v = get_or-set_same D (left_at nodes m) w 0 (omega arith) in
          subst (λ (k : ℕ). Deep nodes k d) x
          (half (left_at nodes m) (λ e. left (omega arith) q) r (sym v ∙ ap (λ (k : ℕ). get_or (set D (left_at nodes m) w) k 0) x ∙ sym o ∙ z))
      pair q z r false false f g =
          let o = get_or-set_other (set D (left_at nodes m) w) (right_at nodes m) j w 0 (λ (k : j ≡ right_at nodes m). eqb-false (right_at nodes m) j g (sym k)) in
          let u = get_or-set_other D (left_at nodes m) j w 0 (λ (k : j ≡ left_at nodes m). eqb-false (left_at nodes m) j f (sym k)) in
          r j d (sym u ∙ sym o ∙ z)

      by : (b : Bool) → inner_at nodes m ≡ b → get_or (cond b (mark_pair nodes m D) D) j 0 ≡ suc d → ((j d : ℕ) → get_or D j 0 ≡ suc d → Deep nodes j d) → Deep nodes j d
      by true q z r = pair q z r (eqb (left_at nodes m) j) (eqb (right_at nodes m) j) refl refl
      by false q z r = r j d z

  -- ---- the halves of a box

  -- who is a half of box i had no parent before, and is the half once
  orphan_left : (i : ℕ) → i < box_count nodes → inner_at nodes i ≡ true → (parents_to nodes i (left_at nodes i) ≡ 0) × (one (eqb (right_at nodes i) (left_at nodes i)) ≡ 0)
  unfolding parents_to
  orphan_left i h q =
      let f = t.left_follows i h q in
      let lt = f.0 in
      let whole = t.one_parent (left_at nodes i) (omega arith) f.1 in
      let more : parents_to nodes (suc i) (left_at nodes i) ≤ parents_to nodes (box_count nodes) (left_at nodes i) = sum_more (halves_of nodes (left_at nodes i)) (suc i) (box_count nodes) h in
      let here : halves_of nodes (left_at nodes i) i ≡ one (eqb (left_at nodes i) (left_at nodes i)) + one (eqb (right_at nodes i) (left_at nodes i)) = rw q refl in
      let self = one_self (left_at nodes i) in
      (omega arith, omega arith)

  orphan_right : (i : ℕ) → i < box_count nodes → inner_at nodes i ≡ true → parents_to nodes i (right_at nodes i) ≡ 0
  unfolding parents_to
  orphan_right i h q =
      let f = t.right_follows i h q in
      let lt = f.0 in
      let whole = t.one_parent (right_at nodes i) (omega arith) f.1 in
      let more : parents_to nodes (suc i) (right_at nodes i) ≤ parents_to nodes (box_count nodes) (right_at nodes i) = sum_more (halves_of nodes (right_at nodes i)) (suc i) (box_count nodes) h in
      let here : halves_of nodes (right_at nodes i) i ≡ one (eqb (left_at nodes i) (right_at nodes i)) + one (eqb (right_at nodes i) (right_at nodes i)) = rw q refl in
      let self = one_self (right_at nodes i) in
      omega arith

  unmarked : (i x : ℕ) → i < x → x < box_count nodes → parents_to nodes i x ≡ 0 → get_or (depths_to nodes depths i) x 0 ≡ 0
  unmarked i x p h z = (depths_after points nodes order depths seen start i).unmarked x h (omega (arith, one_other 0 x (λ (e : 0 ≡ x). omega arith)))

  good_pair : (i : ℕ) → i < box_count nodes → inner_at nodes i ≡ true → GoodPair boxes nodes i (depths_to nodes depths i)
  good_pair i h q =
      let l = t.left_follows i h q in
      let r = t.right_follows i h q in
      let o = orphan_left i h q in
      record {
        left = record { follows = l.0; within = l.1; orphan = unmarked i (left_at nodes i) l.0 l.1 o.0; inside = (t.inside_above i h q).0 };
        right = record { follows = r.0; within = r.1; orphan = unmarked i (right_at nodes i) r.0 r.1 (orphan_right i h q); inside = (t.inside_above i h q).1 };
        apart = λ e. omega (arith, o.1, ap one (eq-eqb (right_at nodes i) (left_at nodes i) (sym e)));
        shallow = by (get_or (depths_to nodes depths i) i 0) refl;
      }
    where
      by : (x : ℕ) → get_or (depths_to nodes depths i) i 0 ≡ x → get_or (depths_to nodes depths i) i 0 ≤ depth_limit
      by zero e = omega arith
      by (suc d) e = omega (arith, t.shallow (left_at nodes i) (suc d) (left h q (mark_deep i (omega arith) i d e)))

  -- ---- the triangles of a leaf

  good_run : (i : ℕ) → i < box_count nodes → inner_at nodes i ≡ false → GoodRun points boxes nodes order i (seen_to nodes order seen i)
  good_run i h q = record { fits = t.run_fits i h q; places = place }
    where
      place : (k : ℕ) → k < count_at nodes i → GoodPlace points (bounds_at boxes i) (see_run nodes order i k (seen_to nodes order seen i)) (place_at nodes order i k)
      place k l =
          let p = place_at nodes order i k in
          let e = leaf_present points boxes nodes order t i k h q l in
          let s = run_shows nodes order i (seen_to nodes order seen i) (stands_to nodes order i) (seen_after_lem points nodes order depths seen start i) k in
          record {
            present = e;
            unseen = s.unmarked p (present_within points p e) (omega (arith, stands_here points boxes nodes order t i k h q l, t.stands_once p e));
            inside = t.inside_leaf i k h q l;
          }

  -- ---- nothing is bad, and nothing is missed

  pub held_good : (i : ℕ) → i < box_count nodes → GoodBox points boxes nodes order i (depths_to nodes depths i) (seen_to nodes order seen i)
  held_good i h = record { reached = reached i h; pair = good_pair i h; run = good_run i h }

  pub held_met : (p : ℕ) → present_at points p ≡ true → get_or (seen_to nodes order seen (box_count nodes)) p 0 ≡ 0 → ⊥
  held_met p e z = omega (arith, t.stands_once p e, (seen_after_lem points nodes order depths seen start (box_count nodes)).uncounted p (present_within points p e) z)
