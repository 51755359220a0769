-- Where the test finds no box bad and no triangle missed, the tree is accepted. No mark is written twice, so that no count passes one; what is marked stays so,
-- so that the mark of a box is its depth plus 1. Assumes nothing.
use Rattle.std.specs.Prelude.{◌≡◌, Bool, eqb, Float}
use Rattle.std.proofs.Math.Path.{refl, ap}
use Rattle.std.proofs.Common.{sym, ◌∙◌, subst, ⊎_elim, eq-or-lt_of_le, eqb-true}
use Rattle.std.proofs.Math.Bool.{true, false, cond}
use Rattle.std.proofs.lemmas.Bool.{false≢true, eqb-false}
use mathlib.Core.List.{List}
use Prim.Native.Nat.{ℕ, zero, suc, ◌+◌, ◌≤◌, ◌<◌}
use native.Mathlib.Omega.{arith}
use Rattle.std.proofs.Math.ListN.{get_or, set, length-set}
use Rattle.std.proofs.Math.Seq.{get_or-set_same, get_or-set_other}
use Rattle.names.specs.Numbers.{depth_limit}
use Rattle.boxes.specs.Boxes.{bounds_at}
use Rattle.tree.specs.Tree.{box_count, count_at, inner_at, left_at, right_at, place_at, present_at, one, halves_of, parents_to, run_to, stands_to, Deep, root, left, right, AcceptedTree}
use Rattle.tree.specs.Test.{mark_pair, depths_to, see_run, seen_to}
use Rattle.tree.specs.SumLaws.{one_most, one_other, positive, sum_more}
use Rattle.tree.specs.TestLaws.{GoodPair, GoodHalf, GoodPlace, GoodLists}
use Rattle.tree.proofs.TestLaws.{present_within, GoodBox}
use Rattle.tree.specs.MarkLaws.{run_shows, Start, depths_after, seen_after_lem}

-- before the first box no triangle stands
stands_none : (nodes order : List ℕ) (p : ℕ) → stands_to nodes order 0 p ≡ 0
unfolding stands_to
stands_none nodes order p = refl

module _ (points boxes : List Float) (nodes order depths seen : List ℕ) (start : Start points nodes depths seen)
    (good : (i : ℕ) → i < box_count nodes → GoodBox points boxes nodes order i (depths_to nodes depths i) (seen_to nodes order seen i)) where
  -- ---- parents

  -- no box has two, and the first has none
  parents_most : (m : ℕ) → m ≤ box_count nodes → (j : ℕ) → one (eqb 0 j) + parents_to nodes m j ≤ 1
  unfolding parents_to
  parents_most zero h j = omega (arith, one_most (eqb 0 j))
  parents_most (suc m) h j = by (inner_at nodes m) refl (parents_most m (omega arith) j)
    where
      c : ℕ → Type 0
      c x = one (eqb 0 x) + parents_to nodes m x ≡ 0

      free : (x : ℕ) → GoodHalf boxes (box_count nodes) (depths_to nodes depths m) m x → x ≡ j → c j
      free x g e = subst c e ((depths_after points nodes order depths seen start m).uncounted x g.within g.orphan)

      pair : GoodPair boxes nodes m (depths_to nodes depths m) → one (eqb 0 j) + parents_to nodes m j ≤ 1 → (a b : Bool) → eqb (left_at nodes m) j ≡ a → eqb (right_at nodes m) j ≡ b
          → one (eqb 0 j) + (parents_to nodes m j + (one (eqb (left_at nodes m) j) + one (eqb (right_at nodes m) j))) ≤ 1
      pair g r true true e f = absurd (g.apart (eqb-true (left_at nodes m) j e ∙ sym (eqb-true (right_at nodes m) j f)))
      pair g r true false e f = let z = free (left_at nodes m) g.left (eqb-true (left_at nodes m) j e) in omega (arith, ap one e, ap one f)
      pair g r false true e f = let z = free (right_at nodes m) g.right (eqb-true (right_at nodes m) j f) in omega (arith, ap one e, ap one f)
      pair g r false false e f = omega (arith, ap one e, ap one f)

      by : (b : Bool) → inner_at nodes m ≡ b → one (eqb 0 j) + parents_to nodes m j ≤ 1
          → one (eqb 0 j) + (parents_to nodes m j + cond b (one (eqb (left_at nodes m) j) + one (eqb (right_at nodes m) j)) 0) ≤ 1
      by true q r = pair ((good m (omega arith)).pair q) r (eqb (left_at nodes m) j) (eqb (right_at nodes m) j) refl refl
      by false q r = omega arith

  -- every other has one
  parents_one : (j : ℕ) → 0 < j → j < box_count nodes → parents_to nodes (box_count nodes) j ≡ 1
  unfolding parents_to
  parents_one j pos h =
      let most = parents_most (box_count nodes) (omega arith) j in
      let zero' = one_other 0 j (λ (e : 0 ≡ j). omega arith) in
      let some = positive (parents_to nodes j j) (λ z. (good j h).reached ((depths_after points nodes order depths seen start j).unmarked j h (omega arith))) in
      let more : parents_to nodes j j ≤ parents_to nodes (box_count nodes) j = sum_more (halves_of nodes j) j (box_count nodes) (omega arith) in
      omega arith

  -- ---- depth

  -- what is marked stays so
  stays_by : (m j v : ℕ) → m < box_count nodes → get_or (depths_to nodes depths m) j 0 ≡ suc v → get_or (depths_to nodes depths (suc m)) j 0 ≡ suc v
  unfolding depths_to mark_pair
  stays_by m j v h e = by (inner_at nodes m) refl
    where
      other : (x : ℕ) → get_or (depths_to nodes depths m) x 0 ≡ 0 → j ≡ x → ⊥
      other x z q = omega (arith, ap (λ (y : ℕ). get_or (depths_to nodes depths m) y 0) q)

      by : (b : Bool) → inner_at nodes m ≡ b → get_or (cond b (mark_pair nodes m (depths_to nodes depths m)) (depths_to nodes depths m)) j 0 ≡ suc v
      by true q =
          let g = (good m h).pair q in
          let D = depths_to nodes depths m in
          let w = get_or D m 0 + 1 in
          get_or-set_other (set D (left_at nodes m) w) (right_at nodes m) j w 0 (other (right_at nodes m) g.right.orphan)
          ∙ get_or-set_other D (left_at nodes m) j w 0 (other (left_at nodes m) g.left.orphan) ∙ e
      by false q = e

  stays : (i m j v : ℕ) → i ≤ m → m ≤ box_count nodes → get_or (depths_to nodes depths i) j 0 ≡ suc v → get_or (depths_to nodes depths m) j 0 ≡ suc v
  stays i zero j v p h e = let z : i ≡ 0 = omega arith in rw z at e
  stays i (suc m) j v p h e =
      ⊎_elim (λ (q : i ≡ suc m). rw q at e) (λ (l : i < suc m). stays_by m j v (omega arith) (stays i m j v (omega arith) (omega arith) e)) (eq-or-lt_of_le p)

  -- at box i its own mark is the last
  own_mark : (i d : ℕ) → i < box_count nodes → get_or (depths_to nodes depths (box_count nodes)) i 0 ≡ suc d → get_or (depths_to nodes depths i) i 0 ≡ suc d
  own_mark i d h e = by (get_or (depths_to nodes depths i) i 0) refl
    where
      by : (x : ℕ) → get_or (depths_to nodes depths i) i 0 ≡ x → get_or (depths_to nodes depths i) i 0 ≡ suc d
      by zero q = absurd ((good i h).reached q)
      by (suc v) q = q ∙ sym (stays i (box_count nodes) i v (omega arith) (omega arith) q) ∙ e

  -- the halves of box i are marked one deeper
  halves_marked : (i d : ℕ) → i < box_count nodes → inner_at nodes i ≡ true → get_or (depths_to nodes depths i) i 0 ≡ suc d
      → (get_or (depths_to nodes depths (suc i)) (left_at nodes i) 0 ≡ suc (suc d)) × (get_or (depths_to nodes depths (suc i)) (right_at nodes i) 0 ≡ suc (suc d))
  unfolding depths_to mark_pair
  halves_marked i d h q e =
      let g = (good i h).pair q in
      let D = depths_to nodes depths i in
      let w = get_or D i 0 + 1 in
      let v : w ≡ suc (suc d) = omega arith in
      let long = (depths_after points nodes order depths seen start i).long in
      let hl = g.left.within in
      let hr = g.right.within in
      let same : depths_to nodes depths (suc i) ≡ set (set D (left_at nodes i) w) (right_at nodes i) w = rw q refl in (
        ap (λ (l : List ℕ). get_or l (left_at nodes i) 0) same ∙ get_or-set_other (set D (left_at nodes i) w) (right_at nodes i) (left_at nodes i) w 0 g.apart ∙ get_or-set_same D (left_at nodes i) w 0 (omega arith) ∙ v,
        ap (λ (l : List ℕ). get_or l (right_at nodes i) 0) same ∙ get_or-set_same (set D (left_at nodes i) w) (right_at nodes i) w 0 (omega (arith, length-set D (left_at nodes i) w)) ∙ v,
      )

  pub record DeepMarked (i d : ℕ) : Type 0 where
    pub within : i < box_count nodes
    pub mark : get_or (depths_to nodes depths (box_count nodes)) i 0 ≡ suc d
    pub shallow : d ≤ depth_limit

  pub deep_marked : {i d : ℕ} → 0 < box_count nodes → Deep nodes i d → DeepMarked i d
  unfolding depths_to
  deep_marked pos root =
      record {
        within = pos;
        mark = stays 0 (box_count nodes) 0 0 (omega arith) (omega arith) (start.depths_start 0);
        shallow = omega arith;
      }
  deep_marked pos (left {i} {d} h q r) =
      let m = deep_marked pos r in
      let e = own_mark i d h m.mark in
      let g = (good i h).pair q in
      record {
        within = g.left.within;
        mark = stays (suc i) (box_count nodes) (left_at nodes i) (suc d) h (omega arith) (halves_marked i d h q e).0;
        shallow = omega (arith, g.shallow);
      }
  deep_marked pos (right {i} {d} h q r) =
      let m = deep_marked pos r in
      let e = own_mark i d h m.mark in
      let g = (good i h).pair q in
      record {
        within = g.right.within;
        mark = stays (suc i) (box_count nodes) (right_at nodes i) (suc d) h (omega arith) (halves_marked i d h q e).1;
        shallow = omega (arith, g.shallow);
      }

  deep_shallow : (i d : ℕ) → Deep nodes i d → d ≤ depth_limit
  deep_shallow i d root = omega arith
  deep_shallow i d (left h q r) = (deep_marked (omega arith) (left h q r)).shallow
  deep_shallow i d (right h q r) = (deep_marked (omega arith) (right h q r)).shallow

  -- ---- triangles

  -- none stands twice, and one that is not present nowhere
  run_most : (i : ℕ) → i < box_count nodes → inner_at nodes i ≡ false → ((p : ℕ) → stands_to nodes order i p ≤ one (present_at points p))
      → (k : ℕ) → k ≤ count_at nodes i → (p : ℕ) → stands_to nodes order i p + run_to nodes order i k p ≤ one (present_at points p)
  unfolding run_to
  run_most i h q r zero l p = omega (arith, r p)
  run_most i h q r (suc k) l p = by (eqb (place_at nodes order i k) p) refl (run_most i h q r k (omega arith) p)
    where
      c : ℕ → Type 0
      c x = stands_to nodes order i x + run_to nodes order i k x ≡ 0

      g : GoodPlace points (bounds_at boxes i) (see_run nodes order i k (seen_to nodes order seen i)) (place_at nodes order i k)
      g = ((good i h).run q).places k (omega arith)

      by : (b : Bool) → eqb (place_at nodes order i k) p ≡ b → stands_to nodes order i p + run_to nodes order i k p ≤ one (present_at points p)
          → stands_to nodes order i p + (run_to nodes order i k p + one (eqb (place_at nodes order i k) p)) ≤ one (present_at points p)
      by true e s =
          let x = eqb-true (place_at nodes order i k) p e in
          let t = run_shows nodes order i (seen_to nodes order seen i) (stands_to nodes order i) (seen_after_lem points nodes order depths seen start i) k in
          let z : c p = subst c x (t.uncounted (place_at nodes order i k) (present_within points (place_at nodes order i k) g.present) g.unseen) in
          let y : one (present_at points p) ≡ 1 = ap one (sym (ap (present_at points) x) ∙ g.present) in
          omega (arith, ap one e)
      by false e s = omega (arith, ap one e)

  stands_most : (m : ℕ) → m ≤ box_count nodes → (p : ℕ) → stands_to nodes order m p ≤ one (present_at points p)
  unfolding stands_to
  stands_most zero h p = omega arith
  stands_most (suc m) h p = by (inner_at nodes m) refl (stands_most m (omega arith))
    where
      by : (b : Bool) → inner_at nodes m ≡ b → ((p : ℕ) → stands_to nodes order m p ≤ one (present_at points p))
          → stands_to nodes order m p + cond b 0 (run_to nodes order m (count_at nodes m) p) ≤ one (present_at points p)
      by true q r = omega (arith, r p)
      by false q r = run_most m (omega arith) q r (count_at nodes m) (omega arith) p

  -- ---- accepted

  -- the last box is a leaf, and its first triangle is present
  last_present : (m : ℕ) → box_count nodes ≡ suc m → (p : ℕ) × (present_at points p ≡ true)
  last_present m e = by (inner_at nodes m) refl
    where
      by : (b : Bool) → inner_at nodes m ≡ b → (p : ℕ) × (present_at points p ≡ true)
      by true q = let g = ((good m (omega arith)).pair q).left in absurd (omega (arith, g.follows, g.within))
      by false q = (place_at nodes order m 0, (((good m (omega arith)).run q).places 0 (positive (count_at nodes m) (eqb-false (count_at nodes m) 0 q))).present)

  pub found_accepted : GoodLists points boxes nodes order
      → ((p : ℕ) → present_at points p ≡ true → get_or (seen_to nodes order seen (box_count nodes)) p 0 ≡ 0 → ⊥)
      → AcceptedTree points boxes nodes order
  found_accepted lists met =
      record {
        nodes_fit = lists.nodes_fit;
        boxes_fit = lists.boxes_fit;
        order_fits = lists.order_fits;
        one_parent = parents_one;
        stands_once = once;
        others_nowhere = λ p e. omega (arith, stands_most (box_count nodes) (omega arith) p, ap one e);
        inside_leaf = λ i k h q l. (((good i h).run q).places k l).inside;
        inside_above = λ i h q. let g = (good i h).pair q in (g.left.inside, g.right.inside);
        left_follows = λ i h q. let g = ((good i h).pair q).left in (g.follows, g.within);
        right_follows = λ i h q. let g = ((good i h).pair q).right in (g.follows, g.within);
        run_fits = λ i h q. ((good i h).run q).fits;
        shallow = deep_shallow;
        empty_there_only = (λ e p. nowhere e p (present_at points p) refl, λ none. empty none (box_count nodes) refl);
      }
    where
      once : (p : ℕ) → present_at points p ≡ true → stands_to nodes order (box_count nodes) p ≡ 1
      once p e =
          let some = positive (stands_to nodes order (box_count nodes) p)
          (λ z. met p e ((seen_after_lem points nodes order depths seen start (box_count nodes)).unmarked p (present_within points p e) z)) in
          omega (arith, stands_most (box_count nodes) (omega arith) p, ap one e)

      nowhere : box_count nodes ≡ 0 → (p : ℕ) → (b : Bool) → present_at points p ≡ b → present_at points p ≡ false
      nowhere e p false q = q
      nowhere e p true q = absurd (omega (arith, once p q, ap (λ (m : ℕ). stands_to nodes order m p) e, stands_none nodes order p))

      empty : ((p : ℕ) → present_at points p ≡ false) → (m : ℕ) → box_count nodes ≡ m → box_count nodes ≡ 0
      empty none zero e = e
      empty none (suc m) e = let s = last_present m e in absurd (false≢true (sym (none s.0) ∙ s.1))
