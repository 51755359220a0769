-- "For any accepted tree, nearest hit and transmittance equal the plain scan over the triangles whose own padded box is not passed over, ties by place as before."
-- A box that is passed over may be left out, since then every triangle's own box under it is passed over; the others come in the order of the tree, and the order
-- does not matter; each present triangle comes once. So two accepted trees of one scene give the same answers. Assumes nothing.
use Rattle.std.specs.Prelude.{None, ◌≡◌, Bool, length, Float}
use Rattle.std.proofs.Math.Path.{refl, sym, ap}
use Rattle.std.proofs.Common.{◌∙◌, arith}
use Rattle.std.proofs.Math.Bool.{true, false, cond}
use mathlib.Core.List.{List, [], ◌∷◌, ◌++◌}
use Prim.Native.Nat.{ℕ, zero, suc, ◌/◌, ◌<◌}
use Rattle.std.proofs.lemmas.Bool.{eqb-false}
use Rattle.std.proofs.Math.Dec.{eqb}
use Rattle.names.specs.Numbers.{depth_limit}
use Rattle.names.specs.Scene.{Scene, Sound}
use Rattle.vectors.specs.declared.Ray.{Ray}
use Rattle.scan.specs.Transmittance.{transmittance_of}
use Rattle.panels.specs.Panels.{own_passed}
use Rattle.boxes.specs.Boxes.{bounds_at, passed_over}
use Rattle.tree.specs.Tree.{box_count, count_at, inner_at, left_at, right_at, place_at, AcceptedTree}
use Rattle.tree.specs.SumLaws.{positive}
use Rattle.tree.proofs.TestLaws.{present_within}
use Rattle.tree.proofs.AcceptedLaws.{leaf_present, halves_passed, triangles_passed}
use Rattle.tree_walk.specs.Boxed.{boxed_meet_at, nearest_step, nearest_boxed, hits_step, hits_boxed, pass_hits, transmittance_boxed}
use Rattle.tree_walk.specs.Turned.{Turned}
use Rattle.tree_walk.specs.Walk.{run_visit, node_visit, tree_visit, nearest_through, hits_through, transmittance_through, TreeFits}
use Rattle.tree_walk.specs.BoxedLaws.{boxed_over}
use Rattle.tree_walk.specs.FoldLaws.{fold_of, fold_append}
use Rattle.tree_walk.specs.UnderLaws.{run_places, places_under, tree_places, tree_once}
use Rattle.tree_walk.specs.ListedLaws.{nearer_missed, hits_missed, listed_nearest, listed_hits}

-- ---- a walk for any step

module _ (points boxes : List Float) (nodes order : List ℕ) (t : AcceptedTree points boxes nodes order) (ray : Ray)
    {S : Type 0} (step : S → ℕ → S) (over : (s : S) (p : ℕ) → own_passed points ray p ≡ true → step s p ≡ s) where
  run_is : (i k : ℕ) (s : S) → run_visit step nodes order i k s ≡ fold_of step s (run_places nodes order i k)
  unfolding run_visit
  run_is i zero s = refl
  run_is i (suc k) s = ap (λ (x : S). step x (place_at nodes order i k)) (run_is i k s) ∙ sym (fold_append step s (run_places nodes order i k) (place_at nodes order i k ∷ []))

  run_over : (i n : ℕ) (s : S) → ((k : ℕ) → k < n → own_passed points ray (place_at nodes order i k) ≡ true) → fold_of step s (run_places nodes order i n) ≡ s
  run_over i zero s h = refl
  run_over i (suc n) s h =
      fold_append step s (run_places nodes order i n) (place_at nodes order i n ∷ [])
      ∙ ap (λ (x : S). step x (place_at nodes order i n)) (run_over i n s (λ k l. h k (omega arith)))
      ∙ over s (place_at nodes order i n) (h n (omega arith))

  -- under a box that is passed over no triangle adds anything
  abbrev UnderOver : ℕ → Type 0
  UnderOver levels =
      (i : ℕ) (s : S) → i < box_count nodes → passed_over ray.origin ray.direction (bounds_at boxes i) ≡ true
      → fold_of step s (places_under nodes order levels i) ≡ s

  under_over : (levels : ℕ) → UnderOver levels
  unfolding places_under own_passed
  under_over zero i s h e = refl
  under_over (suc levels) i s h e = by (inner_at nodes i) refl (under_over levels)
    where
      by : (b : Bool) → inner_at nodes i ≡ b → UnderOver levels
          → fold_of step s (cond b (places_under nodes order levels (left_at nodes i) ++ places_under nodes order levels (right_at nodes i)) (run_places nodes order i (count_at nodes i))) ≡ s
      by true q rec =
          let p = halves_passed points boxes nodes order t ray.origin ray.direction i h e q in
          fold_append step s (places_under nodes order levels (left_at nodes i)) (places_under nodes order levels (right_at nodes i))
          ∙ rec (right_at nodes i) (fold_of step s (places_under nodes order levels (left_at nodes i))) (t.right_follows i h q).1 p.1
          ∙ rec (left_at nodes i) s (t.left_follows i h q).1 p.0
      by false q rec = run_over i (count_at nodes i) s (triangles_passed points boxes nodes order t ray.origin ray.direction i h e q)

  -- a visit comes to going through all that stands under the box
  abbrev VisitIs : ℕ → Type 0
  VisitIs levels = (i : ℕ) (s : S) → i < box_count nodes → node_visit step ray boxes nodes order levels i s ≡ fold_of step s (places_under nodes order levels i)

  visit_is : (levels : ℕ) → VisitIs levels
  unfolding node_visit places_under
  visit_is zero i s h = refl
  visit_is (suc levels) i s h = by (passed_over ray.origin ray.direction (bounds_at boxes i)) refl (visit_is levels)
    where
      inside : (b : Bool) → inner_at nodes i ≡ b → VisitIs levels
          → cond b (node_visit step ray boxes nodes order levels (right_at nodes i) (node_visit step ray boxes nodes order levels (left_at nodes i) s)) (run_visit step nodes order i (count_at nodes i) s)
          ≡ fold_of step s (cond b (places_under nodes order levels (left_at nodes i) ++ places_under nodes order levels (right_at nodes i)) (run_places nodes order i (count_at nodes i)))
      inside true q rec =
          rec (right_at nodes i) (node_visit step ray boxes nodes order levels (left_at nodes i) s) (t.right_follows i h q).1
          ∙ ap (λ (x : S). fold_of step x (places_under nodes order levels (right_at nodes i))) (rec (left_at nodes i) s (t.left_follows i h q).1)
          ∙ sym (fold_append step s (places_under nodes order levels (left_at nodes i)) (places_under nodes order levels (right_at nodes i)))
      inside false q rec = run_is i (count_at nodes i) s

      by : (b : Bool) → passed_over ray.origin ray.direction (bounds_at boxes i) ≡ b → VisitIs levels
          → cond b s (cond (inner_at nodes i) (node_visit step ray boxes nodes order levels (right_at nodes i) (node_visit step ray boxes nodes order levels (left_at nodes i) s)) (run_visit step nodes order i (count_at nodes i) s))
          ≡ fold_of step s (places_under nodes order (suc levels) i)
      by true e rec = sym (under_over (suc levels) i s h e)
      by false e rec = inside (inner_at nodes i) refl rec

  -- the walk from the root goes through all that stands in the tree
  pub walk_listed : (s : S) → tree_visit step ray boxes nodes order s ≡ fold_of step s (tree_places nodes order)
  unfolding tree_visit tree_places
  walk_listed s = by (eqb (box_count nodes) 0) refl
    where
      by : (b : Bool) → eqb (box_count nodes) 0 ≡ b
          → cond b s (node_visit step ray boxes nodes order (suc depth_limit) 0 s) ≡ fold_of step s (cond b [] (places_under nodes order (suc depth_limit) 0))
      by true q = refl
      by false q = visit_is (suc depth_limit) 0 s (positive (box_count nodes) (eqb-false (box_count nodes) 0 q))

-- ---- of a scene

module _ (scene : Scene) (sound : Sound scene) (boxes : List Float) (nodes order : List ℕ) (t : AcceptedTree scene.points boxes nodes order) where
  -- no index of a walk through it lies past its list
  pub accepted_fits : (turned : List Float) → Turned scene.points order turned → TreeFits scene.points scene.uses scene.kinds boxes nodes order turned
  accepted_fits turned same =
      record {
        points_fit = sound.points;
        use_fits = sound.within;
        boxes_fit = t.boxes_fit;
        left_fits = λ i h q. (t.left_follows i h q).1;
        right_fits = λ i h q. (t.right_follows i h q).1;
        run_fits = t.run_fits;
        place_fits =
            λ i k h q l.
            let p : place_at nodes order i k < length scene.points / 9 = present_within scene.points (place_at nodes order i k) (leaf_present scene.points boxes nodes order t i k h q l) in
            omega (arith, sound.points);
        turned_fits = same;
      }

  -- the nearest hit through an accepted tree
  pub walk_nearest : (ray : Ray) → nearest_through scene boxes nodes order ray ≡ nearest_boxed scene ray
  unfolding nearest_through
  walk_nearest ray =
      walk_listed scene.points boxes nodes order t ray (nearest_step scene.points scene.uses scene.kinds ray)
      (λ b p h. nearer_missed b p (boxed_meet_at scene ray p) (boxed_over scene ray p h)) None
      ∙ listed_nearest scene sound (tree_places nodes order) (tree_once scene.points boxes nodes order t) ray

  -- the hits
  pub walk_hits : (ray : Ray) → hits_through scene boxes nodes order ray ≡ hits_boxed scene ray (length scene.uses)
  unfolding hits_through
  walk_hits ray =
      walk_listed scene.points boxes nodes order t ray (hits_step scene.points scene.uses scene.kinds ray)
      (λ hs p h. hits_missed hs p (boxed_meet_at scene ray p) (boxed_over scene ray p h)) []
      ∙ listed_hits scene sound (tree_places nodes order) (tree_once scene.points boxes nodes order t) ray

  -- and what passes
  pub walk_transmittance : (ray : Ray) → transmittance_through scene boxes nodes order ray ≡ transmittance_boxed scene ray
  unfolding transmittance_through transmittance_of
  walk_transmittance ray = ap (pass_hits scene) (walk_hits ray)

-- two accepted trees of one scene give the same answers
module _ (scene : Scene) (sound : Sound scene) (ray : Ray) (boxes : List Float) (nodes order : List ℕ) (t : AcceptedTree scene.points boxes nodes order)
    (boxes' : List Float) (nodes' order' : List ℕ) (t' : AcceptedTree scene.points boxes' nodes' order') where
  pub trees_nearest : nearest_through scene boxes nodes order ray ≡ nearest_through scene boxes' nodes' order' ray
  trees_nearest = walk_nearest scene sound boxes nodes order t ray ∙ sym (walk_nearest scene sound boxes' nodes' order' t' ray)

  pub trees_hits : hits_through scene boxes nodes order ray ≡ hits_through scene boxes' nodes' order' ray
  trees_hits = walk_hits scene sound boxes nodes order t ray ∙ sym (walk_hits scene sound boxes' nodes' order' t' ray)

  pub trees_transmittance : transmittance_through scene boxes nodes order ray ≡ transmittance_through scene boxes' nodes' order' ray
  trees_transmittance = walk_transmittance scene sound boxes nodes order t ray ∙ sym (walk_transmittance scene sound boxes' nodes' order' t' ray)
