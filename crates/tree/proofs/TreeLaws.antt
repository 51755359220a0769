-- The test accepts a tree exactly when it is accepted. Assumes nothing.
use Rattle.std.specs.Prelude.{◌≡◌, Bool, ◌&&◌, ◌||◌, List, ◌↔◌, ℕ, ◌/◌, ◌≤◌, length, get_or, Float}
use Rattle.std.proofs.Math.Path.{refl}
use Rattle.std.proofs.Common.{sym, ◌∙◌, length-set}
use Rattle.std.proofs.Math.Bool.{true, false, false≢true}
use native.Mathlib.Omega.{arith}
use borrow.Author.Tests.{ltb-false, le-ltb, eq-eqb, ne_eqb, not-true}
use Rattle.std.proofs.Math.Dec.{eqb, ltb}
use Rattle.std.proofs.lemmas.List.{length-replicate}
use Rattle.names.specs.Numbers.{triangle_limit}
use Rattle.lists.specs.Any.{any}
use Rattle.tree.specs.Tree.{box_count, present_at, AcceptedTree}
use Rattle.tree.specs.Test.{box_limit, seen_to, bad_box_at, missed, wrong_lists, first_depths, none_seen, accepted_by}
use Rattle.tree.proofs.TestLaws.{neither, any_none, none_any, lists_out, lists_in, present_within, box_out, box_in}
use Rattle.tree.specs.MarkLaws.{Start, blank, blank_zero, first_mark}
use Rattle.tree.proofs.FoundLaws.{found_accepted}
use Rattle.tree.proofs.HeldLaws.{held_good, held_met}
use Rattle.tree.proofs.AcceptedLaws.{few_boxes}

-- ---- the first marks

starts : (points : List Float) (nodes : List ℕ) → box_count nodes ≤ box_limit → length points / 9 ≤ triangle_limit → Start points nodes first_depths none_seen
unfolding first_depths none_seen
starts points nodes h k =
    record {
      depths_long = rw (length-set (blank box_limit) 0 1, length-replicate {A = ℕ} box_limit 0) h;
      depths_start = first_mark 8190;
      seen_long = rw (length-replicate {A = ℕ} triangle_limit 0) k;
      seen_start = blank_zero triangle_limit;
    }

-- ---- the law

module _ (points boxes : List Float) (nodes order : List ℕ) (few : length points / 9 ≤ triangle_limit) where
  abbrev bad : ℕ → Bool
  bad = bad_box_at points boxes nodes order first_depths none_seen

  abbrev lost : ℕ → Bool
  lost = missed points (seen_to nodes order none_seen (box_count nodes))

  out : accepted_by points boxes nodes order ≡ true → AcceptedTree points boxes nodes order
  unfolding accepted_by missed
  out e =
      let a = ltb box_limit (box_count nodes) in
      let b = wrong_lists points boxes nodes order in
      let c = any bad (box_count nodes) 0 in
      let d = any lost (length points / 9) 0 in
      let p = neither (a || b || c) d (not-true (a || b || c || d) e) in
      let q = neither (a || b) c p.0 in
      let r = neither a b q.0 in
      found_accepted points boxes nodes order first_depths none_seen (starts points nodes (ltb-false box_limit (box_count nodes) r.0) few)
      (λ i h. box_out points boxes nodes order i _ _ (any_none bad (box_count nodes) q.1 i h))
      (lists_out points boxes nodes order r.1)
      (λ i f z. false≢true (sym (any_none lost (length points / 9) p.1 i (present_within points i f)) ∙ rw (f, eq-eqb _ 0 z) refl))

  within : AcceptedTree points boxes nodes order → accepted_by points boxes nodes order ≡ true
  unfolding accepted_by missed
  within t =
      let few' = few_boxes points boxes nodes order t in
      let small : box_count nodes ≤ box_limit = omega arith in
      let s = starts points nodes small few in
      rw (
        le-ltb box_limit (box_count nodes) small,
        lists_in points boxes nodes order (record { nodes_fit = t.nodes_fit; boxes_fit = t.boxes_fit; order_fits = t.order_fits }),
        none_any bad (box_count nodes) (λ i h. box_in points boxes nodes order i _ _ (held_good points boxes nodes order first_depths none_seen s t i h)),
        none_any lost (length points / 9) (λ p h. by s p (present_at points p) refl),
      ) refl
    where
      by : Start points nodes first_depths none_seen → (p : ℕ) (b : Bool) → present_at points p ≡ b → (present_at points p && eqb (get_or (seen_to nodes order none_seen (box_count nodes)) p 0) 0) ≡ false
      by s p false e = rw e refl
      by s p true e = rw (e, ne_eqb _ 0 (held_met points boxes nodes order first_depths none_seen s t p e)) refl

  -- the test of the code answers yes exactly when the tree is accepted
  pub accepted_exactly : (accepted_by points boxes nodes order ≡ true) ↔ AcceptedTree points boxes nodes order
  accepted_exactly = (out, within)

-- an accepted tree has fewer than twice as many boxes as the scene has triangles, so that the test may refuse any other unread
pub few_enough : (points boxes : List Float) (nodes order : List ℕ) → length points / 9 ≤ triangle_limit → AcceptedTree points boxes nodes order → box_count nodes ≤ box_limit
few_enough points boxes nodes order few t = omega (arith, few_boxes points boxes nodes order t)
