-- What the builder's steps make: a leaf of what is written for it, and a run's tree of its halves' trees and its own box, which later writes leave as they are.
-- Assumes nothing.
use Rattle.std.specs.Prelude.{◌≡◌, refl, List, ℕ, zero, suc, ◌+◌, ◌-◌, ◌*◌, ◌/◌, ◌≤◌, ◌<◌, get_or, Float}
use Rattle.std.proofs.Math.Path.{sym}
use Rattle.std.proofs.Common.{ap, ap₂, ◌∙◌, zero-add, arith}
use Rattle.std.specs.Float.Ieee.{nan}
use Rattle.names.specs.Numbers.{leaf_limit}
use Rattle.triangle.specs.Places.{triangle_at}
use Rattle.boxes.specs.declared.Bounds.{Bounds}
use Rattle.boxes.specs.Boxes.{bounds_at, padded_of}
use Rattle.tree.specs.Tree.{count_at, left_at, right_at}
use Rattle.tree_build.specs.Built.{join_of, run_bounds, BoxHolds, Built, leaf, pair, boxes_within, boxes_for, PutBounds, PutNode, Grown, TreePut}
use Rattle.tree_build.specs.RunLaws.{kept_same, kept_more, kept_through}
use Rattle.tree_build.specs.BuiltLaws.{built_more, built_boxes}

-- ---- where the numbers stay, a tree stays

-- l and m agree from a place up to another
abbrev pub SameBetween : {A : Type 0} → A → List A → List A → ℕ → ℕ → Type 0
SameBetween d l m from to = (k : ℕ) → from ≤ k → k < to → get_or m k d ≡ get_or l k d

pub run_bounds_same : (points : List Float) (l m : List ℕ) (first n : ℕ) → SameBetween 0 l m first (first + suc n) → run_bounds points m first n ≡ run_bounds points l first n
unfolding run_bounds
run_bounds_same points l m first zero h = ap (λ (p : ℕ). padded_of (triangle_at points p)) (h first (omega arith) (omega arith))
run_bounds_same points l m first (suc n) h =
    ap₂ (λ (a b : Bounds). join_of a b) (run_bounds_same points l m first n (λ k u v. h k u (omega arith))) (ap (λ (p : ℕ). padded_of (triangle_at points p)) (h (first + suc n) (omega arith) (omega arith)))

pub bounds_same : (l m : List Float) (i : ℕ) → SameBetween nan l m (i * 6) (i * 6 + 6) → bounds_at m i ≡ bounds_at l i
unfolding bounds_at
bounds_same l m i h =
    rw (
      h (i * 6) (omega arith) (omega arith),
      h (i * 6 + 1) (omega arith) (omega arith),
      h (i * 6 + 2) (omega arith) (omega arith),
      h (i * 6 + 3) (omega arith) (omega arith),
      h (i * 6 + 3 + 1) (omega arith) (omega arith),
      h (i * 6 + 3 + 2) (omega arith) (omega arith),
    ) refl

module _ (points boxes boxes' : List Float) (nodes nodes' order order' : List ℕ) where
  holds_same : {i first count a b c : ℕ} → 1 ≤ count → SameBetween nan boxes boxes' (i * 6) (i * 6 + 6) → SameBetween 0 nodes nodes' (i * 3) (i * 3 + 3) → SameBetween 0 order order' first (first + count)
      → BoxHolds points boxes nodes order i first count a b c → BoxHolds points boxes' nodes' order' i first count a b c
  unfolding count_at left_at right_at
  holds_same {i} {first} {count} s x y z h =
      record {
        bounds = bounds_same boxes boxes' i x ∙ h.bounds ∙ sym (run_bounds_same points order order' first (count - 1) (λ k u v. z k u (omega arith)));
        number = y (i * 3) (omega arith) (omega arith) ∙ h.number;
        left = y (i * 3 + 1) (omega arith) (omega arith) ∙ h.left;
        right = y (i * 3 + 2) (omega arith) (omega arith) ∙ h.right;
      }

  pub built_same : {at first count next : ℕ} → SameBetween nan boxes boxes' (at * 6) (next * 6) → SameBetween 0 nodes nodes' (at * 3) (next * 3) → SameBetween 0 order order' first (first + count)
      → Built points boxes nodes order at first count next → Built points boxes' nodes' order' at first count next
  built_same x y z (leaf {at} {first} {count} a b h) =
      leaf a b (holds_same a (λ k u v. x k u (omega arith)) (λ k u v. y k u (omega arith)) z h)
  built_same x y z (pair {at} {first} {count} {next} middle a h l r) =
      let p = built_more l in
      let q = built_more r in
      pair middle a
      (holds_same (omega arith) (λ k u v. x k u (omega arith)) (λ k u v. y k u (omega arith)) z h)
      (built_same (λ k u v. x k (omega arith) (omega arith)) (λ k u v. y k (omega arith) (omega arith)) (λ k u v. z k u (omega arith)) l)
      (built_same (λ k u v. x k (omega arith) (omega arith)) (λ k u v. y k (omega arith) (omega arith)) (λ k u v. z k (omega arith) (omega arith)) r)

-- ---- a leaf

pub leaf_grown : (points boxes boxes' : List Float) (nodes nodes' order : List ℕ) (at first count : ℕ) → 1 ≤ count → count ≤ leaf_limit
    → PutBounds boxes boxes' at (run_bounds points order first (count - 1)) → PutNode nodes nodes' at count first 0
    → Grown points boxes boxes' nodes nodes' order at first count (at + 1)
leaf_grown points boxes boxes' nodes nodes' order at first count a b p q =
    record {
      built = leaf a b (record { bounds = p.bounds; number = q.number; left = q.left; right = q.right });
      boxes_kept = kept_more nan boxes boxes' (at * 6) (at * 6 + 6) (at * 6) ((at + 1) * 6) (omega arith) (omega arith) p.kept;
      nodes_kept = kept_more 0 nodes nodes' (at * 3) (at * 3 + 3) (at * 3) ((at + 1) * 3) (omega arith) (omega arith) q.kept;
    }

-- ---- two halves

module _ (points b0 b1 b2 b3 : List Float) (n0 n1 n2 n3 order : List ℕ) (at first count middle next : ℕ) where
  pub pair_grown : leaf_limit < count → Grown points b0 b1 n0 n1 order (at + 1) first (count / 2) middle
      → Grown points b1 b2 n1 n2 order middle (first + count / 2) (count - count / 2) next → PutBounds b2 b3 at (run_bounds points order first (count - 1))
      → PutNode n2 n3 at 0 (at + 1) middle → Grown points b0 b3 n0 n3 order at first count next
  pair_grown big l r p q =
      let x = built_more l.built in
      let y = built_more r.built in
      record {
        built =
            pair middle big (record { bounds = p.bounds; number = q.number; left = q.left; right = q.right })
            (built_same points b1 b3 n1 n3 order order (λ k u v. p.kept.above k (omega arith) ∙ r.boxes_kept.below k v) (λ k u v. q.kept.above k (omega arith) ∙ r.nodes_kept.below k v) (λ k u v. refl) l.built)
            (built_same points b2 b3 n2 n3 order order (λ k u v. p.kept.above k (omega arith)) (λ k u v. q.kept.above k (omega arith)) (λ k u v. refl) r.built);
        boxes_kept =
            kept_through nan b0 b1 b3 (at * 6) (next * 6) (kept_more nan b0 b1 ((at + 1) * 6) (middle * 6) (at * 6) (next * 6) (omega arith) (omega arith) l.boxes_kept)
            (kept_through nan b1 b2 b3 (at * 6) (next * 6) (kept_more nan b1 b2 (middle * 6) (next * 6) (at * 6) (next * 6) (omega arith) (omega arith) r.boxes_kept)
            (kept_more nan b2 b3 (at * 6) (at * 6 + 6) (at * 6) (next * 6) (omega arith) (omega arith) p.kept));
        nodes_kept =
            kept_through 0 n0 n1 n3 (at * 3) (next * 3) (kept_more 0 n0 n1 ((at + 1) * 3) (middle * 3) (at * 3) (next * 3) (omega arith) (omega arith) l.nodes_kept)
            (kept_through 0 n1 n2 n3 (at * 3) (next * 3) (kept_more 0 n1 n2 (middle * 3) (next * 3) (at * 3) (next * 3) (omega arith) (omega arith) r.nodes_kept)
            (kept_more 0 n2 n3 (at * 3) (at * 3 + 3) (at * 3) (next * 3) (omega arith) (omega arith) q.kept));
      }

-- ---- the whole run

module _ (points boxes boxes' : List Float) (nodes nodes' order : List ℕ) where
  pub none_put : TreePut points boxes boxes nodes nodes order 0 0
  unfolding boxes_within
  none_put = record { counted = refl; tree = λ h. absurd (omega arith); boxes_kept = kept_same nan boxes 0 0; nodes_kept = kept_same 0 nodes 0 0 }

  pub run_put : (m n : ℕ) → Grown points boxes boxes' nodes nodes' order 0 0 m n → TreePut points boxes boxes' nodes nodes' order m n
  run_put m n g = record { counted = built_boxes g.built ∙ zero-add (boxes_for m); tree = λ h. g.built; boxes_kept = g.boxes_kept; nodes_kept = g.nodes_kept }
