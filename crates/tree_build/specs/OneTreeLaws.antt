-- The boxes of a run are made by the order alone: two trees of one run hold the same in every box. Assumes nothing.
use Rattle.std.specs.Prelude.{◌≡◌, refl, Bool, true, false, List, ℕ, ◌+◌, ◌-◌, ◌/◌, ◌≤◌, ◌<◌, ltb, Float}
use Rattle.std.proofs.Common.{sym, ◌∙◌, subst, ⊎_elim, eq-or-lt_of_le, arith, ltb-true, ltb-false}
use Rattle.boxes.specs.Boxes.{bounds_at}
use Rattle.tree.specs.Tree.{count_at, left_at, right_at}
use Rattle.tree_build.specs.Built.{BoxHolds, Built, leaf, pair}
use Rattle.tree_build.specs.BuiltLaws.{built_boxes}

module _ (points boxes boxes' : List Float) (nodes nodes' order : List ℕ) where
  pub record SameBox (i : ℕ) : Type 0 where
    pub bounds : bounds_at boxes' i ≡ bounds_at boxes i
    pub number : count_at nodes' i ≡ count_at nodes i
    pub left : left_at nodes' i ≡ left_at nodes i
    pub right : right_at nodes' i ≡ right_at nodes i

  same_box : {i first count a b c : ℕ} → BoxHolds points boxes nodes order i first count a b c → BoxHolds points boxes' nodes' order i first count a b c → SameBox i
  same_box h g =
      record {
        bounds = g.bounds ∙ sym h.bounds;
        number = g.number ∙ sym h.number;
        left = g.left ∙ sym h.left;
        right = g.right ∙ sym h.right;
      }

  pub one_tree : {at first count next next' : ℕ} (i : ℕ) → Built points boxes nodes order at first count next → Built points boxes' nodes' order at first count next' → at ≤ i → i < next → SameBox i
  one_tree i (leaf {at} {first} {count} a b h) (leaf u v g) l r = let e : at ≡ i = omega arith in subst SameBox e (same_box h g)
  one_tree i (leaf {at} {first} {count} a b h) (pair middle u g x y) l r = absurd (omega arith)
  one_tree i (pair {at} {first} {count} {next} middle a h x y) (leaf u v g) l r = absurd (omega arith)
  one_tree i (pair {at} {first} {count} {next} middle a h x y) (pair {next = next'} middle' u g z w) l r =
      let e : middle' ≡ middle = built_boxes z ∙ sym (built_boxes x) in
      ⊎_elim
      (λ (q : at ≡ i). subst SameBox q (same_box h (subst (λ (m : ℕ). BoxHolds points boxes' nodes' order at first count 0 (at + 1) m) e g)))
      (λ (q : at < i). by (ltb i middle) refl (λ (s : i < middle). one_tree i x z (omega arith) s)
      (λ (s : middle ≤ i). one_tree i y (subst (λ (m : ℕ). Built points boxes' nodes' order m (first + count / 2) (count - count / 2) next') e w) s r))
      (eq-or-lt_of_le l)
    where
      by : (b : Bool) → ltb i middle ≡ b → (i < middle → SameBox i) → (middle ≤ i → SameBox i) → SameBox i
      by true f p q = p (ltb-true i middle f)
      by false f p q = q (ltb-false i middle f)
