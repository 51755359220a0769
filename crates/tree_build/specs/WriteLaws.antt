-- Three numbers written one after another: what then stands there, and that nothing else changed. Assumes nothing.
use Rattle.std.specs.Prelude.{◌≡◌, refl, List, ℕ, ◌+◌, ◌*◌, ◌≤◌, length, get_or, set, Float}
use Rattle.std.proofs.Common.{◌∙◌, arith, length-set, get_or-set_same, get_or-set_other}
use Rattle.std.specs.Float.{nan}
use Rattle.vectors.specs.declared.Vec3.{Vec3}
use Rattle.boxes.specs.declared.Bounds.{Bounds}
use Rattle.boxes.specs.Boxes.{bounds_at}
use Rattle.tree.specs.Tree.{count_at, left_at, right_at}
use Rattle.tree_build.specs.Built.{KeptBeside, PutVec, PutBounds, PutNode}
use Rattle.tree_build.specs.RunLaws.{kept_more, kept_through}

module _ {A : Type 0} (d : A) (l : List A) (k : ℕ) (x y z : A) where
  abbrev three_set : List A
  three_set = set (set (set l k x) (k + 1) y) (k + 2) z

  three_other : (i : ℕ) → (i ≡ k → ⊥) → (i ≡ k + 1 → ⊥) → (i ≡ k + 2 → ⊥) → get_or (three_set) i d ≡ get_or l i d
  three_other i a b c = get_or-set_other (set (set l k x) (k + 1) y) (k + 2) i z d c ∙ get_or-set_other (set l k x) (k + 1) i y d b ∙ get_or-set_other l k i x d a

  three_kept : KeptBeside d l (three_set) k (k + 3)
  three_kept =
      record {
        same = simp length-set;
        below = λ i h. three_other i (λ (e : i ≡ k). omega arith) (λ (e : i ≡ k + 1). omega arith) (λ (e : i ≡ k + 2). omega arith);
        above = λ i h. three_other i (λ (e : i ≡ k). omega arith) (λ (e : i ≡ k + 1). omega arith) (λ (e : i ≡ k + 2). omega arith);
      }

  module _ (fits : k + 3 ≤ length l) where
    three_0 : get_or (three_set) k d ≡ x
    three_0 =
        get_or-set_other (set (set l k x) (k + 1) y) (k + 2) k z d (λ (e : k ≡ k + 2). omega arith)
        ∙ get_or-set_other (set l k x) (k + 1) k y d (λ (e : k ≡ k + 1). omega arith)
        ∙ get_or-set_same l k x d (omega arith)

    three_1 : get_or (three_set) (k + 1) d ≡ y
    three_1 =
        get_or-set_other (set (set l k x) (k + 1) y) (k + 2) (k + 1) z d (λ (e : k + 1 ≡ k + 2). omega arith)
        ∙ get_or-set_same (set l k x) (k + 1) y d (simp length-set (omega arith))

    three_2 : get_or (three_set) (k + 2) d ≡ z
    three_2 = get_or-set_same (set (set l k x) (k + 1) y) (k + 2) z d (simp length-set (omega arith))

pub vec_put : (l : List Float) (k : ℕ) (v : Vec3) → k + 3 ≤ length l → PutVec l (set (set (set l k v.x) (k + 1) v.y) (k + 2) v.z) k v
vec_put l k v h =
    record {
      vector = rw (three_0 nan l k v.x v.y v.z h, three_1 nan l k v.x v.y v.z h, three_2 nan l k v.x v.y v.z h) refl;
      kept = three_kept nan l k v.x v.y v.z;
    }

pub node_put : (l : List ℕ) (i a b c : ℕ) → i * 3 + 3 ≤ length l → PutNode l (set (set (set l (i * 3) a) (i * 3 + 1) b) (i * 3 + 2) c) i a b c
unfolding count_at left_at right_at
node_put l i a b c h =
    record { number = three_0 0 l (i * 3) a b c h; left = three_1 0 l (i * 3) a b c h; right = three_2 0 l (i * 3) a b c h; kept = three_kept 0 l (i * 3) a b c }

-- a box is its two corners
pub bounds_put : (l m n : List Float) (i : ℕ) (b : Bounds) → PutVec l m (i * 6) b.low → PutVec m n (i * 6 + 3) b.high → PutBounds l n i b
unfolding bounds_at
bounds_put l m n i b p q =
    record {
      bounds =
          rw (← p.vector, ← q.vector, q.kept.below (i * 6) (omega arith), q.kept.below (i * 6 + 1) (omega arith), q.kept.below (i * 6 + 2) (omega arith)) refl;
      kept =
          kept_through nan l m n (i * 6) (i * 6 + 6) (kept_more nan l m (i * 6) (i * 6 + 3) (i * 6) (i * 6 + 6) (omega arith) (omega arith) p.kept)
          (kept_more nan m n (i * 6 + 3) (i * 6 + 3 + 3) (i * 6) (i * 6 + 6) (omega arith) (omega arith) q.kept);
    }
