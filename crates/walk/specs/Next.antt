-- Voxels that are not active are passed over: a walk that stands at voxel i is the walk from the next active one on, or at the end where none is left.
use Rattle.std.specs.Prelude.{◌≡◌, Bool, List}
use Rattle.std.proofs.Math.Path.{refl, ap}
use Rattle.std.proofs.Common.{◌∙◌}
use Rattle.std.proofs.Math.Bool.{true, false, cond}
use Prim.Native.Nat.{ℕ, zero, suc, ◌+◌, ◌-◌}
use native.Mathlib.Omega.{arith}
use Rattle.words.specs.ByWords.{next_from}
use Rattle.spread.specs.Spread.{Bake, Walked, more, walk}
use Rattle.spread.proofs.Walks.{so_far_skip}

-- w is a walk that has fired r rays of a and stands at voxel i of n with the volume v
module _ {A : Type 0} (b : Bake A) {w : Walked A} (r a n : ℕ) (v : List A) where
  pub so_far_next : (k i : ℕ) → i + k ≡ n → w ≡ more r (walk b (n - i) i (a - r) v)
      → w ≡ more r (walk b (n - next_from b.active n k i) (next_from b.active n k i) (a - r) v)
  unfolding next_from
  so_far_next zero i h e = let z : i ≡ n = omega arith in e ∙ ap (λ (j : ℕ). more r (walk b (n - j) j (a - r) v)) z
  so_far_next (suc k) i h e = go (b.active i) refl (λ d. so_far_next k (i + 1) (omega arith) d)
    where
      go : (x : Bool) → b.active i ≡ x
          → (w ≡ more r (walk b (n - (i + 1)) (i + 1) (a - r) v) → w ≡ more r (walk b (n - next_from b.active n k (i + 1)) (next_from b.active n k (i + 1)) (a - r) v))
          → w ≡ more r (walk b (n - cond x i (next_from b.active n k (i + 1))) (cond x i (next_from b.active n k (i + 1))) (a - r) v)
      go true t rest = e
      go false t rest = rest (so_far_skip b i r a n v e (omega arith) t)
