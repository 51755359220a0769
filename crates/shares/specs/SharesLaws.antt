-- Shares joined are the unbroken bake, and their rays add up to its rays. Two joined are the bake over the voxels of both, so all joined are the bake over
-- all active voxels; and each voxel's rays are counted in the one share that has it.
use Rattle.std.specs.Prelude.{◌≡◌, Bool, ◌||◌, length}
use Rattle.std.proofs.Math.Path.{refl, sym, ap, ap₂}
use Rattle.std.proofs.Common.{◌∙◌, one-mul, zero-mul}
use Rattle.std.proofs.Math.Bool.{true, false, cond}
use mathlib.Core.List.{List, [], ◌∷◌}
use Prim.Native.Nat.{ℕ, zero, suc, ◌+◌, ◌*◌, ◌<◌}
use native.Mathlib.Omega.{arith}
use Rattle.std.proofs.Math.Nat.{add-mul}
use Rattle.lists.specs.Any.{any_same}
use Rattle.lists.specs.Laid.{voxel_part, laid_same, length_laid, part_of_laid}
use Rattle.spread.specs.Spread.{progress_of, stage, Bake, any_active, blurred, unblurred, unbroken, actives, costs, sum}
use Rattle.spread.specs.Demand.{Sized}
use Rattle.shares.specs.LaidBelow.{voxel_long, part_below, length_below}
use Rattle.shares.specs.Shares.{Share, bake_by, holders, Parted, joined_by, unblurred_in, joined_all, added_over}

-- ---- a join, voxel by voxel, of two lists that have all their voxels

module _ {A : Type 0} (size count : ℕ) (has : ℕ → Bool) (numbers joined : List A) (e : length numbers ≡ count * size) (f : length joined ≡ count * size) where
  either_long : (i : ℕ) → i < count → length (cond (has i) (voxel_part size i numbers) (voxel_part size i joined)) ≡ size
  either_long i h = go (has i)
    where
      go : (x : Bool) → length (cond x (voxel_part size i numbers) (voxel_part size i joined)) ≡ size
      go true = voxel_long size count numbers e i h
      go false = voxel_long size count joined f i h

  pub joined_voxel : (i : ℕ) → i < count
      → voxel_part size i (joined_by size count has numbers joined) ≡ cond (has i) (voxel_part size i numbers) (voxel_part size i joined)
  unfolding joined_by
  joined_voxel i h = part_below size count (λ j. cond (has j) (voxel_part size j numbers) (voxel_part size j joined)) either_long i h

  pub length_joined : length (joined_by size count has numbers joined) ≡ count * size
  unfolding joined_by
  length_joined = length_below size count (λ j. cond (has j) (voxel_part size j numbers) (voxel_part size j joined)) either_long

module _ {A : Type 0} (b : Bake A) where
  -- ---- added

  -- a count over the voxels that a share has, c for voxel i, which `part` gives of k voxels from i on
  module _ (c : ℕ → ℕ) (part : Share A → ℕ → ℕ → ℕ) (whole : ℕ → ℕ → ℕ)
      (part_none : (s : Share A) (i : ℕ) → part s 0 i ≡ 0)
      (part_next : (s : Share A) (k i : ℕ) → part s (suc k) i ≡ cond (s.has i) (c i) 0 + part s k (i + 1))
      (whole_none : (i : ℕ) → whole 0 i ≡ 0)
      (whole_next : (k i : ℕ) → whole (suc k) i ≡ cond (b.active i) (c i) 0 + whole k (i + 1)) where
    times : (x : Bool) (n : ℕ) → cond x 1 0 * n ≡ cond x n 0
    times true n = one-mul n
    times false n = zero-mul n

    none_added : (shares : List (Share A)) (i : ℕ) → added_over (λ s. part s 0 i) shares ≡ 0
    unfolding sum
    none_added [] i = refl
    none_added (s ∷ rest) i = omega (arith, part_none s i, none_added rest i)

    -- voxel i is counted once for each share that has it
    voxel_added : (shares : List (Share A)) (k i : ℕ) → added_over (λ s. part s (suc k) i) shares ≡ holders shares i * c i + added_over (λ s. part s k (i + 1)) shares
    unfolding sum holders
    voxel_added [] k i = sym (ap (λ (m : ℕ). m + 0) (zero-mul (c i)))
    voxel_added (s ∷ rest) k i =
        let m : (cond (s.has i) 1 0 + holders rest i) * c i ≡ cond (s.has i) 1 0 * c i + holders rest i * c i = add-mul (cond (s.has i) 1 0) (holders rest i) (c i) in
        omega (arith, part_next s k i, voxel_added rest k i, m, times (s.has i) (c i))

    adds_up : (shares : List (Share A)) → (k i : ℕ) → ((j : ℕ) → j < i + k → holders shares j ≡ cond (b.active j) 1 0)
        → added_over (λ s. part s k i) shares ≡ whole k i
    adds_up shares zero i parted = none_added shares i ∙ sym (whole_none i)
    adds_up shares (suc k) i parted =
        let m : holders shares i * c i ≡ cond (b.active i) (c i) 0 = ap (λ (n : ℕ). n * c i) (parted i (omega arith)) ∙ times (b.active i) (c i) in
        omega (arith, voxel_added shares k i, adds_up shares k (i + 1) (λ j h. parted j (omega arith)), m, whole_next k i)

  -- the rays of the shares add up to those of the bake
  pub rays_add_up : (shares : List (Share A)) → Parted b shares → added_over (λ s. costs (bake_by b s) b.count 0) shares ≡ costs b b.count 0
  unfolding costs
  rays_add_up shares parted =
      adds_up b.cost (λ s. costs (bake_by b s)) (costs b) (λ s i. refl) (λ s k i. either (s.has i) (b.cost i) (costs (bake_by b s) k (i + 1))) (λ i. refl)
      (λ k i. either (b.active i) (b.cost i) (costs b k (i + 1))) shares b.count 0 (λ j h. parted j (omega arith))
    where
      either : (x : Bool) (m n : ℕ) → cond x (m + n) n ≡ cond x m 0 + n
      either true m n = refl
      either false m n = omega arith

  -- and so do their active voxels
  pub actives_add_up : (shares : List (Share A)) → Parted b shares → added_over (λ s. actives (bake_by b s) b.count 0) shares ≡ actives b b.count 0
  unfolding actives
  actives_add_up shares parted =
      adds_up (λ i. 1) (λ s. actives (bake_by b s)) (actives b) (λ s i. refl) (λ s k i. either (s.has i) (actives (bake_by b s) k (i + 1))) (λ i. refl)
      (λ k i. either (b.active i) (actives b k (i + 1))) shares b.count 0 (λ j h. parted j (omega arith))
    where
      either : (x : Bool) (n : ℕ) → cond x (suc n) n ≡ cond x 1 0 + n
      either true n = omega arith
      either false n = omega arith

  -- ---- joined

  -- a finished bake has its unblurred volume where it is looked for
  pub unblurred_in_lem : (scratch : List A) → unblurred_in b (unbroken b scratch) ≡ unblurred b
  unfolding unbroken
  unblurred_in_lem scratch = go (any_active b.active b.count) refl
    where
      go : (x : Bool) → any_active b.active b.count ≡ x → unblurred_in b (unbroken b scratch) ≡ unblurred b
      go true e = rw e refl
      go false e = rw e refl

  module _ (sized : Sized b) where
    -- what voxel i holds, unblurred, where it is had and where it is not
    abbrev holding : Bool → ℕ → List A
    holding had i = cond had (b.gathered i) (b.ambient i)

    length_holding : (had : Bool) (i : ℕ) → length (holding had i) ≡ b.size
    length_holding true i = sized.gathered i
    length_holding false i = sized.ambient i

    pub unblurred_voxel : (share : Share A) (i : ℕ) → i < b.count → voxel_part b.size i (unblurred (bake_by b share)) ≡ holding (share.has i) i
    unfolding unblurred
    unblurred_voxel share i h = part_of_laid b.size (λ j. holding (share.has j) j) (λ j. length_holding (share.has j) j) i b.count h

    pub length_unblurred : (share : Share A) → length (unblurred (bake_by b share)) ≡ b.count * b.size
    unfolding unblurred
    length_unblurred share = length_laid b.size (λ j. holding (share.has j) j) (λ j. length_holding (share.has j) j) b.count 0

    -- the voxels of two shares
    abbrev pub either_of : Share A → Share A → Share A
    either_of s t = record { has = λ i. s.has i || t.has i; refusal = t.refusal }

    -- two joined are the bake over the voxels of both
    pub two_joined : (s t : Share A) → joined_by b.size b.count s.has (unblurred (bake_by b s)) (unblurred (bake_by b t)) ≡ unblurred (bake_by b (either_of s t))
    unfolding joined_by unblurred
    two_joined s t = laid_same _ _ b.count 0 (λ i p q. one i (omega arith))
      where
        go : (x y : Bool) (i : ℕ) → cond x (holding x i) (holding y i) ≡ holding (x || y) i
        go true y i = refl
        go false y i = refl

        one : (i : ℕ) → i < b.count
            → cond (s.has i) (voxel_part b.size i (unblurred (bake_by b s))) (voxel_part b.size i (unblurred (bake_by b t))) ≡ holding (s.has i || t.has i) i
        one i h =
            ap₂ (λ (x y : List A). cond (s.has i) x y) (unblurred_voxel s i h) (unblurred_voxel t i h)
            ∙ go (s.has i) (t.has i) i

    -- a bake over the active voxels is the bake
    pub same_voxels : (s : Share A) → ((i : ℕ) → i < b.count → s.has i ≡ b.active i) → unblurred (bake_by b s) ≡ unblurred b
    unfolding unblurred
    same_voxels s e = laid_same _ _ b.count 0 (λ i p q. ap (λ (x : Bool). holding x i) (e i (omega arith)))

    same_costs : (s : Share A) → ((i : ℕ) → i < b.count → s.has i ≡ b.active i) → costs (bake_by b s) b.count 0 ≡ costs b b.count 0
    unfolding costs
    same_costs s e = go b.count 0 (λ i h. e i (omega arith))
      where
        go : (k i : ℕ) → ((j : ℕ) → j < i + k → s.has j ≡ b.active j) → costs (bake_by b s) k i ≡ costs b k i
        go zero i h = refl
        go (suc k) i h = rw (h i (omega arith), go k (i + 1) (λ j l. h j (omega arith))) refl

    pub same_unbroken : (s : Share A) (scratch : List A) → ((i : ℕ) → i < b.count → s.has i ≡ b.active i)
        → unbroken (bake_by b s) scratch ≡ unbroken b scratch
    unfolding unbroken
    same_unbroken s scratch e =
        ap (λ (n : ℕ). blurred (bake_by b s) (progress_of b.count n) (unblurred (bake_by b s)) scratch) (same_costs s e)
        ∙ ap₂ (λ (x : Bool) (v : List A). let p = progress_of b.count (costs b b.count 0) in cond x (stage p (b.mean v) v) (stage p v scratch))
        (any_same s.has b.active b.count 0 (λ i p q. e i (omega arith))) (same_voxels s e)

    -- all joined are the unblurred volume of the bake
    pub all_joined_lem : (first : Share A) (rest : List (Share A)) → Parted b (first ∷ rest) → joined_all b rest (unblurred (bake_by b first)) ≡ unblurred b
    unfolding joined_all holders
    all_joined_lem first [] parted = same_voxels first (λ i h. go (first.has i) (b.active i) (parted i h))
      where
        go : (x y : Bool) → cond x 1 0 + 0 ≡ cond y 1 0 → x ≡ y
        go true true e = refl
        go false false e = refl
        go true false e = absurd (omega arith)
        go false true e = absurd (omega arith)
    all_joined_lem first (s ∷ rest) parted =
        ap (joined_all b rest) (two_joined s first)
        ∙ all_joined_lem (either_of s first) rest (λ i h. go (s.has i) (first.has i) (b.active i) (holders rest i) (parted i h))
      where
        go : (x y a : Bool) (n : ℕ) → cond y 1 0 + (cond x 1 0 + n) ≡ cond a 1 0 → cond (x || y) 1 0 + n ≡ cond a 1 0
        go true true true n e = absurd (omega arith)
        go true true false n e = absurd (omega arith)
        go true false a n e = omega arith
        go false y a n e = omega arith

    -- and so, after the mean where any voxel is active, all is as the unbroken bake leaves it; its progress is the count and the rays of all shares
    pub joined_unbroken : (first : Share A) (rest : List (Share A)) (scratch : List A) → Parted b (first ∷ rest)
        → blurred b (progress_of b.count (added_over (λ s. costs (bake_by b s) b.count 0) (first ∷ rest))) (joined_all b rest (unblurred (bake_by b first))) scratch
        ≡ unbroken b scratch
    unfolding unbroken
    joined_unbroken first rest scratch parted =
        ap₂ (λ (n : ℕ) (v : List A). blurred b (progress_of b.count n) v scratch) (rays_add_up (first ∷ rest) parted) (all_joined_lem first rest parted)
