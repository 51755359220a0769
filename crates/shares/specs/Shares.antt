-- A bake that is spread over machines or threads. Each has a share, which is the bake over some of its voxels; each active voxel stands in exactly one
-- share, and no share has another. Every share is baked by itself to the end. Then the unblurred volumes are joined: each voxel's numbers are taken from
-- the share that has it, and what no share has holds ambient in all of them. Of that comes the mean. Assumes nothing.
use Rattle.std.specs.Prelude.{◌≡◌, Bool, cond, List, [], ◌∷◌, map, ℕ, ◌+◌, ◌<◌}
use Rattle.lists.specs.Laid.{laid, voxel_part}
use Rattle.spread.specs.Spread.{Stage, Bake, any_active, unblurred, sum}

-- the voxels that a share has, and what its calls refuse
pub record Share (A : Type 0) : Type 0 where
  pub has : ℕ → Bool
  pub refusal : Stage A → ℕ → ℕ

module _ {A : Type 0} where
  -- the bake over a share: the same but for what the share says
  abbrev pub bake_by : Bake A → Share A → Bake A
  bake_by b share =
      record {
        count = b.count;
        size = b.size;
        active = share.has;
        cost = b.cost;
        most = b.most;
        ambient = b.ambient;
        gathered = b.gathered;
        mean = b.mean;
        refusal = share.refusal;
      }

  -- how many of the shares have voxel i
  unfoldable pub holders : List (Share A) → ℕ → ℕ
  holders [] i = 0
  holders (share ∷ rest) i = cond (share.has i) 1 0 + holders rest i

  -- each active voxel stands in exactly one share, and no share has another
  abbrev pub Parted : Bake A → List (Share A) → Type 0
  Parted b shares = (i : ℕ) → i < b.count → holders shares i ≡ cond (b.active i) 1 0

  -- ---- joined

  -- of `count` voxels those that `has` names hold what stands in `numbers`, the others what stands in `joined`
  unfoldable pub joined_by : ℕ → ℕ → (ℕ → Bool) → List A → List A → List A
  joined_by size count has numbers joined = laid (λ i. cond (has i) (voxel_part size i numbers) (voxel_part size i joined)) count 0

  -- the unblurred volume of a finished bake: scratch has it, and where no voxel is active the volume, which no mean was taken of
  abbrev pub unblurred_in : Bake A → Stage A → List A
  unblurred_in b s = cond (any_active b.active b.count) s.scratch s.volume

  -- the unblurred volumes of shares, joined one after another
  unfoldable pub joined_all : Bake A → List (Share A) → List A → List A
  joined_all b [] joined = joined
  joined_all b (share ∷ rest) joined = joined_all b rest (joined_by b.size b.count share.has (unblurred (bake_by b share)) joined)

  -- ---- added

  -- a number of each share, added
  abbrev pub added_over : (Share A → ℕ) → List (Share A) → ℕ
  added_over f shares = sum (map f shares)
