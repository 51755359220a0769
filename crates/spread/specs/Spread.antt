-- A bake that is spread over calls. A call refuses, or goes on from its progress, which is the next voxel's index and the rays so far: at next 0 it
-- first fills the volume with ambient; then it goes through the indices in order; an inactive voxel costs nothing; an active one is taken exactly while
-- as many rays remain as a voxel may cost. At the end, where any voxel is active, scratch gets the unblurred volume and the volume its mean. The rays
-- that a call fires are added to the rays so far. A run of calls hands each answer on to the next call. The unbroken bake has no allowance. Assumes
-- nothing.
use Rattle.std.specs.Prelude.{◌≡◌, Bool, cond, ◌&&◌, List, [], ◌∷◌, ℕ, zero, suc, ◌+◌, ◌-◌, ◌≤◌, leb, ltb, eqb}
use Rattle.lists.specs.Any.{any}
use Rattle.lists.specs.Laid.{laid, replaced}
use Rattle.spread.specs.declared.Progress.{Progress}

abbrev pub progress_of : ℕ → ℕ → Progress
progress_of next rays = record { next = next; rays = rays }

-- "progress zero"
abbrev pub at_zero : Progress
at_zero = progress_of 0 0

-- what a call is handed and what it leaves, apart from what stays the same from call to call
pub record Stage (A : Type 0) : Type 0 where
  pub progress : Progress
  pub volume : List A
  pub scratch : List A

abbrev pub stage : {A : Type 0} → Progress → List A → List A → Stage A
stage p v s = record { progress = p; volume = v; scratch = s }

-- what a bake is made of
pub record Bake (A : Type 0) : Type 0 where
  -- how many voxels, and how many numbers each has
  pub count : ℕ
  pub size : ℕ
  pub active : ℕ → Bool
  -- the rays that the definition fires for voxel i where it is active, and the most that a voxel may cost
  pub cost : ℕ → ℕ
  pub most : ℕ
  -- the numbers of voxel i before it is baked, and after
  pub ambient : ℕ → List A
  pub gathered : ℕ → List A
  -- the mean of a volume
  pub mean : List A → List A
  -- what a call with this allowance answers: 0, or the number of a refusal
  pub refusal : Stage A → ℕ → ℕ

-- what a call comes to
pub record Called (A : Type 0) : Type 0 where
  pub refusal : ℕ
  pub rays : ℕ
  pub stage : Stage A

-- what a walk through voxels leaves: the next voxel's index, the rays that it fired, and the volume
pub record Walked (A : Type 0) : Type 0 where
  pub next : ℕ
  pub rays : ℕ
  pub volume : List A

abbrev pub walked : {A : Type 0} → ℕ → ℕ → List A → Walked A
walked i r v = record { next = i; rays = r; volume = v }

-- the walk fired c rays before
abbrev pub more : {A : Type 0} → ℕ → Walked A → Walked A
more c w = walked w.next (c + w.rays) w.volume

-- "if any voxel is active", of the whole mask
abbrev pub any_active : (ℕ → Bool) → ℕ → Bool
any_active active count = any active count 0

module _ {A : Type 0} (b : Bake A) where
  -- ---- one call

  -- "At 0, first fill the volume with ambient"
  unfoldable pub filled : List A
  filled = laid b.ambient b.count 0

  abbrev pub started : ℕ → List A → List A
  started next v = cond (eqb next 0) filled v

  -- "Then go through indices in order; inactive ones cost nothing; an active one is taken exactly while at least 384 rays remain":
  -- through k voxels from i on, with l rays left
  unfoldable pub walk : ℕ → ℕ → ℕ → List A → Walked A
  walk zero i l v = walked i 0 v
  walk (suc k) i l v =
      let skipped = walk k (i + 1) l v in
      let taken = more (b.cost i) (walk k (i + 1) (l - b.cost i) (replaced b.size i (b.gathered i) v)) in
      let stopped = walked i 0 v in
      cond (b.active i) (cond (leb b.most l) taken stopped) skipped

  -- "At the end, if any voxel is active, scratch gets the unblurred volume and the volume its 3×3×3 mean"
  abbrev pub blurred : Progress → List A → List A → Stage A
  blurred p v s = cond (any_active b.active b.count) (stage p (b.mean v) v) (stage p v s)

  abbrev pub ended : Progress → List A → List A → Stage A
  ended p v s = cond (eqb p.next b.count) (blurred p v s) (stage p v s)

  -- a call that is not refused, short of the end: its walk, and the progress that it reaches
  abbrev pub walk_of : ℕ → Stage A → Walked A
  walk_of a s = walk (b.count - s.progress.next) s.progress.next a (started s.progress.next s.volume)

  abbrev pub reached_by : ℕ → Stage A → Progress
  reached_by a s = progress_of (walk_of a s).next (s.progress.rays + (walk_of a s).rays)

  abbrev pub baked : ℕ → Stage A → Called A
  baked a s = record { refusal = 0; rays = (walk_of a s).rays; stage = ended (reached_by a s) (walk_of a s).volume s.scratch }

  -- "Progress equal to the count: zero rays, nothing written."
  abbrev pub accepted : ℕ → Stage A → Called A
  accepted a s = cond (eqb s.progress.next b.count) (record { refusal = 0; rays = 0; stage = s }) (baked a s)

  -- a call with an allowance of a rays: a refusal answers its number and leaves all as it was handed in
  unfoldable pub call : ℕ → Stage A → Called A
  call a s = cond (eqb (b.refusal s a) 0) (accepted a s) (record { refusal = b.refusal s a; rays = 0; stage = s })

  -- ---- counts

  -- how many of the k voxels from i on are active, and the rays that the definition fires for these
  unfoldable pub actives : ℕ → ℕ → ℕ
  actives zero i = 0
  actives (suc k) i = cond (b.active i) (suc (actives k (i + 1))) (actives k (i + 1))

  unfoldable pub costs : ℕ → ℕ → ℕ
  costs zero i = 0
  costs (suc k) i = cond (b.active i) (b.cost i + costs k (i + 1)) (costs k (i + 1))

  -- ---- the unbroken bake

  -- each voxel ambient, or gathered where it is active; then the mean, where any is
  unfoldable pub unblurred : List A
  unblurred = laid (λ i. cond (b.active i) (b.gathered i) (b.ambient i)) b.count 0

  -- at the end progress is the count, and the rays that the definition fires
  unfoldable pub unbroken : List A → Stage A
  unbroken scratch = blurred (progress_of b.count (costs b.count 0)) unblurred scratch

  -- what voxel i holds short of the end: below the next voxel final but unblurred, elsewhere ambient
  abbrev pub standing : ℕ → ℕ → List A
  standing next i = cond (ltb i next && b.active i) (b.gathered i) (b.ambient i)

  -- and so the whole volume
  abbrev pub stands : ℕ → List A
  stands next = laid (standing next) b.count 0

-- ---- a run of calls

-- what the calls of a run answered, in order, and what the last one left
pub record Ran (A : Type 0) : Type 0 where
  pub refusals : List ℕ
  pub rays : List ℕ
  pub stage : Stage A

abbrev pub then : {A : Type 0} → Called A → Ran A → Ran A
then c r = record { refusals = c.refusal ∷ r.refusals; rays = c.rays ∷ r.rays; stage = r.stage }

-- a call for each allowance, each answer and each lent list handed on to the next
unfoldable pub run : {A : Type 0} → Bake A → List ℕ → Stage A → Ran A
run b [] s = record { refusals = []; rays = []; stage = s }
run b (a ∷ rest) s =
    let c = call b a s in
    then c (run b rest c.stage)

unfoldable pub sum : List ℕ → ℕ
sum [] = 0
sum (x ∷ xs) = x + sum xs

-- each of the numbers is at least k; each is 0
abbrev pub EachAtLeast : ℕ → List ℕ → Type 0
EachAtLeast k [] = Unit
EachAtLeast k (a ∷ rest) = (k ≤ a) × EachAtLeast k rest

abbrev pub NoneRefused : List ℕ → Type 0
NoneRefused [] = Unit
NoneRefused (r ∷ rs) = (r ≡ 0) × NoneRefused rs
