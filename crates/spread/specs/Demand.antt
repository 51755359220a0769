-- What the customer demands of a bake that is spread over calls, sentence by sentence: demand 3, module 7 on progress, and document 02, C-16, on the rays
-- that progress knows. Where he says 384 the most that a voxel may cost stands. Holds.antt shows it of every fair bake.
use Rattle.std.specs.Prelude.{◌≡◌, true, ◌⊎◌, List, ℕ, ◌+◌, ◌-◌, ◌*◌, ◌/◌, ◌≤◌, ◌<◌, length}
use Rattle.names.specs.Numbers.{primary_rays}
use Rattle.lists.specs.Laid.{voxel_part}
use Rattle.spread.specs.declared.Progress.{Progress}
use Rattle.spread.specs.Spread.{at_zero, Stage, Bake, call, unbroken, actives, costs, standing, stands, run, sum, EachAtLeast, NoneRefused}

-- the numbers of each voxel are as many as its place has
pub record Sized {A : Type 0} (b : Bake A) : Type 0 where
  pub ambient : (i : ℕ) → length (b.ambient i) ≡ b.size
  pub gathered : (i : ℕ) → length (b.gathered i) ≡ b.size

-- "Progress becomes a record: next voxel and rays so far. For a voxel cost W it holds that rays so far lies between 64 and W for each mask entry 1 below
-- next"; and next is at most the count
pub record KnowsRays {A : Type 0} (b : Bake A) (p : Progress) : Type 0 where
  pub within : p.next ≤ b.count
  pub least : actives b p.next 0 * primary_rays ≤ p.rays
  pub most : p.rays ≤ actives b p.next 0 * b.most

-- what is asked of a bake: it has voxels; each has as many numbers as its place; an active one costs 64 rays at least and what a voxel may
-- cost at most; and a call that is not refused has a progress that knows its rays and an allowance for one voxel
pub record Fair {A : Type 0} (b : Bake A) : Type 0 where
  pub some : 0 < b.count
  pub sized : Sized b
  pub least : (i : ℕ) → primary_rays ≤ b.cost i
  pub most : (i : ℕ) → b.cost i ≤ b.most
  pub within : (s : Stage A) (a : ℕ) → b.refusal s a ≡ 0 → KnowsRays b s.progress × (b.most ≤ a)

-- an accepted call leaves what the next accepts, at any allowance for one voxel
abbrev pub Lasts : {A : Type 0} → Bake A → Type 0
Lasts {A} b = (s : Stage A) (a next : ℕ) → b.refusal s a ≡ 0 → b.most ≤ next → b.refusal (call b a s).stage next ≡ 0

-- ⌈a / k⌉
abbrev pub rounded_up : ℕ → ℕ → ℕ
rounded_up a k = (a + (k - 1)) / k

module _ {A : Type 0} (b : Bake A) where
  -- the active voxels of the whole mask
  abbrev pub all_active : ℕ
  all_active = actives b b.count 0

  -- the active voxels that a call with the allowance a finishes
  abbrev pub finished : ℕ → Stage A → ℕ
  finished a s = actives b ((call b a s).stage.progress.next - s.progress.next) s.progress.next

  pub record Demand : Type 0 where
    -- "Begun at progress zero, no call refused, all else handed on unchanged, the end is bit for bit the unbroken bake."
    -- A refused call changes nothing, so it need not even be asked that there is none.
    pub whole : (l : List ℕ) (s : Stage A) → s.progress ≡ at_zero → (run b l s).stage.progress.next ≡ b.count
        → (run b l s).stage ≡ unbroken b s.scratch
    -- "Before that, voxels below progress are final but unblurred, the others ambient, scratch untouched."
    pub before : (l : List ℕ) (s : Stage A) → s.progress ≡ at_zero → 0 < (run b l s).stage.progress.next → (run b l s).stage.progress.next < b.count
        → ((i : ℕ) → i < b.count → voxel_part b.size i (run b l s).stage.volume ≡ standing b (run b l s).stage.progress.next i)
        × ((run b l s).stage.volume ≡ stands b (run b l s).stage.progress.next)
        × ((run b l s).stage.scratch ≡ s.scratch)
    -- "No call fires more than its allowance"
    pub within : (a : ℕ) (s : Stage A) → (call b a s).rays ≤ a
    -- "each finishes at least as many active voxels as the allowance holds whole 384s, or all that remain"
    pub finishes : (a : ℕ) (s : Stage A) → (call b a s).refusal ≡ 0
        → ((call b a s).stage.progress.next ≡ b.count) ⊎ (a / b.most ≤ finished a s)
    -- "What a call fires, and reports, is the definition's rays of the active voxels it took, no more and no fewer"
    pub reports : (a : ℕ) (s : Stage A) → (call b a s).refusal ≡ 0
        → (call b a s).rays ≡ costs b ((call b a s).stage.progress.next - s.progress.next) s.progress.next
    -- "an active one is taken exactly while at least 384 rays remain": so many remain at each that is taken ..
    pub takes : (a : ℕ) (s : Stage A) → (call b a s).refusal ≡ 0 → (i : ℕ) → s.progress.next ≤ i → i < (call b a s).stage.progress.next → b.active i ≡ true
        → b.most ≤ a - costs b (i - s.progress.next) s.progress.next
    -- .. and fewer at the one where the call stops short of the end
    pub stops : (a : ℕ) (s : Stage A) → (call b a s).refusal ≡ 0 → (call b a s).stage.progress.next < b.count
        → (b.active (call b a s).stage.progress.next ≡ true) × (a - (call b a s).rays < b.most)
    -- "the reported counts add up to the rays the definition fires"
    pub sums : (l : List ℕ) (s : Stage A) → s.progress ≡ at_zero → (run b l s).stage.progress.next ≡ b.count → sum (run b l s).rays ≡ costs b b.count 0
    -- "64 to 384 for each active voxel": voxel by voxel, and so of all
    pub each : (i : ℕ) → i < b.count → b.active i ≡ true → (primary_rays ≤ b.cost i) × (b.cost i ≤ b.most)
    pub all : (all_active * primary_rays ≤ costs b b.count 0) × (costs b b.count 0 ≤ all_active * b.most)
    -- "so A active voxels at allowances of k·384 or more, k at least 1, take at most ⌈A/k⌉ calls"
    pub calls : (k : ℕ) (l : List ℕ) (s : Stage A) → 1 ≤ k → EachAtLeast (k * b.most) l → 0 < length l → rounded_up all_active k ≤ length l
        → s.progress ≡ at_zero → NoneRefused (run b l s).refusals → (run b l s).stage.progress.next ≡ b.count
    -- "no active voxel, one call"
    pub one : (a : ℕ) (s : Stage A) → all_active ≡ 0 → s.progress ≡ at_zero → (call b a s).refusal ≡ 0 → (call b a s).stage.progress.next ≡ b.count
    -- an accepted call goes on; a finished bake fires nothing and is left as it is
    pub goes : (a : ℕ) (s : Stage A) → (call b a s).refusal ≡ 0 → s.progress.next < b.count → s.progress.next < (call b a s).stage.progress.next
    pub rests : (a : ℕ) (s : Stage A) → s.progress.next ≡ b.count → ((call b a s).rays ≡ 0) × ((call b a s).stage ≡ s)
    -- "and is zero at zero"
    pub zero_at_zero : (a : ℕ) (s : Stage A) → (call b a s).refusal ≡ 0 → s.progress.next ≡ 0 → s.progress ≡ at_zero
    -- an accepted call answers a progress that knows its rays, as it was handed one
    pub knows : (a : ℕ) (s : Stage A) → (call b a s).refusal ≡ 0 → KnowsRays b s.progress × KnowsRays b (call b a s).stage.progress
    -- whatever the calls are handed, what they report is added to the rays so far
    pub adds : (l : List ℕ) (s : Stage A) → (run b l s).stage.progress.rays ≡ s.progress.rays + sum (run b l s).rays
    -- "In demand 3, the counts' sum is also the record's last number": after each call of a run, and those are the rays that the definition fires below next
    pub sum_known : (l : List ℕ) (s : Stage A) → s.progress ≡ at_zero → (run b l s).stage.progress.rays ≡ sum (run b l s).rays
    pub rays_known : (l : List ℕ) (s : Stage A) → s.progress ≡ at_zero → (run b l s).stage.progress.rays ≡ costs b (run b l s).stage.progress.next 0
    -- and so at the end it lies between 64 and what a voxel may cost for each active voxel
    pub between : (l : List ℕ) (s : Stage A) → s.progress ≡ at_zero → (run b l s).stage.progress.next ≡ b.count
        → (all_active * primary_rays ≤ (run b l s).stage.progress.rays) × ((run b l s).stage.progress.rays ≤ all_active * b.most)
