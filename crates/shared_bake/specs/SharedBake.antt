-- A bake spread over machines or threads, said of results of public calls: for masks of which each active voxel stands in exactly one and no other voxel in
-- any, baked each by itself to the end, the voxels' numbers taken from the share that has them, then the mean: bit for bit the unbroken bake, rays adding up. Each share has a mask,
-- lists and an engine of its own, and all else of the same input; `join` brings the unblurred volumes of the others onto the first one's; the blur of coefficients
-- takes the mean. A share may itself be brought by shares, to any depth. Definitions only; `demand_of_shares` and `brought_whole` of SharedBakeLaws show it of
-- whatever satisfies the calls' contracts.
use Rattle.std.specs.Prelude.{◌≡◌, Bool, true, false, cond, List, [], ◌∷◌, map, ℕ, ◌+◌, ◌*◌, ◌<◌, length, Float}
use Rattle.marks.specs.Marks.{is_marked}
use Rattle.words.specs.Words.{entries_of, Tidy}
use Rattle.spread.specs.Spread.{progress_of, at_zero, Stage, stage, any_active, unblurred, unbroken, sum, NoneRefused}
use Rattle.shares.specs.Shares.{Share, Parted}
use Rattle.join.specs.Join.{Joined}
use Rattle.blurs.specs.Blurs.{CoefficientsBlurred}
use Rattle.intake.specs.Intake.{BakeInput, input_for, voxel_numbers, voxel_count, active_entries, bake_refusal, GoodProgress}
use Rattle.demand.specs.Bake.{bake_of}
use Rattle.bake.specs.Results.{Result, lending, Successive, left_by, refusals_of, reported_by, rays_below}

-- ---- the shares' bakes

-- the input b with another mask, by its words, for the one engine or the other; and for its own
abbrev pub sharing_for : Bool → BakeInput → List ℕ → BakeInput
sharing_for solid b mask =
    input_for solid b.axes b.corners b.scene b.light b.ambient b.sky b.lamps mask b.lights b.distances b.places

abbrev pub sharing : BakeInput → List ℕ → BakeInput
sharing b mask = sharing_for b.solid b mask

-- a share's engine and mask, the stage and the hit lists that its first call is handed, and the results of its calls, of which there is at least one
pub record ShareBake : Type 0 where
  pub solid : Bool
  pub mask : List ℕ
  pub begun : Stage Float
  pub distances : List Float
  pub places : List ℕ
  pub first : Result
  pub rest : List Result

abbrev pub calls_of : ShareBake → List Result
calls_of s = s.first ∷ s.rest

-- what the last call left
abbrev pub end_of : ShareBake → Stage Float
end_of s = left_by s.begun (calls_of s)

-- the results are those of public calls, begun at progress zero, no call refused, all else handed on unchanged, to the end
pub record BakedToEnd (b : BakeInput) (s : ShareBake) : Type 0 where
  pub calls : Successive (sharing_for s.solid b s.mask) s.begun s.distances s.places (calls_of s)
  pub from_zero : s.begun.progress ≡ at_zero
  pub unrefused : NoneRefused (refusals_of (calls_of s))
  pub to_end : (end_of s).progress.next ≡ voxel_count b

abbrev pub EachBaked : BakeInput → List ShareBake → Type 0
EachBaked b [] = Unit
EachBaked b (s ∷ rest) = BakedToEnd b s × EachBaked b rest

module _ (b : BakeInput) where
  -- whether any voxel is active
  abbrev pub some_active : Bool
  some_active = any_active (is_marked (active_entries b)) (voxel_count b)

  -- whether a mask has voxel i
  abbrev pub has_voxel : List ℕ → ℕ → Bool
  has_voxel mask = is_marked (entries_of mask (voxel_count b))

  abbrev pub as_share : ShareBake → Share Float
  as_share s = record { has = has_voxel s.mask; refusal = bake_refusal (lending (sharing_for s.solid b s.mask) s.distances s.places) }

  -- its unblurred volume: scratch has it, and where the share has no voxel the volume, which no mean was taken of
  abbrev pub unblurred_of : ShareBake → List Float
  unblurred_of s = cond (any_active (has_voxel s.mask) (voxel_count b)) (end_of s).scratch (end_of s).volume

-- ---- joined

-- a share that is joined onto those before it, the join's answer and what it left
pub record JoinedShare : Type 0 where
  pub share : ShareBake
  pub answer : ℕ
  pub joined : List Float

-- results of joins one after another onto `joined`: each satisfies the public contract, and what it left is handed on to the next
abbrev pub JoinedOnto : BakeInput → List Float → List JoinedShare → Type 0
JoinedOnto b joined [] = Unit
JoinedOnto b joined (j ∷ rest) =
    Joined b.axes j.share.mask (unblurred_of b j.share) joined j.answer j.joined × JoinedOnto b j.joined rest

-- what the last of them left
abbrev pub last_joined : List Float → List JoinedShare → List Float
last_joined joined [] = joined
last_joined joined (j ∷ rest) = last_joined j.joined rest

-- ---- all of it

abbrev pub shares_of : ShareBake → List JoinedShare → List ShareBake
shares_of first rest = first ∷ map (λ (j : JoinedShare). j.share) rest

-- unblurred numbers, for which so many rays were fired, end as the unbroken bake
pub record EndsUnbroken (b : BakeInput) (numbers : List Float) (rays : ℕ) : Type 0 where
  -- they are its unblurred volume
  pub joined : numbers ≡ unblurred (bake_of b)
  -- where any voxel is active: the blur of that, lent a scratch of its length, is not refused, and with the count and the rays for a progress volume and
  -- scratch are bit for bit the unbroken bake's
  pub blurred : some_active b ≡ true → (scratch : List Float) → length scratch ≡ voxel_count b * voxel_numbers → (r : ℕ) (volume' scratch' : List Float)
      → CoefficientsBlurred b.axes numbers scratch r volume' scratch'
      → (r ≡ 0) × (stage (progress_of (voxel_count b) rays) volume' scratch' ≡ unbroken (bake_of b) scratch)
  -- where none is: they are the unbroken bake's volume, of which no mean is taken, and scratch stays
  pub unblurred_end : some_active b ≡ false → (scratch : List Float) → stage (progress_of (voxel_count b) rays) numbers scratch ≡ unbroken (bake_of b) scratch
  -- the rays are those that the definition fires, so that a call may be handed the record
  pub known : rays ≡ rays_below b (voxel_count b)
  pub good : GoodProgress b (progress_of (voxel_count b) rays)

module _ (b : BakeInput) (first : ShareBake) (rest : List JoinedShare) where
  -- shares of the active voxels of b, baked, and joined onto the first one's unblurred volume
  pub record Shared : Type 0 where
    -- each active voxel stands in exactly one of them, and none has another
    pub parted : Parted (bake_of b) (map (as_share b) (shares_of first rest))
    pub baked : EachBaked b (shares_of first rest)
    pub joins : JoinedOnto b (unblurred_of b first) rest

  abbrev pub all_joined : List Float
  all_joined = last_joined (unblurred_of b first) rest

  -- what all calls of all shares reported, added
  abbrev pub all_reported : ℕ
  all_reported = sum (map (λ (s : ShareBake). sum (reported_by (calls_of s))) (shares_of first rest))

  -- and what the shares' last records know, added
  abbrev pub all_known : ℕ
  all_known = sum (map (λ (s : ShareBake). (end_of s).progress.rays) (shares_of first rest))

  -- what is demanded of them
  pub record DemandOfShares : Type 0 where
    -- no join is refused
    pub none : NoneRefused (map (λ (j : JoinedShare). j.answer) rest)
    -- what they leave is the unblurred volume of the unbroken bake, and their last records know its rays
    pub whole : EndsUnbroken b all_joined all_known
    -- what all calls of all shares reported adds up to the rays that the definition fires
    pub rays : all_reported ≡ rays_below b (voxel_count b)

  -- and so it is bit for bit what results of calls with the whole mask leave, which report as many rays
  pub record AsOne (whole : ShareBake) : Type 0 where
    pub blurred : some_active b ≡ true → (scratch : List Float) → length scratch ≡ voxel_count b * voxel_numbers → (r : ℕ) (volume' scratch' : List Float)
        → CoefficientsBlurred b.axes all_joined scratch r volume' scratch'
        → (volume' ≡ (end_of whole).volume) × (scratch' ≡ (end_of whole).scratch)
    pub unblurred_end : some_active b ≡ false → all_joined ≡ (end_of whole).volume
    pub rays : all_reported ≡ sum (reported_by (calls_of whole))
    pub known : all_known ≡ (end_of whole).progress.rays

-- ---- shares of shares

module _ (b : BakeInput) where
  -- two masks part a third: each of its voxels stands in exactly one of the two, and neither has another
  pub record Halves (mask onto share : List ℕ) : Type 0 where
    pub tidy : Tidy mask (voxel_count b)
    pub parted : (i : ℕ) → i < voxel_count b → cond (has_voxel b onto i) 1 0 + cond (has_voxel b share i) 1 0 ≡ cond (has_voxel b mask i) 1 0

  -- what machines, and threads of machines, bring to any depth: the unblurred numbers of the voxels of a mask, for which so many rays were fired. They are
  -- what calls with that mask left at their end, or what a join left of two shares that part the mask
  pub data Brought : List ℕ → List Float → ℕ → Type 0 where
    by_calls : (s : ShareBake) → BakedToEnd b s → Brought s.mask (unblurred_of b s) (end_of s).progress.rays
    by_join : {mask onto share : List ℕ} {numbers unblurred joined : List Float} {m n : ℕ} → Brought onto numbers m → Brought share unblurred n → Halves mask onto share
        → (answer : ℕ)
        → Joined b.axes share unblurred numbers answer joined
        → Brought mask joined (m + n)
