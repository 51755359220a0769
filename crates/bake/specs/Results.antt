-- Demand 3, said of results of public calls: "A bake may be spread over calls, each with an allowance of at least 384 rays. Begun at progress zero, no
-- call refused, all else handed on unchanged, the end is bit for bit the unbroken bake. No call fires more than its allowance; each finishes at least as
-- many active voxels as the allowance holds whole 384s, or all that remain; the reported counts add up to the rays the definition fires, 64 to 384 for
-- each active voxel; so A active voxels at allowances of k·384 or more, k at least 1, take at most ⌈A/k⌉ calls; no active voxel, one call." With L lamps
-- 384+64L stands for 384. Document 02, C-16: "In demand 3, the counts' sum is also the record's last number." Definitions only; `demand_of_results` of ResultsLaws shows it of whatever satisfies the calls' contract.
use Rattle.std.specs.Prelude.{◌≡◌, Bool, true, ◌⊎◌, List, [], ◌∷◌, map, ℕ, ◌+◌, ◌*◌, ◌/◌, ◌≤◌, ◌<◌, length, Float}
use Rattle.names.specs.Numbers.{primary_rays}
use Rattle.spread.specs.declared.Progress.{Progress}
use Rattle.spread.specs.Spread.{Stage, stage, unbroken, actives, costs, stands, sum, EachAtLeast, NoneRefused}
use Rattle.spread.specs.Demand.{rounded_up}
use Rattle.marks.specs.Marks.{is_marked}
use Rattle.gather.specs.Gather.{cost_of}
use Rattle.gather.specs.Cost.{rays_of}
use Rattle.intake.specs.Intake.{BakeInput, input_for, solid_of, voxel_count, active_entries, bake_cost, GoodProgress}
use Rattle.demand.specs.Bake.{gather_input, bake_of}
use Rattle.bake.specs.declared.BakeAnswer.{BakeAnswer}
use Rattle.bake.specs.Baked.{Baked, SolidBaked}

-- ---- results of calls

-- a call's allowance, its answer, and what it left in volume, scratch and hit scratch
pub record Result : Type 0 where
  pub allowance : ℕ
  pub answer : BakeAnswer
  pub volume : List Float
  pub scratch : List Float
  pub distances : List Float
  pub places : List ℕ

-- what the next call is handed
abbrev pub handed_on : Result → Stage Float
handed_on c = stage c.answer.progress c.volume c.scratch

-- the input b with the hit lists d and p lent to it, by the one engine or the other, and by its own; a call for solid walls lends none, and both are then []
abbrev pub lending_for : Bool → BakeInput → List Float → List ℕ → BakeInput
lending_for solid b d p =
    input_for solid b.axes b.corners b.scene b.light b.ambient b.sky b.lamps b.active b.lights (length d) (length p)

abbrev pub lending : BakeInput → List Float → List ℕ → BakeInput
lending b d p = lending_for b.solid b d p

-- results of calls from the stage s on with the hit lists d and p: each satisfies the public contract, and is handed on to the next, all else unchanged
abbrev pub Successive : BakeInput → Stage Float → List Float → List ℕ → List Result → Type 0
Successive b s d p [] = Unit
Successive b s d p (c ∷ rest) =
    Baked (lending b d p) s c.allowance c.answer c.volume c.scratch d c.distances p c.places
    × Successive b (handed_on c) c.distances c.places rest

-- results of calls for solid walls, to which no hit scratch is lent
pub record SolidResult : Type 0 where
  pub allowance : ℕ
  pub answer : BakeAnswer
  pub volume : List Float
  pub scratch : List Float

abbrev pub SolidSuccessive : BakeInput → Stage Float → List SolidResult → Type 0
SolidSuccessive b s [] = Unit
SolidSuccessive b s (c ∷ rest) =
    SolidBaked (solid_of b) s c.allowance c.answer c.volume c.scratch × SolidSuccessive b (stage c.answer.progress c.volume c.scratch) rest

-- one such result, with hit scratch that holds nothing
abbrev pub result_of : SolidResult → Result
result_of c = record { allowance = c.allowance; answer = c.answer; volume = c.volume; scratch = c.scratch; distances = []; places = [] }

-- what the last of them left
abbrev pub left_by : Stage Float → List Result → Stage Float
left_by s [] = s
left_by s (c ∷ rest) = left_by (handed_on c) rest

abbrev pub allowances_of : List Result → List ℕ
allowances_of results = map (λ (c : Result). c.allowance) results

abbrev pub refusals_of : List Result → List ℕ
refusals_of results = map (λ (c : Result). c.answer.refusal) results

abbrev pub reported_by : List Result → List ℕ
reported_by results = map (λ (c : Result). c.answer.rays) results

-- ---- what is demanded of them

-- the active voxels below voxel p, and the rays that the definition fires for them
abbrev pub active_below : BakeInput → ℕ → ℕ
active_below b p = actives (bake_of b) p 0

abbrev pub rays_below : BakeInput → ℕ → ℕ
rays_below b p = costs (bake_of b) p 0

-- of one call that was handed the progress p
pub record OneCall (b : BakeInput) (p : Progress) (c : Result) : Type 0 where
  -- "No call fires more than its allowance"
  pub within : c.answer.rays ≤ c.allowance
  -- "each finishes at least as many active voxels as the allowance holds whole 384s, or all that remain"
  pub finishes : (active_below b p.next + c.allowance / bake_cost b ≤ active_below b c.answer.progress.next) ⊎ (c.answer.progress.next ≡ voxel_count b)
  -- "What a call fires, and reports, is the definition's rays of the active voxels it took, no more and no fewer."
  pub reports : rays_below b p.next + c.answer.rays ≡ rays_below b c.answer.progress.next
  -- and is added to the rays so far
  pub adds : c.answer.progress.rays ≡ p.rays + c.answer.rays
  -- "rays so far lies between 64 and W for each mask entry 1 below next, and is zero at zero", which is what row 9 asks of the next call's
  pub good : GoodProgress b c.answer.progress

-- of each, by the progress that the one before it answered
abbrev pub EachCall : BakeInput → Progress → List Result → Type 0
EachCall b p [] = Unit
EachCall b p (c ∷ rest) = OneCall b p c × EachCall b c.answer.progress rest

-- after each call the rays so far are the sum of what the calls reported, of which so many were reported before
abbrev pub EachKnows : ℕ → List Result → Type 0
EachKnows before [] = Unit
EachKnows before (c ∷ rest) = (c.answer.progress.rays ≡ before + c.answer.rays) × EachKnows (before + c.answer.rays) rest

-- of calls from the stage s on, of which there is at least one
module _ (b : BakeInput) (s : Stage Float) (first : Result) (rest : List Result) where
  -- the calls, and the stage that the last of them left
  abbrev all : List Result
  all = first ∷ rest

  abbrev last : Stage Float
  last = left_by s all

  pub record DemandOfResults : Type 0 where
    -- "no call refused"
    pub none : NoneRefused (refusals_of all)
    -- "the end is bit for bit the unbroken bake": progress, volume and scratch
    pub end : last.progress.next ≡ voxel_count b → last ≡ unbroken (bake_of b) s.scratch
    -- "Before that, voxels below progress are final but unblurred, the others ambient, scratch untouched."
    pub before : last.progress.next < voxel_count b → (last.volume ≡ stands (bake_of b) last.progress.next) × (last.scratch ≡ s.scratch)
    -- of each call what OneCall says
    pub calls : EachCall b s.progress all
    -- "the reported counts add up to the rays the definition fires"
    pub sums : last.progress.next ≡ voxel_count b → sum (reported_by all) ≡ rays_below b (voxel_count b)
    -- "In demand 3, the counts' sum is also the record's last number": after each call, and at the last; and it is the rays that the definition fires below next
    pub knows : EachKnows 0 all
    pub sum_known : last.progress.rays ≡ sum (reported_by all)
    pub rays_known : last.progress.rays ≡ rays_below b last.progress.next
    -- which are for voxel i `rays_of`: 64, and the extra rays of its hits
    pub fires : (i : ℕ) → cost_of (gather_input b) i ≡ rays_of (gather_input b) i
    -- "64 to 384 for each active voxel"
    pub each : (i : ℕ) → i < voxel_count b → is_marked (active_entries b) i ≡ true
        → (primary_rays ≤ cost_of (gather_input b) i) × (cost_of (gather_input b) i ≤ bake_cost b)
    -- so the record's last number lies between 64 and what a voxel may cost for each active voxel below next, at the end of all
    pub between : (active_below b last.progress.next * primary_rays ≤ last.progress.rays) × (last.progress.rays ≤ active_below b last.progress.next * bake_cost b)
    -- "so A active voxels at allowances of k·384 or more, k at least 1, take at most ⌈A/k⌉ calls": after so many the end is reached
    pub enough : (k : ℕ) → 1 ≤ k → EachAtLeast (k * bake_cost b) (allowances_of all) → rounded_up (active_below b (voxel_count b)) k ≤ length all
        → last.progress.next ≡ voxel_count b
    -- "no active voxel, one call"
    pub one : active_below b (voxel_count b) ≡ 0 → first.answer.progress.next ≡ voxel_count b
