-- Document 02, C-16: "Operators restart the shift's bake on another desk and lose the running total." Calls one after another of which each is handed the
-- record that the one before it answered and the volume that it left; scratch, hit lists and engine are the desk's own, and so is the allowance. No call need
-- be accepted. Definitions only; `demand_of_restarts` of RestartsLaws shows it of whatever satisfies the calls' contract.
use Rattle.std.specs.Prelude.{◌≡◌, Bool, List, [], ◌∷◌, ℕ, ◌<◌, take, Float}
use Rattle.spread.specs.declared.Progress.{Progress}
use Rattle.spread.specs.Spread.{at_zero, stage, unbroken, stands, sum}
use Rattle.intake.specs.Intake.{BakeInput, voxel_count, GoodProgress}
use Rattle.demand.specs.Bake.{bake_of}
use Rattle.bake.specs.Baked.{Baked}
use Rattle.bake.specs.Results.{Result, lending_for, refusals_of, reported_by}

-- the result c is that of a public call with the progress q, the volume v, and a scratch and hit lists of some desk; a call for solid walls lends no hit lists, and both are then []
pub record CalledFrom (b : BakeInput) (q : Progress) (v : List Float) (c : Result) : Type 0 where
  pub solid : Bool
  pub scratch : List Float
  pub distances : List Float
  pub places : List ℕ
  pub baked : Baked (lending_for solid b distances places) (stage q v scratch) c.allowance c.answer c.volume c.scratch distances c.distances places c.places

-- each is handed the record and the volume of the one before it
abbrev pub Restarted : BakeInput → Progress → List Float → List Result → Type 0
Restarted b q v [] = Unit
Restarted b q v (c ∷ rest) = CalledFrom b q v c × Restarted b c.answer.progress c.volume rest

-- the record that the last of them answered, and the volume that it left
abbrev pub record_after : Progress → List Result → Progress
record_after q [] = q
record_after q (c ∷ rest) = record_after c.answer.progress rest

abbrev pub volume_after : List Float → List Result → List Float
volume_after v [] = v
volume_after v (c ∷ rest) = volume_after c.volume rest

abbrev pub NoneIs : ℕ → List ℕ → Type 0
NoneIs k [] = Unit
NoneIs k (r ∷ rs) = (r ≡ k → ⊥) × NoneIs k rs

-- of calls begun at progress zero with the volume v
pub record DemandOfRestarts (b : BakeInput) (v : List Float) (results : List Result) : Type 0 where
  -- no begun bake is ever refused for its record
  pub never_nine : NoneIs 9 (refusals_of results)
  -- after n calls, whichever n: the record's number is the sum of the reported counts,
  pub sums : (n : ℕ) → (record_after at_zero (take n results)).rays ≡ sum (reported_by (take n results))
  -- it "lies between 64 and W for each mask entry 1 below next,
  pub between : (n : ℕ) → GoodProgress b (record_after at_zero (take n results))
  -- and is zero at zero"
  pub zero_at_zero : (n : ℕ) → (record_after at_zero (take n results)).next ≡ 0 → (record_after at_zero (take n results)).rays ≡ 0
  -- the end is bit for bit the unbroken bake, its rays too, whichever desks it was baked on
  pub end : 0 < voxel_count b → (record_after at_zero results).next ≡ voxel_count b
      → (record_after at_zero results ≡ (unbroken (bake_of b) []).progress) × (volume_after v results ≡ (unbroken (bake_of b) []).volume)
  -- before that, voxels below next are final but unblurred, the others ambient
  pub before : 0 < (record_after at_zero results).next → (record_after at_zero results).next < voxel_count b
      → volume_after v results ≡ stands (bake_of b) (record_after at_zero results).next
