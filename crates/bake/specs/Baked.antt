-- What a call of the bake comes to, by what it is handed: the answer and the lists of `call` of the crate spread, of the bake that the input makes up.
-- Hit scratch keeps its lengths; it is as it was where no ray is fired, and otherwise open. Assumes nothing.
use Rattle.std.specs.Prelude.{◌≡◌, List, [], ℕ, ◌+◌, length, Result, Ok, Err, Float}
use Rattle.names.specs.declared.refusal.Refusal.{Refusal}
use Rattle.names.specs.Answers.{number_of}
use Rattle.spread.specs.declared.Progress.{Progress}
use Rattle.spread.specs.Spread.{progress_of, Stage}
use Rattle.grid.specs.declared.Axes.{Axes}
use Rattle.ends.specs.Ends.{Finished}
use Rattle.intake.specs.Intake.{BakeInput}
use Rattle.demand.specs.Bake.{bake_call}
use Rattle.walk.specs.declared.Reached.{Reached}
use Rattle.walk.specs.Reports.{Unhit}
use Rattle.bake.specs.declared.Advance.{Advance}
use Rattle.bake.specs.declared.BakeAnswer.{BakeAnswer}

-- a call at the stage s answers r and leaves the volume v and the scratch x; hit scratch was d and p, and is d' and p'
pub record Baked (b : BakeInput) (s : Stage Float) (allowance : ℕ) (r : BakeAnswer) (v x d d' : List Float) (p p' : List ℕ) : Type 0 where
  pub refusal : r.refusal ≡ (bake_call b s allowance).refusal
  pub progress : r.progress ≡ (bake_call b s allowance).stage.progress
  pub rays : r.rays ≡ (bake_call b s allowance).rays
  pub volume : v ≡ (bake_call b s allowance).stage.volume
  pub scratch : x ≡ (bake_call b s allowance).stage.scratch
  pub hits : Unhit r.rays d d' p p'
  pub distances_long_is : length d' ≡ length d
  pub places_long_lem : length p' ≡ length p

-- the same for solid walls, where no hit scratch is lent
abbrev pub SolidBaked : BakeInput → Stage Float → ℕ → BakeAnswer → List Float → List Float → Type 0
SolidBaked b s allowance r v x = Baked b s allowance r v x [] [] [] []

-- the answer as C is told it, of a refusal, and of a call that reached so far from this progress on
abbrev pub refused_answer : ℕ → Progress → BakeAnswer
refused_answer n p = record { refusal = n; progress = p; rays = 0 }

abbrev pub reached_answer : Progress → Reached → BakeAnswer
reached_answer p r = record { refusal = 0; progress = progress_of r.next (p.rays + r.rays); rays = r.rays }

-- how far a call brought the bake that reached so far from this progress on
abbrev pub advance_of : Progress → Reached → Advance
advance_of p r = record { progress = progress_of r.next (p.rays + r.rays); rays = r.rays }

-- what stands for the answer of a call that was handed this progress
abbrev pub answer_of : Result Advance Refusal → Progress → BakeAnswer
answer_of (Ok a) p = record { refusal = 0; progress = a.progress; rays = a.rays }
answer_of (Err r) p = refused_answer (number_of r) p

-- the end, of a mask of these entries, where the walk reached it: elsewhere both lists are as they were
pub record Ends (axes : Axes) (active : List ℕ) (reached : ℕ) (v x v' x' : List Float) : Type 0 where
  pub over : reached ≡ length active → Finished axes active v x v' x'
  pub short : (reached ≡ length active → ⊥) → (v' ≡ v) × (x' ≡ x)
