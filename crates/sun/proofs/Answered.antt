-- How a call answers: a refusal leaves all four lists alone, and a pass that is not refused answers its rays.
use mathlib.Core.Path.{◌≡◌, refl, ap, ◌∙◌}
use mathlib.Core.Bool.{Bool}
use mathlib.Core.List.{List}
use Prim.Native.Nat.{ℕ}
use lib.ListN.{length}
use lib.Ieee.{Float}
use Rattle.std.specs.Prelude.{Result, Ok, Err}
use Rattle.std.specs.Result.{IsErr, IsErrAnd}
use Rattle.names.specs.declared.refusal.Refusal.{Refusal}
use Rattle.names.specs.Answers.{number_of}
use Rattle.names.specs.AnswersLaws.{number_nonzero}
use Rattle.names.specs.Refusals.{unless_refused, kept}
use Rattle.names.specs.Scene.{Scene}
use Rattle.vectors.specs.declared.Vec3.{Vec3}
use Rattle.grid.specs.Grid.{voxels}
use Rattle.grid.specs.declared.Axes.{Axes}
use Rattle.grid.specs.declared.Corners.{Corners}
use Rattle.words.specs.Words.{entries_of}
use Rattle.sun.specs.Sun.{sun_refusal, SunAnswered, SunPassed, sunned_of}

module _ (solid : Bool) (axes : Axes) (corners : Corners) (scene : Scene) (direction : Vec3) (active : List ℕ) (light scratch distances : List Float) (places : List ℕ) where
  abbrev refusal : ℕ
  refusal = sun_refusal solid axes corners scene direction active (length light) (length scratch) (length distances) (length places)

  pub refused : (answer : Result ℕ Refusal) (r : Refusal) → IsErr answer × IsErrAnd answer (λ q. q ≡ r) → number_of r ≡ refusal
      → SunAnswered solid axes corners scene direction active light scratch distances places (sunned_of answer) light scratch distances places
  refused (Ok _) r h e = absurd h.1
  refused (Err q) r h e =
      let n : number_of q ≡ 0 → ⊥ = number_nonzero q in
      record {
        answer = ap number_of h.1 ∙ e;
        rays = kept (number_of q) _ _ n;
        light_after = kept (number_of q) _ _ n;
        scratch_after = kept (number_of q) _ _ n;
        distances_kept = λ z. refl;
        places_kept = λ z. refl;
        distances_long_is = refl;
        places_long_lem = refl;
      }

  pub passed : {rays : ℕ} {light' scratch' distances' : List Float} {places' : List ℕ} → 0 ≡ refusal
      → SunPassed axes corners scene direction (entries_of active (voxels axes)) scratch distances places rays light' scratch' distances' places'
      → length distances' ≡ length distances
      → length places' ≡ length places
      → SunAnswered solid axes corners scene direction active light scratch distances places (sunned_of (Ok rays)) light' scratch' distances' places'
  unfolding unless_refused
  passed z p d q =
      record {
        answer = z;
        rays = p.rays_counted;
        light_after = p.light_after;
        scratch_after = p.scratch_after;
        distances_kept = p.distances_kept;
        places_kept = p.places_kept;
        distances_long_is = d;
        places_long_lem = q;
      }
