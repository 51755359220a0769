-- Document 01's figure: 3×1×1 all active, no triangles: allowance 384 takes three calls of 64 rays; 448 takes two, 128 then 64; 383 is refused 10.
-- With one lamp the same 64 higher. At the end 192 rays are known. What the rays come to follows from the costs alone, so the figures are read off the bare bake of three voxels of
-- 64 rays each.
use Rattle.std.specs.Prelude.{◌≡◌, true, List, [], ◌∷◌, ℕ, zero, suc, ◌≤◌, ◌<◌, get_or, Float}
use Rattle.std.proofs.Math.Path.{refl}
use Rattle.std.proofs.Common.{ap, ap₂, ◌∙◌, arith, lit≤}
use Rattle.std.proofs.lemmas.Bool.{false≢true}
use Rattle.std.specs.Float.Ieee as Ieee
use Rattle.std.specs.Float.{nan}
use Rattle.std.specs.Float.Ieee.{of_bits, of_int}
use Rattle.spread.specs.Spread.{progress_of, at_zero, stage, Bake, Called, walk, call, run, sum, EachAtLeast, NoneRefused}
use Rattle.lists.specs.Any.{any}
use Rattle.spread.specs.Bare.{bare}
use Rattle.spread.proofs.Bare.{Agree, run_same}
use Rattle.lists.specs.Some.{some}
use Rattle.limits.specs.Limits.{within, bad_coefficients}
use Rattle.lists.specs.Fold.{fold, tab}
use Rattle.vectors.specs.Vectors.{add_v, mul_v, scale_v, dot_v, larger_v, clamp_of, lerp_v}
use Rattle.floats.specs.Choice.{larger_of, smaller_of}
use Rattle.scan.specs.Nearest.{nearest_of, nearest_to}
use Rattle.harmonics.specs.Harmonics.{added_to, irradiance_of, raised_of, raised_v, floored_of, luminance_of, shortfall_of, blended_each, blended_v}
use Rattle.gather.specs.Gather.{setting_of, incoming_by, gathered_along, gathering_of, voxel_of, finished_of, sixteen_of, gathered_of}
use Rattle.gather.proofs.CostLaws.{cost_of_nothing}
use Rattle.names.specs.Bits.{one32}
use Rattle.marks.specs.Marks.{is_marked}
use Rattle.words.specs.Words.{entries_of}
use Rattle.ends.specs.Ends.{ambient_voxel, ambient_at}
use Rattle.spread.specs.Demand.{Fair}
use Rattle.spread.proofs.Holds.{no_call_refused, refusals_zero}
use Rattle.intake.specs.Intake.{bad_volume, active_entries, bake_cost, bake_refusal}
use Rattle.intake.specs.IntakeLaws.{fits, none_refused, still_passed}
use Rattle.intake.specs.Three.{three_with, three, one_lamp, three_lit, begun, three_accepted, lit_accepted}
use Rattle.demand.specs.Bake.{gather_input, bake_of}
use Rattle.demand.specs.Calls.{refused_call}
use Rattle.demand.proofs.Demanded.{bake_fair, bake_demand}
use Rattle.demand.specs.Lasting.{GathersWithin}
use Rattle.demand.proofs.Lasting.{bake_lasts}

-- ---- no call is refused

gathers_within : (lamps : List Float) → GathersWithin (three_with lamps)
unfolding bad_coefficients some within gathered_of voxel_of gathering_of fold gathered_along incoming_by nearest_of nearest_to setting_of finished_of sixteen_of added_to irradiance_of raised_of raised_v floored_of luminance_of shortfall_of blended_each blended_v larger_of smaller_of scale_v add_v mul_v lerp_v dot_v larger_v clamp_of of_bits of_int Ieee.add Ieee.sub Ieee.mul Ieee.div Ieee.neg Ieee.le Ieee.lt Ieee.eq Ieee.is_nan
gathers_within lamps zero h = refl
gathers_within lamps (suc zero) h = refl
gathers_within lamps (suc (suc zero)) h = refl
gathers_within lamps (suc (suc (suc i))) h = absurd (omega arith)

module _ (lamps : List Float) (accepted : bake_refusal (three_with lamps) begun (bake_cost (three_with lamps)) ≡ 0) where
  -- begun, it is accepted at every allowance for one voxel
  begins : (a : ℕ) → bake_cost (three_with lamps) ≤ a → bake_refusal (three_with lamps) begun a ≡ 0
  unfolding bad_volume
  begins a h =
      let p = (none_refused (three_with lamps) begun (bake_cost (three_with lamps))).0 accepted in
      (none_refused (three_with lamps) begun a).1 (still_passed (three_with lamps) begun (bake_cost (three_with lamps)) begun a p refl refl (fits (three_with lamps) begun (bake_cost (three_with lamps)) p).progress h refl)

  three_fair : Fair (bake_of (three_with lamps))
  three_fair =
      bake_fair (three_with lamps)
      (fits (three_with lamps) begun (bake_cost (three_with lamps)) ((none_refused (three_with lamps) begun (bake_cost (three_with lamps))).0 accepted)).axes

  pub three_goes_on : (l : List ℕ) → EachAtLeast (bake_cost (three_with lamps)) l → NoneRefused (run (bake_of (three_with lamps)) l begun).refusals
  three_goes_on l h =
      no_call_refused (bake_of (three_with lamps)) three_fair (bake_lasts (three_with lamps) (λ s a p. gathers_within lamps)) l begun h begins

  -- where the reported rays are known, so are the rays so far
  reaches : (l : List ℕ) {next : ℕ} {rays : List ℕ} → (run (bake_of (three_with lamps)) l begun).stage.progress.next ≡ next → (run (bake_of (three_with lamps)) l begun).rays ≡ rays
      → (run (bake_of (three_with lamps)) l begun).stage.progress ≡ progress_of next (sum rays)
  reaches l e f = ap₂ progress_of e ((bake_demand (three_with lamps) begun _ accepted).sum_known l begun refl ∙ ap sum f)

-- ---- the rays, by the costs alone

abbrev three_bare : ℕ → Bake Unit
three_bare most = bare 3 most (λ i. true) (λ i. 64)

agrees : (lamps : List Float) → Agree (bake_of (three_with lamps)) (three_bare (bake_cost (three_with lamps)))
unfolding entries_of tab
agrees lamps =
    record {
      count = refl;
      most = refl;
      active = all_active_lem;
      cost = λ i h. cost_of_nothing (gather_input (three_with lamps)) i refl;
    }
  where
    all_active_lem : (i : ℕ) → i < 3 → is_marked (active_entries three) i ≡ true
    all_active_lem zero h = refl
    all_active_lem (suc zero) h = refl
    all_active_lem (suc (suc zero)) h = refl
    all_active_lem (suc (suc (suc i))) h = absurd (omega arith)

-- the answers of the bare bake
bare_384 : ((run (three_bare 384) (384 ∷ 384 ∷ 384 ∷ []) (stage at_zero [] [])).rays ≡ 64 ∷ 64 ∷ 64 ∷ [])
    × ((run (three_bare 384) (384 ∷ 384 ∷ 384 ∷ []) (stage at_zero [] [])).stage.progress.next ≡ 3)
unfolding run call walk any
bare_384 = (refl, refl)

bare_448 : ((run (three_bare 384) (448 ∷ 448 ∷ []) (stage at_zero [] [])).rays ≡ 128 ∷ 64 ∷ [])
    × ((run (three_bare 384) (448 ∷ 448 ∷ []) (stage at_zero [] [])).stage.progress.next ≡ 3)
unfolding run call walk any
bare_448 = (refl, refl)

-- ---- the figure

pub figure_384 : ((run (bake_of three) (384 ∷ 384 ∷ 384 ∷ []) begun).refusals ≡ 0 ∷ 0 ∷ 0 ∷ [])
    × ((run (bake_of three) (384 ∷ 384 ∷ 384 ∷ []) begun).rays ≡ 64 ∷ 64 ∷ 64 ∷ [])
    × ((run (bake_of three) (384 ∷ 384 ∷ 384 ∷ []) begun).stage.progress ≡ progress_of 3 192)
unfolding run call walk any sum
figure_384 =
    let n = three_goes_on [] three_accepted.0 (384 ∷ 384 ∷ 384 ∷ []) (omega arith) in
    let r = run_same (bake_of three) (three_bare 384) (agrees []) (384 ∷ 384 ∷ 384 ∷ []) begun (stage at_zero [] []) refl (lit≤ tt) n bare_none in
    (refusals_zero (bake_of three) (three_fair [] three_accepted.0) (384 ∷ 384 ∷ 384 ∷ []) begun n, r.1 ∙ bare_384.0, reaches [] three_accepted.0 (384 ∷ 384 ∷ 384 ∷ []) (r.0 ∙ bare_384.1) (r.1 ∙ bare_384.0))
  where
    bare_none : NoneRefused (run (three_bare 384) (384 ∷ 384 ∷ 384 ∷ []) (stage at_zero [] [])).refusals
    bare_none = (refl, (refl, (refl, tt)))

pub figure_448 : ((run (bake_of three) (448 ∷ 448 ∷ []) begun).refusals ≡ 0 ∷ 0 ∷ [])
    × ((run (bake_of three) (448 ∷ 448 ∷ []) begun).rays ≡ 128 ∷ 64 ∷ [])
    × ((run (bake_of three) (448 ∷ 448 ∷ []) begun).stage.progress ≡ progress_of 3 192)
unfolding run call walk any sum
figure_448 =
    let n = three_goes_on [] three_accepted.0 (448 ∷ 448 ∷ []) (omega arith) in
    let r = run_same (bake_of three) (three_bare 384) (agrees []) (448 ∷ 448 ∷ []) begun (stage at_zero [] []) refl (lit≤ tt) n bare_none in
    (refusals_zero (bake_of three) (three_fair [] three_accepted.0) (448 ∷ 448 ∷ []) begun n, r.1 ∙ bare_448.0, reaches [] three_accepted.0 (448 ∷ 448 ∷ []) (r.0 ∙ bare_448.1) (r.1 ∙ bare_448.0))
  where
    bare_none : NoneRefused (run (three_bare 384) (448 ∷ 448 ∷ []) (stage at_zero [] [])).refusals
    bare_none = (refl, (refl, tt))

pub figure_383 : ((run (bake_of three) (383 ∷ []) begun).refusals ≡ 10 ∷ []) × ((run (bake_of three) (383 ∷ []) begun).rays ≡ 0 ∷ [])
    × ((run (bake_of three) (383 ∷ []) begun).stage ≡ begun)
unfolding run
figure_383 =
    let c = refused_call three begun 383 (λ z. omega (arith, three_accepted.1)) in (
      ap (λ (x : Called Float). x.refusal ∷ []) c ∙ ap (λ (n : ℕ). n ∷ []) three_accepted.1,
      ap (λ (x : Called Float). x.rays ∷ []) c,
      ap (λ (x : Called Float). x.stage) c,
    )

-- with one lamp a voxel may cost 448: three calls of 64 rays; 512 takes two, 128 then 64; 447 is refused 10
bare_lit : ((run (three_bare 448) (448 ∷ 448 ∷ 448 ∷ []) (stage at_zero [] [])).rays ≡ 64 ∷ 64 ∷ 64 ∷ [])
    × ((run (three_bare 448) (448 ∷ 448 ∷ 448 ∷ []) (stage at_zero [] [])).stage.progress.next ≡ 3)
    × ((run (three_bare 448) (512 ∷ 512 ∷ []) (stage at_zero [] [])).rays ≡ 128 ∷ 64 ∷ [])
    × ((run (three_bare 448) (512 ∷ 512 ∷ []) (stage at_zero [] [])).stage.progress.next ≡ 3)
unfolding run call walk any
bare_lit = (refl, refl, refl, refl)

pub figure_lit : ((run (bake_of three_lit) (448 ∷ 448 ∷ 448 ∷ []) begun).refusals ≡ 0 ∷ 0 ∷ 0 ∷ [])
    × ((run (bake_of three_lit) (448 ∷ 448 ∷ 448 ∷ []) begun).rays ≡ 64 ∷ 64 ∷ 64 ∷ [])
    × ((run (bake_of three_lit) (448 ∷ 448 ∷ 448 ∷ []) begun).stage.progress ≡ progress_of 3 192)
unfolding run call walk any sum
figure_lit =
    let n = three_goes_on one_lamp lit_accepted.0 (448 ∷ 448 ∷ 448 ∷ []) (omega arith) in
    let r = run_same (bake_of three_lit) (three_bare 448) (agrees one_lamp) (448 ∷ 448 ∷ 448 ∷ []) begun (stage at_zero [] []) refl (lit≤ tt) n (refl, (refl, (refl, tt))) in
    (refusals_zero (bake_of three_lit) (three_fair one_lamp lit_accepted.0) (448 ∷ 448 ∷ 448 ∷ []) begun n, r.1 ∙ bare_lit.0, reaches one_lamp lit_accepted.0 (448 ∷ 448 ∷ 448 ∷ []) (r.0 ∙ bare_lit.1) (r.1 ∙ bare_lit.0))

pub figure_lit_512 : ((run (bake_of three_lit) (512 ∷ 512 ∷ []) begun).rays ≡ 128 ∷ 64 ∷ []) × ((run (bake_of three_lit) (512 ∷ 512 ∷ []) begun).stage.progress ≡ progress_of 3 192)
unfolding run call walk any sum
figure_lit_512 =
    let n = three_goes_on one_lamp lit_accepted.0 (512 ∷ 512 ∷ []) (omega arith) in
    let r = run_same (bake_of three_lit) (three_bare 448) (agrees one_lamp) (512 ∷ 512 ∷ []) begun (stage at_zero [] []) refl (lit≤ tt) n (refl, (refl, tt)) in
    (r.1 ∙ bare_lit.2, reaches one_lamp lit_accepted.0 (512 ∷ 512 ∷ []) (r.0 ∙ bare_lit.3) (r.1 ∙ bare_lit.2))

pub figure_447 : (run (bake_of three_lit) (447 ∷ []) begun).refusals ≡ 10 ∷ []
unfolding run
figure_447 =
    let c = refused_call three_lit begun 447 (λ z. omega (arith, lit_accepted.1)) in
    ap (λ (x : Called Float). x.refusal ∷ []) c ∙ ap (λ (n : ℕ). n ∷ []) lit_accepted.1

-- the first call of the three takes voxel 0 and no more
pub figure_first : ((run (bake_of three) (384 ∷ []) begun).refusals ≡ 0 ∷ []) × ((run (bake_of three) (384 ∷ []) begun).rays ≡ 64 ∷ [])
    × ((run (bake_of three) (384 ∷ []) begun).stage.progress ≡ progress_of 1 64)
unfolding run call walk any sum
figure_first =
    let n = three_goes_on [] three_accepted.0 (384 ∷ []) (omega arith) in
    let r = run_same (bake_of three) (three_bare 384) (agrees []) (384 ∷ []) begun (stage at_zero [] []) refl (lit≤ tt) n (refl, tt) in
    (refusals_zero (bake_of three) (three_fair [] three_accepted.0) (384 ∷ []) begun n, r.1, reaches [] three_accepted.0 (384 ∷ []) r.0 r.1)

-- what is gathered for voxel 0 is not what it holds before: its first number is not ambient's 1
pub gathered_differs : gathered_of (gather_input three) 0 ≡ ambient_at three.ambient three.lights 0 → ⊥
unfolding gathered_of voxel_of gathering_of fold gathered_along incoming_by nearest_of nearest_to setting_of finished_of sixteen_of added_to irradiance_of raised_of raised_v floored_of luminance_of shortfall_of blended_each blended_v larger_of smaller_of scale_v add_v mul_v lerp_v dot_v larger_v clamp_of of_bits of_int Ieee.add Ieee.sub Ieee.mul Ieee.div Ieee.neg Ieee.le Ieee.lt Ieee.eq Ieee.is_nan ambient_voxel
gathered_differs e = false≢true (ap (λ (l : List Float). Ieee.eq (get_or l 0 nan) one32) e)
