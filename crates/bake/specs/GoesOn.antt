-- "no call refused" is no empty hope. After an accepted call the next, with the same input and an allowance for one voxel, is not refused; so a run
-- that begins with what some call accepts is refused nowhere, and ends as the unbroken bake within the calls that the customer counts.
use Rattle.std.specs.Prelude.{◌≡◌, refl, Bool, false, cond, List, [], ◌∷◌, ℕ, ◌*◌, ◌≤◌, ◌<◌, length, Float}
use Rattle.std.proofs.Common.{sym, arith, le_trans, le_of_eq, one-mul, mul-le-mul_right}
use Rattle.limits.specs.Limits.{wrong_scene, bad_lights, bad_light, bad_ambient, bad_sky, bad_coefficients}
use Rattle.words.specs.Words.{unused_set}
use Rattle.limits.specs.LimitsLaws.{either, any_of_three, materials_for, coefficients_row}
use Rattle.spread.specs.Spread.{at_zero, Stage, unbroken, run, EachAtLeast, NoneRefused}
use Rattle.spread.specs.Demand.{Lasts, rounded_up, all_active}
use Rattle.spread.proofs.Holds.{no_call_refused}
use Rattle.lists.specs.Laid.{laid}
use Rattle.ends.specs.Ends.{ambient_at}
use Rattle.gather.specs.Gather.{gathered_of}
use Rattle.gather.specs.GatherLaws.{length_gathered}
use Rattle.gather_bounds.specs.GatherBounds.{Rows, gathered_within}
use Rattle.intake.specs.Intake.{BakeInput, voxel_count, bake_cost, wrong_bake_lists, bad_lighting, bad_contents, bake_refusal}
use Rattle.intake.specs.IntakeLaws.{BakePassed, fits, none_refused, still_passed}
use Rattle.demand.specs.Bake.{gather_input, bake_of}
use Rattle.demand.proofs.Demanded.{bake_fair, bake_demand}
use Rattle.demand.specs.Lasting.{GathersWithin}
use Rattle.demand.proofs.Lasting.{unblurred_good, bake_lasts}

-- what the rows of an accepted input say of what is gathered
pub gather_rows : (b : BakeInput) (s : Stage Float) (a : ℕ) → BakePassed b s a → Rows (gather_input b)
unfolding wrong_bake_lists bad_lighting bad_contents
gather_rows b s a p =
    let l = (any_of_three (bad_light b.light) (bad_ambient b.ambient) (bad_sky b.sky)).0 p.lighting in
    record {
      lists = ((either (wrong_scene b.scene.points b.scene.uses b.scene.kinds b.scene.numbers) _).0 p.lists).0;
      many = p.few;
      points = p.points;
      materials = materials_for b.solid b.scene.uses b.scene.kinds b.scene.numbers p.materials;
      light = l.0;
      ambient = l.1;
      sky = l.2;
      lights = ((any_of_three (unused_set b.active (voxel_count b)) (bad_lights b.lights) _).0 p.contents).1;
      skies = (fits b s a p).sky;
      lamps = p.lamps;
    }

-- what the gather writes of an accepted input lies within ±2^96
gathers : (b : BakeInput) (s : Stage Float) (a : ℕ) → BakePassed b s a → GathersWithin b
gathers b s a p i h =
    let g = gather_input b in
    let f = fits b s a p in
    (coefficients_row (gathered_of g i)).1 (λ j k. gathered_within g i (gather_rows b s a p) (omega (arith, f.lights)) j (omega (arith, length_gathered g i)))

-- and so do the unblurred volumes of an accepted input, whichever voxels are gathered
pub accepted_unblurred : (b : BakeInput) (s : Stage Float) (a : ℕ) → BakePassed b s a → (has : ℕ → Bool)
    → bad_coefficients (laid (λ i. cond (has i) (gathered_of (gather_input b) i) (ambient_at b.ambient b.lights i)) (voxel_count b) 0) ≡ false
accepted_unblurred b s a p has = unblurred_good b (gathers b s a p) s a p has

-- the next call is not refused
pub goes_on : (b : BakeInput) → Lasts (bake_of b)
goes_on b = bake_lasts b (gathers b)

-- nor is any of a run, at allowances for one voxel
pub never_refused : (b : BakeInput) (s : Stage Float) (a : ℕ) → bake_refusal b s a ≡ 0 → (l : List ℕ) → EachAtLeast (bake_cost b) l
    → NoneRefused (run (bake_of b) l s).refusals
unfolding bad_contents
never_refused b s a e l h =
    let p = (none_refused b s a).0 e in
    let f = fits b s a p in
    let c = (any_of_three (unused_set b.active (voxel_count b)) (bad_lights b.lights) _).0 p.contents in
    no_call_refused (bake_of b) (bake_fair b f.axes) (goes_on b) l s h
    (λ n k. (none_refused b s n).1 (still_passed b s a s n p refl refl f.progress k c.2))

each_up : (m n : ℕ) (l : List ℕ) → m ≤ n → EachAtLeast n l → EachAtLeast m l
each_up m n [] h e = tt
each_up m n (x ∷ l) h e = (le_trans h e.0, each_up m n l h e.1)

-- so a bake that is begun, by what some call accepts, ends as the unbroken bake: A active voxels at allowances of k times what a voxel may cost, or more, k at least 1, in
-- ⌈A/k⌉ calls, and in one at least
pub ends_unbroken : (b : BakeInput) (s : Stage Float) (a : ℕ) → bake_refusal b s a ≡ 0 → s.progress ≡ at_zero → (k : ℕ) (l : List ℕ) → 1 ≤ k
    → EachAtLeast (k * bake_cost b) l
    → 0 < length l
    → rounded_up (all_active (bake_of b)) k ≤ length l
    → (run (bake_of b) l s).stage ≡ unbroken (bake_of b) s.scratch
ends_unbroken b s a e z k l h m n c =
    let d = bake_demand b s a e in
    let w : bake_cost b ≤ k * bake_cost b = le_trans (le_of_eq (sym (one-mul (bake_cost b)))) (mul-le-mul_right (bake_cost b) h) in
    d.whole l s z (d.calls k l s h m n c z (never_refused b s a e l (each_up (bake_cost b) (k * bake_cost b) l w m)))
