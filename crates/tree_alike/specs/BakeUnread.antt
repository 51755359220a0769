-- The bake does not read a tree's lists but for its refusals: with the rows of the one the bake of the other is the same bake. So calls and runs that are refused
-- alike are the same, and the unbroken bake is one.
use Rattle.std.specs.Prelude.{◌≡◌, Bool, List, ℕ, Float}
use Rattle.std.proofs.Common.{ap, ap₂, ◌∙◌}
use Rattle.std.proofs.Math.Path.{fun_ext}
use Rattle.names.specs.Scene.{Scene, scene_for}
use Rattle.marks.specs.Marks.{is_marked}
use Rattle.grid.specs.declared.Axes.{Axes}
use Rattle.grid.specs.declared.Corners.{Corners}
use Rattle.limits.specs.declared.Light.{Light}
use Rattle.limits.specs.declared.Ambient.{Ambient}
use Rattle.spread.specs.Spread.{Stage, Bake, call, unbroken, run}
use Rattle.spread.specs.Refusing.{refusing, call_refusing, run_refusing, unbroken_refusing}
use Rattle.ends.specs.Ends.{ambient_at, mean_over}
use Rattle.intake.specs.Intake.{BakeInput, input_for, voxel_numbers, voxel_count, active_entries, bake_cost, bake_refusal}
use Rattle.demand.specs.Bake.{bake_of, bake_call}
use Rattle.tree_alike.specs.GatherUnread.{cost_unread, gathered_unread}

module _ (boxed : Bool) (points : List Float) (uses kinds : List ℕ) (numbers boxes boxes' : List Float) (nodes order nodes' order' : List ℕ) (solid : Bool) (axes : Axes) (corners : Corners)
    (light : Light) (ambient : Ambient) (sky lamps : List Float) (active : List ℕ) (lights : List Float) (distances places : ℕ) where
  abbrev input_from : Scene → BakeInput
  input_from scene = input_for solid axes corners scene light ambient sky lamps active lights distances places

  abbrev one : BakeInput
  one = input_from (scene_for boxed points uses kinds numbers boxes nodes order)

  abbrev other : BakeInput
  other = input_from (scene_for boxed points uses kinds numbers boxes' nodes' order')

  pub bake_unread : bake_of one ≡ refusing (bake_of other) (bake_refusal one)
  bake_unread =
      ap₂
      (λ (cost : ℕ → ℕ) (gathered : ℕ → List Float). record {
        count = voxel_count one;
        size = voxel_numbers;
        active = is_marked (active_entries one);
        cost = cost;
        most = bake_cost one;
        ambient = ambient_at ambient lights;
        gathered = gathered;
        mean = mean_over axes;
        refusal = bake_refusal one;
      })
      (fun_ext (cost_unread boxed points uses kinds numbers boxes boxes' nodes order nodes' order' axes corners light ambient sky lamps lights))
      (fun_ext (gathered_unread boxed points uses kinds numbers boxes boxes' nodes order nodes' order' axes corners light ambient sky lamps lights))

  -- a call
  pub call_unread : (s : Stage Float) (a : ℕ) → bake_refusal one s a ≡ bake_refusal other s a → bake_call one s a ≡ bake_call other s a
  call_unread s a e = ap (λ (b : Bake Float). call b a s) bake_unread ∙ call_refusing (bake_of other) (bake_refusal one) a s e

  -- a run of calls
  pub run_unread : ((s : Stage Float) (a : ℕ) → bake_refusal one s a ≡ bake_refusal other s a) → (allowances : List ℕ) (s : Stage Float)
      → run (bake_of one) allowances s ≡ run (bake_of other) allowances s
  run_unread e allowances s = ap (λ (b : Bake Float). run b allowances s) bake_unread ∙ run_refusing (bake_of other) (bake_refusal one) e allowances s

  -- the unbroken bake, refused or not
  pub unbroken_unread : (scratch : List Float) → unbroken (bake_of one) scratch ≡ unbroken (bake_of other) scratch
  unbroken_unread scratch = ap (λ (b : Bake Float). unbroken b scratch) bake_unread ∙ unbroken_refusing (bake_of other) (bake_refusal one) scratch
