-- What the inner calls of the bake ask and report.
use Rattle.std.specs.Prelude.{◌≡◌, List, ℕ, ◌+◌, ◌*◌, ◌≤◌, length, Float}
use Rattle.lists.specs.Laid.{replaced}
use Rattle.spread.specs.Spread.{Called, Walked}
use Rattle.gather.specs.Gather.{GatherInput, gathered_of, cost_of, Gatherable}
use Rattle.intake.specs.Intake.{BakeInput, voxel_numbers, voxel_count}
use Rattle.names.specs.Numbers.{sky_numbers, lamp_limit}
use Rattle.names.specs.Scene.{Sound, HitsFit}
use Rattle.limits.specs.Limits.{lamp_count}
use Rattle.grid.specs.Grid.{AxesWithin}
use Rattle.words.specs.Words.{Tidy}
use Rattle.walk.specs.declared.Reached.{Reached}

-- one voxel is gathered into its place of a volume of this length
pub record Takeable (g : GatherInput) (i distances places volume : ℕ) : Type 0 where
  pub gatherable : Gatherable g i distances places voxel_numbers
  pub inside : i * voxel_numbers + voxel_numbers ≤ volume

pub record Taken (g : GatherInput) (i r : ℕ) (old new : List Float) : Type 0 where
  pub rays : r ≡ cost_of g i
  pub volume : new ≡ replaced voxel_numbers i (gathered_of g i) old

-- what a walk from this voxel on through a volume of this length may count on
pub record Walkable (b : BakeInput) (volume next : ℕ) : Type 0 where
  pub axes : AxesWithin b.axes
  pub scene : Sound b.scene
  pub sky : length b.sky ≡ sky_numbers
  pub lamps : lamp_count b.lamps ≤ lamp_limit
  pub active : Tidy b.active (voxel_count b)
  pub lights : length b.lights ≡ voxel_count b
  pub hits : HitsFit b.scene b.distances b.places
  pub inside : volume ≡ voxel_count b * voxel_numbers
  pub within : next ≤ voxel_count b

-- where no ray is fired, hit scratch is as it was
pub record Unhit (rays : ℕ) (d d' : List Float) (p p' : List ℕ) : Type 0 where
  pub distances : rays ≡ 0 → d' ≡ d
  pub places : rays ≡ 0 → p' ≡ p

-- the code's answer and its volume are those of the walk w
pub record Reports (w : Walked Float) (r : Reached) (v d d' : List Float) (p p' : List ℕ) : Type 0 where
  pub next : r.next ≡ w.next
  pub rays : r.rays ≡ w.rays
  pub volume : v ≡ w.volume
  pub hits : Unhit r.rays d d' p p'

-- and its answer and its lists are those of the accepted call c, but for the rays fired before
pub record Accepts (c : Called Float) (r : Reached) (v s d d' : List Float) (p p' : List ℕ) : Type 0 where
  pub next : r.next ≡ c.stage.progress.next
  pub rays : r.rays ≡ c.rays
  pub volume : v ≡ c.stage.volume
  pub scratch : s ≡ c.stage.scratch
  pub hits : Unhit r.rays d d' p p'
