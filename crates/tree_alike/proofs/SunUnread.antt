-- The sun's light and what its scratch list holds do not read a tree's lists, since no figure of the sun's does (specs/SunUnread.antt).
use Rattle.std.specs.Prelude.{◌≡◌, Bool, Float}
use Rattle.std.proofs.Math.Path.{ap, fun_ext}
use Rattle.std.proofs.Math.Bool.{cond}
use mathlib.Core.List.{List}
use Prim.Native.Nat.{ℕ}
use Rattle.names.specs.Scene.{Scene, scene_for}
use Rattle.lists.specs.Fold.{tab}
use Rattle.vectors.specs.declared.Vec3.{Vec3}
use Rattle.grid.specs.Grid.{voxels}
use Rattle.grid.specs.declared.Axes.{Axes}
use Rattle.grid.specs.declared.Corners.{Corners}
use Rattle.means.specs.Box.{light_blur_of}
use Rattle.sun.specs.Sun.{sun_before, none_active, all_ones, sun_light, sun_scratch}
use Rattle.tree_alike.specs.SunUnread.{figure_unread}

module _ (boxed : Bool) (points : List Float) (uses kinds : List ℕ) (numbers boxes boxes' : List Float) (nodes order nodes' order' : List ℕ) (axes : Axes) (corners : Corners) (direction : Vec3)
    (active : List ℕ) where
  abbrev one : Scene
  one = scene_for boxed points uses kinds numbers boxes nodes order

  abbrev other : Scene
  other = scene_for boxed points uses kinds numbers boxes' nodes' order'

  -- what all voxels see of the sun, before the blur
  pub before_unread : sun_before axes corners one direction active ≡ sun_before axes corners other direction active
  unfolding sun_before
  before_unread = ap (λ (f : ℕ → Float). tab f (voxels axes) 0) (fun_ext (figure_unread boxed points uses kinds numbers boxes boxes' nodes order nodes' order' axes corners direction active))

  -- the light after it, and scratch
  pub light_unread : sun_light axes corners one direction active ≡ sun_light axes corners other direction active
  unfolding sun_light
  light_unread = ap (λ (l : List Float). cond (none_active active) (all_ones axes) (light_blur_of l axes.width axes.height axes.depth)) before_unread

  pub scratch_unread : (scratch : List Float) → sun_scratch axes corners one direction active scratch ≡ sun_scratch axes corners other direction active scratch
  unfolding sun_scratch
  scratch_unread scratch = ap (λ (l : List Float). cond (none_active active) scratch l) before_unread
