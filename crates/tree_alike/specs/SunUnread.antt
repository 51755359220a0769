-- The sun's figures do not read a tree's lists: each is the same function of what the scans give. So do its light and what its scratch list holds (proofs/SunUnread.antt).
use Rattle.std.specs.Prelude.{◌≡◌, Bool, Float}
use Rattle.std.proofs.Math.Path.{refl}
use mathlib.Core.List.{List}
use Prim.Native.Nat.{ℕ}
use Rattle.names.specs.Scene.{Scene, scene_for}
use Rattle.vectors.specs.Vectors.{normal_v}
use Rattle.vectors.specs.declared.Vec3.{Vec3}
use Rattle.grid.specs.Grid.{x_of, y_of, z_of, edges_of, centre_from}
use Rattle.grid.specs.declared.Axes.{Axes}
use Rattle.grid.specs.declared.Corners.{Corners}
use Rattle.tracing.specs.UnreadLaws.{transmittance_unread}
use Rattle.sun.specs.Sun.{ahead_of, sun_ray, figure_of, sun_at}

module _ (boxed : Bool) (points : List Float) (uses kinds : List ℕ) (numbers boxes boxes' : List Float) (nodes order nodes' order' : List ℕ) (axes : Axes) (corners : Corners) (direction : Vec3)
    (active : List ℕ) where
  abbrev one : Scene
  one = scene_for boxed points uses kinds numbers boxes nodes order

  abbrev other : Scene
  other = scene_for boxed points uses kinds numbers boxes' nodes' order'

  -- what voxel i sees of the sun
  pub figure_unread : (i : ℕ) → sun_at axes corners one direction active i ≡ sun_at axes corners other direction active i
  unfolding figure_of
  figure_unread i =
      rw (transmittance_unread boxed points uses kinds numbers boxes boxes' nodes order nodes' order' (sun_ray (normal_v direction) (ahead_of (edges_of corners axes)) (centre_from corners.min (edges_of corners axes) (x_of axes i) (y_of axes i) (z_of axes i))))
      refl
