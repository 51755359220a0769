-- How a search goes on: what it passes over is missed, whatever the materials, and so is a triangle of which nothing is met.
use mathlib.Core.Path.{◌≡◌}
use mathlib.Core.List.{List}
use Prim.Native.Nat.{ℕ, ◌+◌}
use lib.Ieee.{Float}
use Rattle.std.specs.Prelude.{false, None}
use Rattle.vectors.specs.declared.Ray.{Ray}
use Rattle.triangle.specs.Missed.{AllMiss, Missed, missed_more, missed_one}
use Rattle.panels.specs.Panels.{met_at, met_by}
use Rattle.panels.specs.PanelLaws.{all_missed_by}

module _ (points : List Float) (uses kinds : List ℕ) (ray : Ray) (from i j : ℕ) where
  pub passed_over : AllMiss (met_by false points uses kinds ray) from i → Missed points ray i j → AllMiss (met_by false points uses kinds ray) from j
  passed_over m o = missed_more _ from i j m (all_missed_by false points uses kinds ray i j o)

  pub not_met : AllMiss (met_by false points uses kinds ray) from i → Missed points ray i j → met_at points uses kinds ray j ≡ None
      → AllMiss (met_by false points uses kinds ray) from (j + 1)
  unfolding met_by
  not_met m o e = missed_one _ from j (passed_over m o) e
