-- The hits of a walk as they come, to be put in order at its end; a hit that stops light ends the walk, since it leaves nothing at whatever place of the order. So a walk need not insert, and
-- where every material is opaque it needs no room.
use Rattle.std.specs.Prelude.{Option, None, Some, cond, List, [], ◌∷◌, ◌++◌, ℕ, Float}
use Rattle.names.specs.Bits.{zero32, one32}
use Rattle.names.specs.Scene.{Scene}
use Rattle.vectors.specs.declared.Ray.{Ray}
use Rattle.triangle.specs.declared.Hit.{Hit}
use Rattle.panels.specs.Panels.{kind_at, stops_light}
use Rattle.hits.specs.Hits.{Struck, struck, places_of}
use Rattle.hits.specs.Merge.{sort_of}
use Rattle.scan.specs.OpaqueLaws.{clear_pass_of}
use Rattle.tree_walk.specs.Boxed.{boxed_at}

-- a hit that stops light was met; or these hits, and none of them does
pub data Collected : Type 0 where
  dark : Collected
  came : List Struck → Collected

-- with a meeting at place i
unfoldable pub collect_meet : List ℕ → List ℕ → Collected → ℕ → Option Hit → Collected
collect_meet uses kinds dark i m = dark
collect_meet uses kinds (came hs) i None = came hs
collect_meet uses kinds (came hs) i (Some h) = cond (stops_light (kind_at uses kinds i)) dark (came (hs ++ (struck h.t i ∷ [])))

abbrev pub collect_step : List Float → List ℕ → List ℕ → Ray → Collected → ℕ → Collected
collect_step points uses kinds ray held i = collect_meet uses kinds held i (boxed_at points uses kinds ray i)

-- what passes
unfoldable pub pass_collected : Scene → Collected → Float
pass_collected scene dark = zero32
pass_collected scene (came hs) = clear_pass_of scene.uses scene.numbers one32 (places_of (sort_of hs))
