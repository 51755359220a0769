-- The plain scan "over the triangles whose own padded box is not passed over, ties by place as before": the scan of a scene that comes with a box tree. Absent
-- triangles are misses of the test itself.
use Rattle.std.specs.Prelude.{Option, true, false, List, ℕ, Float}
use Rattle.names.specs.Bits.{one32}
use Rattle.names.specs.Scene.{Scene, scene_for}
use Rattle.vectors.specs.declared.Ray.{Ray}
use Rattle.triangle.specs.declared.Hit.{Hit}
use Rattle.panels.specs.Panels.{met_by, meet_at}
use Rattle.hits.specs.Hits.{Struck, with_meet, hits_of, places_of}
use Rattle.scan.specs.Nearest.{nearer_of, nearest_to, nearest_of}
use Rattle.scan.specs.Transmittance.{pass_of, transmittance_of}
use Rattle.scan.specs.declared.PlacedHit.{PlacedHit}

-- a scene read with its tree, and without
abbrev pub boxed_of : Scene → Scene
boxed_of s = scene_for true s.points s.uses s.kinds s.numbers s.boxes s.nodes s.order

abbrev pub plain_of : Scene → Scene
plain_of s = scene_for false s.points s.uses s.kinds s.numbers s.boxes s.nodes s.order

-- what a scan through boxes meets of the triangle at place i
abbrev pub boxed_at : List Float → List ℕ → List ℕ → Ray → ℕ → Option Hit
boxed_at = met_by true

abbrev pub boxed_meet_at : Scene → Ray → ℕ → Option Hit
boxed_meet_at scene = meet_at (boxed_of scene)

-- ---- the nearest

-- what is held with the triangle at place i
abbrev pub nearest_step : List Float → List ℕ → List ℕ → Ray → Option PlacedHit → ℕ → Option PlacedHit
nearest_step points uses kinds ray held i = nearer_of held i (boxed_at points uses kinds ray i)

-- among the first n triangles
abbrev pub nearest_boxed_to : Scene → Ray → ℕ → Option PlacedHit
nearest_boxed_to scene = nearest_to (boxed_of scene)

-- and among all
abbrev pub nearest_boxed : Scene → Ray → Option PlacedHit
nearest_boxed scene = nearest_of (boxed_of scene)

-- ---- the hits, by distance and then by place, and what passes

abbrev pub hits_step : List Float → List ℕ → List ℕ → Ray → List Struck → ℕ → List Struck
hits_step points uses kinds ray held i = with_meet held i (boxed_at points uses kinds ray i)

-- of the first n triangles
abbrev pub hits_boxed : Scene → Ray → ℕ → List Struck
hits_boxed scene = hits_of (boxed_of scene)

-- what is left of the light after these hits
abbrev pub pass_hits : Scene → List Struck → Float
pass_hits scene hs = pass_of scene.uses scene.kinds scene.numbers one32 (places_of hs)

abbrev pub transmittance_boxed : Scene → Ray → Float
transmittance_boxed scene = transmittance_of (boxed_of scene)
