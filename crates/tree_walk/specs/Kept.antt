-- What the code of a walk that collects hits holds: a hit that stops light was met, or so many hits stand at the head of two lists. There has to be room for the hits that may come, where a
-- material lets light through; where all are opaque no hit is kept.
use Rattle.std.specs.Prelude.{Option, None, Some, ◌≡◌, true, List, ℕ, ◌≤◌, take, Float}
use Rattle.names.specs.Scene.{other_kind}
use Rattle.hits.specs.Hits.{paired}
use Rattle.tree_walk.specs.Collect.{Collected, dark, came}

abbrev pub collected_by : Option ℕ → List Float → List ℕ → Collected
collected_by None distances places = dark
collected_by (Some m) distances places = came (paired (take m distances) (take m places))

-- there are at most n of them, and they lie within lists of these lengths
abbrev pub MetWithin : Option ℕ → ℕ → ℕ → ℕ → Type 0
MetWithin None n distances_length places_length = Unit {0}
MetWithin (Some m) n distances_length places_length = (m ≤ n) × (m ≤ distances_length) × (m ≤ places_length)

-- lists of these lengths have room for n hits
abbrev pub RoomFor : List ℕ → ℕ → ℕ → ℕ → Type 0
RoomFor kinds n distances_length places_length = other_kind kinds ≡ true → (n ≤ distances_length) × (n ≤ places_length)
