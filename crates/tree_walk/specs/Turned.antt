-- The points of a scene in the order of a tree, nine numbers a place, so that the triangles of a leaf lie side by side.
use Rattle.std.specs.Prelude.{◌≡◌, List, ℕ, ◌+◌, ◌*◌, ◌/◌, ◌%◌, ◌≤◌, ◌<◌, length, get_or, Float}
use Rattle.std.specs.Float.{nan}
use Rattle.triangle.specs.Places.{triangle_at}

-- at each place stands the triangle that the order names there; where it names none of the scene, anything may stand, and past the order too
pub record Turned (points : List Float) (order : List ℕ) (turned : List Float) : Type 0 where
  pub long : length order * 9 ≤ length turned
  pub same : (k : ℕ) → k < length order → get_or order k 0 < length points / 9 → triangle_at turned k ≡ triangle_at points (get_or order k 0)

-- ---- as they are written, number by number

-- where the number for place k of the turned list stands
abbrev pub source : List ℕ → ℕ → ℕ
source order k = get_or order (k / 9) 0 * 9 + k % 9

-- the first n numbers are there, of triangles of the scene
abbrev pub TurnedTo : List Float → List ℕ → List Float → ℕ → Type 0
TurnedTo points order turned n = (k : ℕ) → k < n → get_or order (k / 9) 0 < length points / 9 → get_or turned k nan ≡ get_or points (source order k) nan
