-- Which triangles count. "Material kind 2 is opaque from the front and absent from the back, for nearest hits as for transmittance." A triangle of another
-- kind counts from both sides; of those that count an opaque one and a panel stop all light. Of a scene with a box tree only "the triangles whose own padded
-- box is not passed over" (C-20).
use Rattle.std.specs.Prelude.{Option, None, Some, Bool, cond, not, ◌&&◌, ◌||◌, List, ℕ, get_or, eqb, Float}
use Rattle.names.specs.Numbers.{opaque_kind, panel_kind}
use Rattle.names.specs.Scene.{Scene}
use Rattle.vectors.specs.declared.Ray.{Ray}
use Rattle.triangle.specs.Meet.{meet_of}
use Rattle.triangle.specs.Places.{triangle_at}
use Rattle.triangle.specs.declared.Hit.{Hit}
use Rattle.boxes.specs.Boxes.{padded_of, passed_over}

-- the kind of the material that the triangle at place i uses
abbrev pub kind_at : List ℕ → List ℕ → ℕ → ℕ
kind_at uses kinds i = get_or kinds (get_or uses i 0) 0

-- whether a triangle of a kind counts where it is met from a side: a panel from the front alone, any other from both
unfoldable pub counts : ℕ → Bool → Bool
counts kind front = front || not (eqb kind panel_kind)

-- whether a triangle that counts stops all light
unfoldable pub stops_light : ℕ → Bool
stops_light kind = eqb kind opaque_kind || eqb kind panel_kind

-- a meeting with a triangle of a kind: a miss where the triangle does not count
unfoldable pub counted_of : ℕ → Option Hit → Option Hit
counted_of kind None = None
counted_of kind (Some h) = cond (counts kind h.front) (Some h) None

-- what a scan meets of the triangle at place i: what the test answers, where the triangle counts
unfoldable pub met_at : List Float → List ℕ → List ℕ → Ray → ℕ → Option Hit
met_at points uses kinds ray i = counted_of (kind_at uses kinds i) (meet_of ray (triangle_at points i))

-- whether the own padded box of the triangle at place i is passed over
unfoldable pub own_passed : List Float → Ray → ℕ → Bool
own_passed points ray i = passed_over ray.origin ray.direction (padded_of (triangle_at points i))

-- the same with a box tree or without: with one "over the triangles whose own padded box is not passed over"
unfoldable pub met_by : Bool → List Float → List ℕ → List ℕ → Ray → ℕ → Option Hit
met_by boxed points uses kinds ray i = cond (boxed && own_passed points ray i) None (met_at points uses kinds ray i)

-- and of a scene
abbrev pub meet_at : Scene → Ray → ℕ → Option Hit
meet_at scene ray i = met_by scene.boxed scene.points scene.uses scene.kinds ray i
