-- A triangle out of a lent list: nine numbers a triangle, p0 xyz, p1 xyz, p2 xyz. Places count the whole list, absent triangles too.
use Rattle.std.specs.Prelude.{List, ℕ, ◌+◌, ◌*◌, Float}
use Rattle.vectors.specs.Places.{vec_at}
use Rattle.vectors.specs.declared.Triangle.{Triangle}

-- the triangle at place i
unfoldable pub triangle_at : List Float → ℕ → Triangle
triangle_at points i = record { p0 = vec_at points (i * 9); p1 = vec_at points (i * 9 + 3); p2 = vec_at points (i * 9 + 6) }
