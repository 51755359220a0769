-- A vector out of a lent list. Past the list's end stands NaN; who reads shows the place in range.
use Rattle.std.specs.Prelude.{List, ℕ, ◌+◌, get_or, Float}
use Rattle.std.specs.Float.{nan}
use Rattle.vectors.specs.Vectors.{vec}
use Rattle.vectors.specs.declared.Vec3.{Vec3}

-- three numbers from k on
abbrev pub vec_at : List Float → ℕ → Vec3
vec_at l k = vec (get_or l k nan) (get_or l (k + 1) nan) (get_or l (k + 2) nan)
