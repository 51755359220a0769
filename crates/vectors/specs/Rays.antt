-- A point at a distance along a direction, and the rays that start from one. Assumes nothing.
use Rattle.std.specs.Prelude.{Float}
use Rattle.names.specs.Bits.{inf32}
use Rattle.vectors.specs.declared.Vec3.{Vec3}
use Rattle.vectors.specs.declared.Ray.{Ray}
use Rattle.vectors.specs.Vectors.{add_v, scale_v}

-- origin + direction·distance
unfoldable pub point_at : Vec3 → Vec3 → Float → Vec3
point_at origin direction distance = add_v origin (scale_v direction distance)

-- the ray along a direction that starts `ahead` of a point, from the shortest distance to infinity
unfoldable pub ray_from : Vec3 → Vec3 → Float → Float → Ray
ray_from point direction ahead shortest =
    record { origin = point_at point direction ahead; direction = direction; shortest = shortest; longest = inf32 }
