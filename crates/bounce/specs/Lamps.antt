-- What a surface point receives of a lamp, "left to right, colour·(n·l/d²)·visibility. Here l is the unit vector to the lamp, d² its squared
-- distance, d the root, all from the point already moved off the surface by the hit bias". Each operation is rounded once. Definitions only.
use Rattle.std.specs.Prelude.{Bool, not, ◌||◌, Float}
use Rattle.std.specs.Float.Ieee as Ieee
use Rattle.std.specs.Float.{binary32}
use Rattle.names.specs.Bits.{zero32}
use Rattle.names.specs.Numbers.{thin_limit}
use Rattle.vectors.specs.Vectors.{sub_v, scale_v, dot_v, length_v, normal_v}
use Rattle.vectors.specs.declared.Vec3.{Vec3}
use Rattle.vectors.specs.declared.Ray.{Ray}
use Rattle.bounce.specs.declared.Way.{Way}

-- from a point to a lamp's position: l, d² and d
unfoldable pub way_to : Vec3 → Vec3 → Way
way_to point position =
    let v = sub_v position point in
    record { unit = normal_v v; squared = dot_v v v; distance = length_v v }

-- "A lamp with n·l not above zero, or with squared distance at most 1e-12, fires no ray and adds nothing."
unfoldable pub unlit_by : Vec3 → Way → Bool
unlit_by n way = not (Ieee.lt zero32 (dot_v n way.unit)) || Ieee.le way.squared thin_limit

-- "visibility is traced from there, between the bake's shortest distance and d less that"
unfoldable pub lamp_ray_from : Vec3 → Way → Float → Ray
lamp_ray_from point way shortest =
    record { origin = point; direction = way.unit; shortest = shortest; longest = Ieee.sub binary32 way.distance shortest }

-- (colour·(n·l/d²))·visibility
unfoldable pub lamplight_of : Vec3 → Vec3 → Way → Float → Vec3
lamplight_of colour n way visibility =
    scale_v (scale_v colour (Ieee.div binary32 (dot_v n way.unit) way.squared)) visibility
