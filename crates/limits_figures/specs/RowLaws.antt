-- What the rows of a triangle, a light and an ambient by value mean, in the terms of their vectors.
use Rattle.std.specs.Prelude.{◌≡◌, false, ◌↔◌}
use Rattle.names.specs.Numbers.{point_limit}
use Rattle.vectors.specs.declared.Triangle.{Triangle}
use Rattle.limits.specs.declared.Light.{Light}
use Rattle.limits.specs.declared.Ambient.{Ambient}
use Rattle.limits.specs.Limits.{outside_v, bad_triangle, bad_direction, bad_colour, bad_light, bad_ambient}
use Rattle.limits.specs.LimitsLaws.{either, any_of_three}

-- 5: no component of a point is beyond ±4,096
pub triangle_row : (t : Triangle)
    → (bad_triangle t ≡ false) ↔ ((outside_v point_limit t.p0 ≡ false) × (outside_v point_limit t.p1 ≡ false) × (outside_v point_limit t.p2 ≡ false))
unfolding bad_triangle
triangle_row t = any_of_three _ _ _

-- 7: a direction and a colour
pub light_row : (l : Light) → (bad_light l ≡ false) ↔ ((bad_direction l.direction ≡ false) × (bad_colour l.colour ≡ false))
unfolding bad_light
light_row l = either _ _

-- 7: four colours
pub ambient_row : (a : Ambient)
    → (bad_ambient a ≡ false) ↔ ((bad_colour a.c0 ≡ false) × (bad_colour a.c1 ≡ false) × (bad_colour a.c2 ≡ false) × (bad_colour a.c3 ≡ false))
unfolding bad_ambient
ambient_row a = (
  λ e.
      let p = (either _ (bad_colour a.c3)).0 e in
      let q = (any_of_three _ _ _).0 p.0 in
      (q.0, q.1, q.2, p.1),
  λ h. (either _ (bad_colour a.c3)).1 ((any_of_three _ _ _).1 (h.0, h.1, h.2), h.3),
)
