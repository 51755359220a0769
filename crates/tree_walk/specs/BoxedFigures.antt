-- Boxed scans computed, over the two sheets of tree's figures, at z = 0 and z = 1: a ray down through both, and a ray up from z = 3/2 whose distances reach back below zero. There
-- the full scan hits both sheets behind the origin; their own padded boxes are passed over, so the boxed scan hits nothing: such triangles are the request's differences.
use Rattle.std.specs.Prelude.{Option, None, Some, ◌≡◌, refl, [], ◌∷◌, ◌++◌, ℕ, suc, Float}
use Rattle.std.specs.Float.Ieee as Ieee
use Rattle.names.specs.Bits.{lit, zero32, quarter32, half32, one32, two32}
use Rattle.names.specs.Scene.{Scene, scene_of}
use Rattle.floats.specs.Choice.{magnitude_of, larger_of, smaller_of}
use Rattle.vectors.specs.Vectors.{vec, add_v, sub_v, dot_v, cross_v, larger_v, smaller_v}
use Rattle.vectors.specs.declared.Ray.{Ray}
use Rattle.triangle.specs.Meet.{absent_of, solved_of, front_of, judged_of, meet_of}
use Rattle.triangle.specs.Places.{triangle_at}
use Rattle.panels.specs.Panels.{counts, counted_of, met_at, own_passed, met_by}
use Rattle.hits.specs.Hits.{before, insert_of, with_meet, hits_of, places_of}
use Rattle.scan.specs.Nearest.{beats, nearer_of, nearest_to, nearest_of}
use Rattle.scan.specs.declared.PlacedHit.{PlacedHit}
use Rattle.boxes.specs.Boxes.{padded_of, beyond, passed_over}
use Rattle.tree.specs.TreeFigures.{raised_to}
use Rattle.tree_walk.specs.Boxed.{nearest_boxed, hits_boxed}

-- both of one translucent material
abbrev sheets : Scene
sheets = scene_of (raised_to zero32 ++ raised_to one32) (0 ∷ 0 ∷ []) (1 ∷ []) (zero32 ∷ zero32 ∷ zero32 ∷ zero32 ∷ zero32 ∷ zero32 ∷ half32 ∷ [])

-- from (1/4, 1/4, 3/2) along z
abbrev along_z : Float → Float → Ray
along_z z shortest = record { origin = vec quarter32 quarter32 (lit 0x3fc00000); direction = vec zero32 zero32 z; shortest = shortest; longest = two32 }

-- down, and up with distances from −2
abbrev down : Ray
down = along_z (lit 0xbf800000) zero32

abbrev up : Ray
up = along_z one32 (lit 0xc0000000)

-- 0 for nothing, else one more than the place
abbrev told : Option PlacedHit → ℕ
told None = 0
told (Some best) = suc best.place

-- down: the upper sheet is the nearer, and both are hit, the upper first
pub down_boxed : told (nearest_of sheets down) ∷ told (nearest_boxed sheets down) ∷ places_of (hits_boxed sheets down 2) ≡ 2 ∷ 2 ∷ 1 ∷ 0 ∷ []
unfolding raised_to magnitude_of larger_of smaller_of add_v sub_v dot_v cross_v larger_v smaller_v absent_of solved_of front_of judged_of meet_of triangle_at counts counted_of met_at before insert_of with_meet beats nearer_of nearest_to nearest_of padded_of beyond passed_over own_passed met_by hits_of Ieee.of_bits Ieee.of_fields Ieee.odd Ieee.neg Ieee.le Ieee.lt Ieee.eq Ieee.is_nan Ieee.add Ieee.sub Ieee.mul Ieee.div Ieee.round Ieee.sum Ieee.units Ieee.size Ieee.span Ieee.climb
down_boxed = refl

-- up: the full scan answers the lower sheet, at −3/2; the boxed scan nothing
pub up_boxed : told (nearest_of sheets up) ∷ told (nearest_boxed sheets up) ∷ places_of (hits_boxed sheets up 2) ≡ 1 ∷ 0 ∷ []
unfolding raised_to magnitude_of larger_of smaller_of add_v sub_v dot_v cross_v larger_v smaller_v absent_of solved_of front_of judged_of meet_of triangle_at counts counted_of met_at before insert_of with_meet beats nearer_of nearest_to nearest_of padded_of beyond passed_over own_passed met_by hits_of Ieee.of_bits Ieee.of_fields Ieee.odd Ieee.neg Ieee.le Ieee.lt Ieee.eq Ieee.is_nan Ieee.add Ieee.sub Ieee.mul Ieee.div Ieee.round Ieee.sum Ieee.units Ieee.size Ieee.span Ieee.climb
up_boxed = refl
