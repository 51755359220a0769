-- The builder's order, computed. The triangles are document 01's triangle Q, (0,0,0),(1,0,0),(0,1,0), moved along x or raised along z.
use Rattle.std.specs.Prelude.{◌≡◌, refl, List, [], ◌∷◌, ◌++◌, Float}
use Rattle.std.specs.Float.Ieee as Ieee
use Rattle.names.specs.Bits.{lit, zero32, half32, one32, two32}
use Rattle.floats.specs.Choice.{larger_of, smaller_of}
use Rattle.vectors.specs.Vectors.{add_v, sub_v, dot_v, cross_v, larger_v, smaller_v}
use Rattle.triangle.specs.Meet.{absent_of}
use Rattle.triangle.specs.Places.{triangle_at}
use Rattle.tree.specs.Tree.{present_at}
use Rattle.tree.specs.TreeFigures.{raised_to}
use Rattle.tree_order.specs.Order.{key_at, on_axis, lowest_keys, highest_keys, spread_of_keys, widest_of, put_in, put_all, along_widest, halved_within, present_below, order_of}

abbrev three32 : Float
three32 = lit 0x40400000

abbrev four32 : Float
four32 = lit 0x40800000

-- Q from x to the next whole number, at a height, and at height 0
unfoldable pub stand_at : Float → Float → Float → List Float
stand_at x next z = x ∷ zero32 ∷ z ∷ next ∷ zero32 ∷ z ∷ x ∷ one32 ∷ z ∷ []

abbrev moved_to : Float → Float → List Float
moved_to x next = stand_at x next zero32

-- of sides 0, and so absent
abbrev absent : List Float
absent = zero32 ∷ zero32 ∷ zero32 ∷ zero32 ∷ zero32 ∷ zero32 ∷ zero32 ∷ zero32 ∷ zero32 ∷ []

-- no triangle; absent ones; one; four, which stay as they stand; five along z and along x, the first at the far end; five at one place, which stay; five at two
-- heights, of which equal ones keep their order; five raised by 0 to 2 and moved as far, where x goes before z; five beside an absent one
pub order_figures :
    order_of []
    ∷ order_of (absent ++ absent)
    ∷ order_of (raised_to zero32)
    ∷ order_of (raised_to three32 ++ raised_to two32 ++ raised_to one32 ++ raised_to zero32)
    ∷ order_of (raised_to two32 ++ raised_to one32 ++ raised_to half32 ++ raised_to zero32 ++ raised_to three32)
    ∷ order_of (moved_to three32 four32 ++ moved_to two32 three32 ++ moved_to one32 two32 ++ moved_to zero32 one32 ++ moved_to two32 three32)
    ∷ order_of (raised_to one32 ++ raised_to one32 ++ raised_to one32 ++ raised_to one32 ++ raised_to one32)
    ∷ order_of (raised_to one32 ++ raised_to zero32 ++ raised_to one32 ++ raised_to zero32 ++ raised_to one32)
    ∷ order_of (raised_to two32 ++ raised_to zero32 ++ moved_to two32 three32 ++ moved_to one32 two32 ++ moved_to zero32 one32)
    ∷ order_of (raised_to two32 ++ raised_to one32 ++ absent ++ raised_to half32 ++ raised_to zero32 ++ raised_to three32)
    ∷ []
    ≡ []
    ∷ []
    ∷ (0 ∷ [])
    ∷ (0 ∷ 1 ∷ 2 ∷ 3 ∷ [])
    ∷ (3 ∷ 2 ∷ 1 ∷ 0 ∷ 4 ∷ [])
    ∷ (3 ∷ 2 ∷ 1 ∷ 4 ∷ 0 ∷ [])
    ∷ (0 ∷ 1 ∷ 2 ∷ 3 ∷ 4 ∷ [])
    ∷ (1 ∷ 3 ∷ 0 ∷ 2 ∷ 4 ∷ [])
    ∷ (0 ∷ 1 ∷ 4 ∷ 3 ∷ 2 ∷ [])
    ∷ (4 ∷ 3 ∷ 1 ∷ 0 ∷ 5 ∷ [])
    ∷ []
unfolding raised_to stand_at order_of present_below halved_within along_widest put_all put_in widest_of spread_of_keys lowest_keys highest_keys on_axis key_at present_at absent_of triangle_at larger_of smaller_of add_v sub_v dot_v cross_v larger_v smaller_v Ieee.of_bits Ieee.of_fields Ieee.odd Ieee.neg Ieee.le Ieee.lt Ieee.eq Ieee.is_nan Ieee.add Ieee.sub Ieee.mul Ieee.round Ieee.sum Ieee.units Ieee.size Ieee.span Ieee.climb
order_figures = refl

-- ten along x, the first at the far end, and the sixth raised by 6: they turn about, and the half 9 8 7 6 5, put in order along z, stays, though four of its keys
-- are equal and stand against the order of the list
pub twice_figure :
    order_of
    (moved_to (lit 0x41100000) (lit 0x41200000)
    ++ moved_to (lit 0x41000000) (lit 0x41100000)
    ++ moved_to (lit 0x40e00000) (lit 0x41000000)
    ++ moved_to (lit 0x40c00000) (lit 0x40e00000)
    ++ moved_to (lit 0x40a00000) (lit 0x40c00000)
    ++ stand_at four32 (lit 0x40a00000) (lit 0x40c00000)
    ++ moved_to three32 four32
    ++ moved_to two32 three32
    ++ moved_to one32 two32
    ++ moved_to zero32 one32)
    ≡ 9 ∷ 8 ∷ 7 ∷ 6 ∷ 5 ∷ 4 ∷ 3 ∷ 2 ∷ 1 ∷ 0 ∷ []
unfolding stand_at order_of present_below halved_within along_widest put_all put_in widest_of spread_of_keys lowest_keys highest_keys on_axis key_at present_at absent_of triangle_at larger_of smaller_of add_v sub_v dot_v cross_v larger_v smaller_v Ieee.of_bits Ieee.of_fields Ieee.odd Ieee.neg Ieee.le Ieee.lt Ieee.eq Ieee.is_nan Ieee.add Ieee.sub Ieee.mul Ieee.round Ieee.sum Ieee.units Ieee.size Ieee.span Ieee.climb
twice_figure = refl
