-- Trees that are accepted and trees that are not, computed from the definition that the code's contract cites. The triangles are document 01's triangle Q,
-- (0,0,0),(1,0,0),(0,1,0), at z = 0 and raised to z = 1 and z = 2; the boxes reach from −1 to 2 on x and y.
use Rattle.std.specs.Prelude.{◌≡◌, refl, Bool, true, false, List, [], ◌∷◌, ◌++◌, ℕ, zero, suc, ◌+◌, replicate, Float}
use Rattle.std.specs.Float.Ieee as Ieee
use Rattle.std.specs.Float.{nan}
use Rattle.names.specs.Bits.{lit, zero32, half32, one32, two32, inf32}
use Rattle.lists.specs.Any.{any}
use Rattle.floats.specs.Choice.{larger_of, smaller_of}
use Rattle.vectors.specs.Vectors.{add_v, sub_v, dot_v, cross_v, larger_v, smaller_v}
use Rattle.triangle.specs.Meet.{absent_of}
use Rattle.triangle.specs.Places.{triangle_at}
use Rattle.boxes.specs.Boxes.{bounds_at, padded_of, at_most, inside_of}
use Rattle.tree.specs.Tree.{count_at, left_at, right_at, place_at, present_at}
use Rattle.tree.specs.Test.{mark_pair, depths_to, see_run, seen_to, bad_half, bad_pair, bad_place, bad_run, bad_box, missed, wrong_lists, first_depths, none_seen, accepted_by}

-- ---- scenes and boxes

abbrev minus_one : Float
minus_one = lit 0xbf800000

-- triangle Q at a height
unfoldable pub raised_to : Float → List Float
raised_to z = zero32 ∷ zero32 ∷ z ∷ one32 ∷ zero32 ∷ z ∷ zero32 ∷ one32 ∷ z ∷ []

abbrev two : List Float
two = raised_to zero32 ++ raised_to one32

abbrev three : List Float
three = two ++ raised_to two32

-- an absent triangle
abbrev flat : List Float
flat = replicate 9 zero32

-- a box between two heights
unfoldable pub box_from : Float → Float → List Float
box_from low high = minus_one ∷ minus_one ∷ low ∷ two32 ∷ two32 ∷ high ∷ []

-- around both sheets, around the lower one alone, around the upper one alone
abbrev both : List Float
both = box_from minus_one two32

abbrev halves : List Float
halves = box_from minus_one half32 ++ box_from half32 two32

-- ---- accepted

-- one leaf, in either order, whose third number is not asked; an infinite box; an inner box with two leaves, either one first; what the order holds outside the runs is
-- not asked, while it is no longer than the triangles are many, absent ones too; no box over no triangle, and over one that is absent
pub accepted_trees :
    accepted_by two both (2 ∷ 0 ∷ 7 ∷ []) (0 ∷ 1 ∷ [])
    ∷ accepted_by two both (2 ∷ 0 ∷ 7 ∷ []) (1 ∷ 0 ∷ [])
    ∷ accepted_by two (box_from minus_one inf32) (2 ∷ 0 ∷ 0 ∷ []) (0 ∷ 1 ∷ [])
    ∷ accepted_by two (both ++ halves) (0 ∷ 1 ∷ 2 ∷ 1 ∷ 0 ∷ 0 ∷ 1 ∷ 1 ∷ 0 ∷ []) (0 ∷ 1 ∷ [])
    ∷ accepted_by (two ++ flat ++ flat) (both ++ halves) (0 ∷ 2 ∷ 1 ∷ 1 ∷ 1 ∷ 0 ∷ 1 ∷ 2 ∷ 0 ∷ []) (9 ∷ 0 ∷ 1 ∷ 0 ∷ [])
    ∷ accepted_by [] [] [] []
    ∷ accepted_by flat [] [] (0 ∷ [])
    ∷ []
    ≡ true ∷ true ∷ true ∷ true ∷ true ∷ true ∷ true ∷ []
unfolding raised_to box_from any larger_of smaller_of add_v sub_v dot_v cross_v larger_v smaller_v absent_of triangle_at bounds_at padded_of at_most inside_of count_at left_at right_at place_at present_at mark_pair depths_to see_run seen_to bad_half bad_pair bad_place bad_run bad_box missed wrong_lists first_depths none_seen accepted_by Ieee.of_bits Ieee.of_fields Ieee.odd Ieee.neg Ieee.le Ieee.lt Ieee.eq Ieee.is_nan Ieee.add Ieee.sub Ieee.mul Ieee.round Ieee.sum Ieee.units Ieee.size Ieee.span Ieee.climb
accepted_trees = refl

-- ---- not accepted

-- each is refused for one thing: a triangle is missing; one stands twice, in one leaf and in two; an absent one stands in a leaf, and a place past the list; a run goes
-- past the order; a bound is NaN, of a leaf and of an inner box; a leaf's box holds a triangle and not its padding; a half does not lie inside; a box has two parents, and is
-- both halves of one; it stands before its parent; a half is past the list; a box has no parent; the first is its own half; nodes or boxes are left over; the order is
-- longer than the triangles are many; no box stands over a triangle, and one over none
pub refused_trees :
    accepted_by two both (1 ∷ 0 ∷ 0 ∷ []) (0 ∷ 1 ∷ [])
    ∷ accepted_by (two ++ flat) both (3 ∷ 0 ∷ 0 ∷ []) (0 ∷ 1 ∷ 0 ∷ [])
    ∷ accepted_by two (both ++ both ++ both) (0 ∷ 1 ∷ 2 ∷ 2 ∷ 0 ∷ 0 ∷ 1 ∷ 1 ∷ 0 ∷ []) (0 ∷ 1 ∷ [])
    ∷ accepted_by flat both (1 ∷ 0 ∷ 0 ∷ []) (0 ∷ [])
    ∷ accepted_by (two ++ flat) both (3 ∷ 0 ∷ 0 ∷ []) (0 ∷ 1 ∷ 3 ∷ [])
    ∷ accepted_by two both (2 ∷ 1 ∷ 0 ∷ []) (0 ∷ 1 ∷ [])
    ∷ accepted_by two (box_from nan two32) (2 ∷ 0 ∷ 0 ∷ []) (0 ∷ 1 ∷ [])
    ∷ accepted_by two (box_from nan two32 ++ halves) (0 ∷ 1 ∷ 2 ∷ 1 ∷ 0 ∷ 0 ∷ 1 ∷ 1 ∷ 0 ∷ []) (0 ∷ 1 ∷ [])
    ∷ accepted_by two (box_from minus_one one32) (2 ∷ 0 ∷ 0 ∷ []) (0 ∷ 1 ∷ [])
    ∷ accepted_by two (box_from minus_one one32 ++ halves) (0 ∷ 1 ∷ 2 ∷ 1 ∷ 0 ∷ 0 ∷ 1 ∷ 1 ∷ 0 ∷ []) (0 ∷ 1 ∷ [])
    ∷ accepted_by two (both ++ both ++ both ++ both) (0 ∷ 1 ∷ 2 ∷ 0 ∷ 2 ∷ 3 ∷ 1 ∷ 0 ∷ 0 ∷ 1 ∷ 1 ∷ 0 ∷ []) (0 ∷ 1 ∷ [])
    ∷ accepted_by two (both ++ both) (0 ∷ 1 ∷ 1 ∷ 2 ∷ 0 ∷ 0 ∷ []) (0 ∷ 1 ∷ [])
    ∷ accepted_by three (both ++ both ++ both ++ both ++ both) (0 ∷ 2 ∷ 3 ∷ 1 ∷ 0 ∷ 0 ∷ 0 ∷ 1 ∷ 4 ∷ 1 ∷ 1 ∷ 0 ∷ 1 ∷ 2 ∷ 0 ∷ []) (0 ∷ 1 ∷ 2 ∷ [])
    ∷ accepted_by two (both ++ halves) (0 ∷ 1 ∷ 4294967295 ∷ 1 ∷ 0 ∷ 0 ∷ 1 ∷ 1 ∷ 0 ∷ []) (0 ∷ 1 ∷ [])
    ∷ accepted_by two (both ++ both) (1 ∷ 0 ∷ 0 ∷ 1 ∷ 1 ∷ 0 ∷ []) (0 ∷ 1 ∷ [])
    ∷ accepted_by two (both ++ both) (0 ∷ 0 ∷ 1 ∷ 2 ∷ 0 ∷ 0 ∷ []) (0 ∷ 1 ∷ [])
    ∷ accepted_by two both (2 ∷ 0 ∷ 0 ∷ 0 ∷ []) (0 ∷ 1 ∷ [])
    ∷ accepted_by two (both ++ both) (2 ∷ 0 ∷ 0 ∷ []) (0 ∷ 1 ∷ [])
    ∷ accepted_by two both (2 ∷ 0 ∷ 0 ∷ []) (0 ∷ 1 ∷ 0 ∷ [])
    ∷ accepted_by two [] [] []
    ∷ accepted_by [] both (0 ∷ 0 ∷ 0 ∷ []) []
    ∷ []
    ≡ replicate 21 false
unfolding raised_to box_from any larger_of smaller_of add_v sub_v dot_v cross_v larger_v smaller_v absent_of triangle_at bounds_at padded_of at_most inside_of count_at left_at right_at place_at present_at mark_pair depths_to see_run seen_to bad_half bad_pair bad_place bad_run bad_box missed wrong_lists first_depths none_seen accepted_by Ieee.of_bits Ieee.of_fields Ieee.odd Ieee.neg Ieee.le Ieee.lt Ieee.eq Ieee.is_nan Ieee.add Ieee.sub Ieee.mul Ieee.round Ieee.sum Ieee.units Ieee.size Ieee.span Ieee.climb
refused_trees = refl

-- ---- depth

abbrev copies : ℕ → List Float → List Float
copies zero l = []
copies (suc k) l = l ++ copies k l

-- a chain of k inner boxes from box i on: of each one half is a leaf and the other the next; the leaves' triangles stand from place p of the order on
abbrev chain : ℕ → ℕ → ℕ → List ℕ
chain zero i p = 1 ∷ p ∷ 0 ∷ []
chain (suc k) i p = 0 ∷ (i + 1) ∷ (i + 2) ∷ 1 ∷ p ∷ 0 ∷ chain k (i + 2) (p + 1)

abbrev up_from : ℕ → ℕ → List ℕ
up_from zero p = []
up_from (suc k) p = p ∷ up_from k (p + 1)

abbrev chain_accepted : ℕ → Bool
chain_accepted k = accepted_by (copies (k + 1) (raised_to zero32)) (copies (k + k + 1) (box_from minus_one two32)) (chain k 0 0) (up_from (k + 1) 0)

-- "depth is at most 24": 24 boxes above the last are accepted, and 25 are not
pub depth_limit_lem : chain_accepted 24 ∷ chain_accepted 25 ∷ [] ≡ true ∷ false ∷ []
unfolding raised_to box_from any larger_of smaller_of add_v sub_v dot_v cross_v larger_v smaller_v absent_of triangle_at bounds_at padded_of at_most inside_of count_at left_at right_at place_at present_at mark_pair depths_to see_run seen_to bad_half bad_pair bad_place bad_run bad_box missed wrong_lists first_depths none_seen accepted_by Ieee.of_bits Ieee.of_fields Ieee.odd Ieee.neg Ieee.le Ieee.lt Ieee.eq Ieee.is_nan Ieee.add Ieee.sub Ieee.mul Ieee.round Ieee.sum Ieee.units Ieee.size Ieee.span Ieee.climb
depth_limit_lem = refl
