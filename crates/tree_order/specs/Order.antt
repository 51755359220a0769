-- The order of the builder's tree. The places of the present triangles, ascending, are a run. A run of more than four is put in order along the axis on which
-- its triangles spread widest, equal ones in the order they stood in, and halved at the median; then each half by itself, "until four or fewer remain".
-- Assumes nothing.
use Rattle.std.specs.Prelude.{cond, List, [], ◌∷◌, ◌++◌, ℕ, zero, suc, ◌+◌, ◌/◌, eqb, leb, length, get_or, take, drop, Float}
use Rattle.std.specs.Float.Ieee as Ieee
use Rattle.names.specs.Numbers.{leaf_limit}
use Rattle.vectors.specs.Vectors.{add_v, sub_v, larger_v, smaller_v}
use Rattle.vectors.specs.declared.Vec3.{Vec3}
use Rattle.triangle.specs.Places.{triangle_at}
use Rattle.tree.specs.Tree.{present_at, sum_to, one}
use Rattle.tree_order.specs.declared.Axis.{Axis}
use Rattle.tree_order.specs.declared.Axis.TheVariants.{X, Y, Z}

-- ---- a triangle's key

-- the sum of its points, (p0+p1)+p2: three times its centre
unfoldable pub key_at : List Float → ℕ → Vec3
key_at points p = add_v (add_v (triangle_at points p).p0 (triangle_at points p).p1) (triangle_at points p).p2

unfoldable pub on_axis : Axis → Vec3 → Float
on_axis X v = v.x
on_axis Y v = v.y
on_axis Z v = v.z

abbrev pub key_on : List Float → Axis → ℕ → Float
key_on points axis p = on_axis axis (key_at points p)

-- ---- the widest axis

-- the smallest, and the largest, by component, of v and the keys of some triangles
unfoldable pub lowest_keys : List Float → Vec3 → List ℕ → Vec3
lowest_keys points v [] = v
lowest_keys points v (p ∷ ps) = lowest_keys points (smaller_v v (key_at points p)) ps

unfoldable pub highest_keys : List Float → Vec3 → List ℕ → Vec3
highest_keys points v [] = v
highest_keys points v (p ∷ ps) = highest_keys points (larger_v v (key_at points p)) ps

-- how far the keys of a run reach on each axis
unfoldable pub spread_of_keys : List Float → List ℕ → Vec3
spread_of_keys points run = sub_v (highest_keys points (key_at points (get_or run 0 0)) (drop 1 run)) (lowest_keys points (key_at points (get_or run 0 0)) (drop 1 run))

-- x, unless y or z spreads wider
unfoldable pub widest_of : Vec3 → Axis
widest_of spread = cond (Ieee.lt spread.x spread.y) (cond (Ieee.lt spread.y spread.z) Z Y) (cond (Ieee.lt spread.x spread.z) Z X)

-- ---- a run in order

-- p goes before the first whose key is greater
unfoldable pub put_in : (ℕ → Float) → ℕ → List ℕ → List ℕ
put_in key p [] = p ∷ []
put_in key p (q ∷ qs) = cond (Ieee.lt (key p) (key q)) (p ∷ q ∷ qs) (q ∷ put_in key p qs)

-- some triangles, one after the other, into those that are there
unfoldable pub put_all : (ℕ → Float) → List ℕ → List ℕ → List ℕ
put_all key qs [] = qs
put_all key qs (p ∷ ps) = put_all key (put_in key p qs) ps

-- so the keys ascend (`sorted_ascends`), and equal ones keep the order they stood in (`sorted_keeps`)
abbrev pub sorted : (ℕ → Float) → List ℕ → List ℕ
sorted key run = put_all key [] run

unfoldable pub along_widest : List Float → List ℕ → List ℕ
along_widest points run = sorted (key_on points (widest_of (spread_of_keys points run))) run

-- ---- by halves

-- how many go to the left half
abbrev pub half_of : List ℕ → ℕ
half_of run = length run / 2

-- k is more than the times that the run is halved, for which its length will do
unfoldable pub halved_within : ℕ → List Float → List ℕ → List ℕ
halved_within zero points run = run
halved_within (suc k) points run =
    cond (leb (length run) leaf_limit) run
    (halved_within k points (take (half_of run) (along_widest points run)) ++ halved_within k points (drop (half_of run) (along_widest points run)))

abbrev pub halved : List Float → List ℕ → List ℕ
halved points run = halved_within (length run) points run

-- ---- the order

-- the present places below p, ascending, and how many there are
unfoldable pub present_below : List Float → ℕ → List ℕ
present_below points zero = []
present_below points (suc p) = cond (present_at points p) (present_below points p ++ (p ∷ [])) (present_below points p)

unfoldable pub present_to : List Float → ℕ → ℕ
present_to points p = sum_to (λ j. one (present_at points j)) p

-- in all
abbrev pub present_places : List Float → List ℕ
present_places points = present_below points (length points / 9)

abbrev pub present_in : List Float → ℕ
present_in points = present_to points (length points / 9)

unfoldable pub order_of : List Float → List ℕ
order_of points = halved points (present_places points)

-- how often p stands in a list
abbrev pub times_of : ℕ → List ℕ → ℕ
times_of p [] = 0
times_of p (q ∷ qs) = one (eqb q p) + times_of p qs
