-- The boxes of the builder's tree. A run is a part of the order, halved as `Order` in the crate tree_order halves it; its box stands before those of its halves,
-- the left half's at once after it. Nothing here asks how the order was come by. Assumes nothing.
use Rattle.std.specs.Prelude.{◌≡◌, cond, List, ℕ, zero, suc, ◌+◌, ◌-◌, ◌*◌, ◌/◌, ◌≤◌, ◌<◌, eqb, leb, length, get_or, Float}
use Rattle.std.specs.Float.{nan}
use Rattle.names.specs.Numbers.{triangle_limit, leaf_limit}
use Rattle.vectors.specs.Vectors.{larger_v, smaller_v}
use Rattle.vectors.specs.Places.{vec_at}
use Rattle.vectors.specs.declared.Vec3.{Vec3}
use Rattle.triangle.specs.Places.{triangle_at}
use Rattle.boxes.specs.declared.Bounds.{Bounds}
use Rattle.boxes.specs.Boxes.{bounds_at, padded_of}
use Rattle.tree.specs.Tree.{box_count, count_at, left_at, right_at, present_at, sum_to, one}

-- ---- a run's box

-- the least box around two
unfoldable pub join_of : Bounds → Bounds → Bounds
join_of a b = record { low = smaller_v a.low b.low; high = larger_v a.high b.high }

-- the padded box of the triangle that stands at place k of the order
abbrev pub own_box : List Float → List ℕ → ℕ → Bounds
own_box points order k = padded_of (triangle_at points (get_or order k 0))

-- the box around the triangle at place `first` of the order and the m that follow
unfoldable pub run_bounds : List Float → List ℕ → ℕ → ℕ → Bounds
run_bounds points order first zero = own_box points order first
run_bounds points order first (suc m) = join_of (run_bounds points order first m) (own_box points order (first + suc m))

-- ---- the tree of a run

module _ (points boxes : List Float) (nodes order : List ℕ) where
  -- what a box holds: its bounds, and its three numbers
  pub record BoxHolds (i first count a b c : ℕ) : Type 0 where
    pub bounds : bounds_at boxes i ≡ run_bounds points order first (count - 1)
    pub number : count_at nodes i ≡ a
    pub left : left_at nodes i ≡ b
    pub right : right_at nodes i ≡ c

  -- from box `at` on, up to `next`, stand the boxes of the run of `count` triangles that begins at `first`
  pub data Built : ℕ → ℕ → ℕ → ℕ → Type 0 where
    leaf : {at first count : ℕ} → 1 ≤ count → count ≤ leaf_limit → BoxHolds at first count count first 0 → Built at first count (at + 1)
    pair : {at first count next : ℕ} (middle : ℕ) → leaf_limit < count → BoxHolds at first count 0 (at + 1) middle → Built (at + 1) first (count / 2) middle
        → Built middle (first + count / 2) (count - count / 2) next → Built at first count next

-- how many boxes a run of m triangles has, by its length alone; k is more than the times that it is halved, for which m will do
unfoldable pub boxes_within : ℕ → ℕ → ℕ
boxes_within zero m = 0
boxes_within (suc k) m = cond (leb m leaf_limit) 1 (1 + boxes_within k (m / 2) + boxes_within k (m - m / 2))

abbrev pub boxes_for : ℕ → ℕ
boxes_for m = boxes_within m m

-- ---- the order

-- how often p stands in a run
unfoldable pub times_in : List ℕ → ℕ → ℕ → ℕ → ℕ
times_in order first count p = sum_to (λ k. one (eqb (get_or order (first + k) 0) p)) count

-- every present triangle stands once among the first n of the order, and nothing else does
abbrev pub EachOnce : List Float → List ℕ → ℕ → Type 0
EachOnce points order n = (p : ℕ) → times_in order 0 n p ≡ one (present_at points p)

-- a run of places of triangles
abbrev pub PlacesIn : List Float → List ℕ → ℕ → ℕ → Type 0
PlacesIn points order first count = (p : ℕ) → length points / 9 ≤ p → times_in order first count p ≡ 0

-- what the boxes of a run ask: a run of places of triangles, and room for a box for each of them
pub record RunFits (points boxes : List Float) (nodes order : List ℕ) (at first count : ℕ) : Type 0 where
  pub some : 1 ≤ count
  pub boxes_few : at + count ≤ triangle_limit
  pub places_few : first + count ≤ triangle_limit
  pub boxes_long : (at + count) * 6 ≤ length boxes
  pub nodes_long : (at + count) * 3 ≤ length nodes
  pub order_long : first + count ≤ length order
  pub places : PlacesIn points order first count

-- ---- what a step leaves

-- a list that changed between two places at most
pub record KeptBeside {A : Type 0} (d : A) (l m : List A) (from to : ℕ) : Type 0 where
  pub same : length m ≡ length l
  pub below : (k : ℕ) → k < from → get_or m k d ≡ get_or l k d
  pub above : (k : ℕ) → to ≤ k → get_or m k d ≡ get_or l k d

-- three numbers of a vector, a box's bounds and its three whole numbers, written
pub record PutVec (l m : List Float) (k : ℕ) (v : Vec3) : Type 0 where
  pub vector : vec_at m k ≡ v
  pub kept : KeptBeside nan l m k (k + 3)

pub record PutBounds (l m : List Float) (i : ℕ) (b : Bounds) : Type 0 where
  pub bounds : bounds_at m i ≡ b
  pub kept : KeptBeside nan l m (i * 6) (i * 6 + 6)

pub record PutNode (l m : List ℕ) (i a b c : ℕ) : Type 0 where
  pub number : count_at m i ≡ a
  pub left : left_at m i ≡ b
  pub right : right_at m i ≡ c
  pub kept : KeptBeside 0 l m (i * 3) (i * 3 + 3)

-- a run's tree, written
pub record Grown (points boxes boxes' : List Float) (nodes nodes' order : List ℕ) (at first count next : ℕ) : Type 0 where
  pub built : Built points boxes' nodes' order at first count next
  pub boxes_kept : KeptBeside nan boxes boxes' (at * 6) (next * 6)
  pub nodes_kept : KeptBeside 0 nodes nodes' (at * 3) (next * 3)

-- ---- the tree of an order

-- what the tree of the first m triangles of an order asks: places of triangles, and room for a box for each of them
pub record TreeRoom (points boxes : List Float) (nodes order : List ℕ) (m : ℕ) : Type 0 where
  pub few : m ≤ triangle_limit
  pub boxes_long : m * 6 ≤ length boxes
  pub nodes_long : m * 3 ≤ length nodes
  pub order_long : m ≤ length order
  pub places : PlacesIn points order 0 m

-- that tree at the front of two lists, written: no box where m is 0
pub record TreePut (points boxes boxes' : List Float) (nodes nodes' order : List ℕ) (m n : ℕ) : Type 0 where
  pub counted : n ≡ boxes_for m
  pub tree : 0 < m → Built points boxes' nodes' order 0 0 m n
  pub boxes_kept : KeptBeside nan boxes boxes' 0 (n * 6)
  pub nodes_kept : KeptBeside 0 nodes nodes' 0 (n * 3)

-- the three lists, of which nothing is left over: the present triangles in any order, and the boxes of that one run; no box where no triangle is present
pub record BuiltTree (points boxes : List Float) (nodes order : List ℕ) : Type 0 where
  pub nodes_fit : length nodes ≡ box_count nodes * 3
  pub boxes_fit : length boxes ≡ box_count nodes * 6
  pub few : length order ≤ length points / 9
  pub each_once : EachOnce points order (length order)
  pub none : length order ≡ 0 → box_count nodes ≡ 0
  pub tree : 0 < length order → Built points boxes nodes order 0 0 (length order) (box_count nodes)
