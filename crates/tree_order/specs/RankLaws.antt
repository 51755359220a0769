-- Keys put in order with ranks are the run put in order: ranks ascend, so that of two equal keys the one that stood first comes first. And the keys of an
-- accepted scene are numbers. Assumes nothing.
use Rattle.std.specs.Prelude.{◌≡◌, Bool, cond, ◌||◌, ◌&&◌, ℕ, suc, ◌+◌, ◌*◌, ◌/◌, ◌≤◌, ◌<◌, ltb, length, get_or, Float}
use Rattle.std.proofs.Math.Path.{refl, ap₂}
use Rattle.std.proofs.Common.{◌∙◌, arith, ltb-true, ltb-false, le-ltb, lit<}
use Rattle.std.proofs.Math.Bool.{true, false}
use mathlib.Core.List.{List, [], ◌∷◌, map}
use Rattle.std.specs.Float.Ieee.{lt, eq, is_nan}
use Rattle.names.specs.Numbers.{triangle_limit}
use Rattle.floats.specs.FiniteLaws.{finite_number}
use Rattle.bounds.specs.Bounds.{EachAtMost}
use Rattle.bounds.specs.BoundsLaws.{at_most_finite}
use Rattle.bounds.specs.VectorLaws.{add_each}
use Rattle.rays_bounds.specs.TestBounds.{near_place}
use Rattle.hits.specs.Hits.{Struck, struck, before, insert_of, places_of}
use Rattle.hits.specs.Merge.{insert_all, sort_of, Numbers}
use Rattle.tree_order.specs.declared.Axis.{Axis}
use Rattle.tree_order.specs.declared.Axis.TheVariants.{X, Y, Z}
use Rattle.tree_order.specs.Order.{key_at, on_axis, key_on, put_in, put_all, sorted}
use Rattle.tree_order.specs.Ranks.{run_rank, place_of, ranked, PlacesOf, AcceptedPoints}
use Rattle.tree_order.specs.SortLaws.{times_of_here, NumberKeys}

-- ---- places of triangles

module _ (points : List Float) where
  -- a place out of a list of places of triangles
  pub order_place_within : (run : List ℕ) (k : ℕ) → PlacesOf points run → k < length run → get_or run k 0 < length points / 9
  order_place_within run k w h = by (ltb (get_or run k 0) (length points / 9)) refl
    where
      by : (b : Bool) → ltb (get_or run k 0) (length points / 9) ≡ b → get_or run k 0 < length points / 9
      by true e = ltb-true _ _ e
      by false e = absurd (omega (arith, w _ (ltb-false _ _ e), times_of_here run k h))

  head_within : (p : ℕ) (ps : List ℕ) → PlacesOf points (p ∷ ps) → p < length points / 9
  head_within p ps w = order_place_within (p ∷ ps) 0 w (omega arith)

  tail_places : (p : ℕ) (ps : List ℕ) → PlacesOf points (p ∷ ps) → PlacesOf points ps
  tail_places p ps w q h = let e = w q h in omega arith

-- ---- the run in order

module _ (key : ℕ → Float) where
  -- hits that hold the keys and the places of some triangles, with ranks below n
  data Stand (n : ℕ) : List Struck → List ℕ → Type 0 where
    none : Stand n [] []
    more : {g : Struck} {gs : List Struck} {q : ℕ} {qs : List ℕ} → g.distance ≡ key q → place_of g.place ≡ q → g.place < n → Stand n gs qs → Stand n (g ∷ gs) (q ∷ qs)

  stand_up : {n m : ℕ} {hs : List Struck} {ps : List ℕ} → n ≤ m → Stand n hs ps → Stand m hs ps
  stand_up g none = none
  stand_up g (more a b c s) = more a b (omega (arith, g, c)) (stand_up g s)

  -- of a higher rank a hit comes before another only where its key is smaller
  before_lt : (h g : Struck) → g.place ≤ h.place → before h g ≡ lt h.distance g.distance
  unfolding before
  before_lt h g e = rw (le-ltb h.place g.place e) (by (lt h.distance g.distance) (eq h.distance g.distance))
    where
      by : (a b : Bool) → a || (b && false) ≡ a
      by true b = refl
      by false true = refl
      by false false = refl

  stand_put : {n : ℕ} {gs : List Struck} {qs : List ℕ} (m : ℕ) (h : Struck) (p : ℕ) → h.distance ≡ key p → place_of h.place ≡ p → n ≤ h.place → h.place < m
      → Stand n gs qs → Stand m (insert_of h gs) (put_in key p qs)
  unfolding insert_of put_in
  stand_put m h p d e l u none = more d e u none
  stand_put m h p d e l u (more {g} {gs} {q} {qs} a b c s) =
      rw (before_lt h g (omega (arith, l, c)) ∙ ap₂ lt d a) (by (lt (key p) (key q)) (stand_put m h p d e l u s))
    where
      by : (t : Bool) → Stand m (insert_of h gs) (put_in key p qs) → Stand m (cond t (h ∷ g ∷ gs) (g ∷ insert_of h gs)) (cond t (p ∷ q ∷ qs) (q ∷ put_in key p qs))
      by true r = more d e u (more a b (omega (arith, l, u, c)) (stand_up (omega (arith, l, u)) s))
      by false r = more a b (omega (arith, l, u, c)) r

  stand_all : (points : List Float) (k : ℕ) {gs : List Struck} {qs : List ℕ} (ps : List ℕ) → length points / 9 ≤ triangle_limit → PlacesOf points ps → Stand (k * triangle_limit) gs qs
      → Stand ((k + length ps) * triangle_limit) (insert_all gs (ranked key k ps)) (put_all key qs ps)
  unfolding insert_all put_all ranked
  stand_all points k [] few w s = stand_up (omega arith) s
  stand_all points k (p ∷ ps) few w s =
      let l = head_within points p ps w in
      stand_up (omega arith) (stand_all points (suc k) ps few (tail_places points p ps w) (stand_put (suc k * triangle_limit) (struck (key p) (run_rank k p)) p refl (omega arith) (omega arith) (omega arith) s))

  stand_places : {n : ℕ} {hs : List Struck} {ps : List ℕ} → Stand n hs ps → map place_of (places_of hs) ≡ ps
  stand_places none = refl
  stand_places (more a b c s) = ap₂ (λ (q : ℕ) (qs : List ℕ). q ∷ qs) b (stand_places s)

  -- the places of the keys in order are the run in order
  pub ranked_sorted : (points : List Float) (run : List ℕ) → length points / 9 ≤ triangle_limit → PlacesOf points run → map place_of (places_of (sort_of (ranked key 0 run))) ≡ sorted key run
  ranked_sorted points run few w = stand_places (stand_all points 0 run few w none)

-- ---- keys are numbers

module _ (points : List Float) (a : AcceptedPoints points) where
  key_each : (p : ℕ) → p < length points / 9 → EachAtMost 3 12 (key_at points p)
  unfolding key_at
  key_each p h =
      let n = near_place points p a.good (omega arith) in
      add_each _ _ 2 1 12 (lit< tt) (lit< tt) (add_each _ _ 1 1 12 (lit< tt) (lit< tt) n.p0 n.p1) n.p2

  key_number : (axis : Axis) (p : ℕ) → p < length points / 9 → is_nan (key_on points axis p) ≡ false
  unfolding on_axis
  key_number X p h = finite_number _ (at_most_finite _ 3 12 (key_each p h).x)
  key_number Y p h = finite_number _ (at_most_finite _ 3 12 (key_each p h).y)
  key_number Z p h = finite_number _ (at_most_finite _ 3 12 (key_each p h).z)

  pub ranked_numbers : (axis : Axis) (k : ℕ) (run : List ℕ) → PlacesOf points run → Numbers (ranked (key_on points axis) k run)
  unfolding ranked
  ranked_numbers axis k [] w = tt
  ranked_numbers axis k (p ∷ ps) w = (key_number axis p (head_within points p ps w), ranked_numbers axis (suc k) ps (tail_places points p ps w))

  -- so what is said of a run in order holds of every run of an accepted scene
  pub number_keys : (axis : Axis) (run : List ℕ) → PlacesOf points run → NumberKeys (key_on points axis) run
  number_keys axis [] w = tt
  number_keys axis (p ∷ ps) w = (key_number axis p (head_within points p ps w), number_keys axis ps (tail_places points p ps w))
