-- The widest axis is one on which no other spreads wider; and a run of an accepted scene, put in order along it, ascends there with equal keys in the order
-- before, so that no triangle of its right half lies below one of its left half. Assumes nothing.
use Rattle.std.specs.Prelude.{◌≡◌, refl, Bool, true, false, cond, List, [], ◌∷◌, ℕ, zero, suc, take, drop, Float}
use Rattle.std.proofs.Common.{sym, ◌∙◌}
use Rattle.std.proofs.lemmas.Bool.{false≢true}
use Rattle.std.specs.Float.Ieee.{lt}
use Rattle.floats.specs.OrderLaws.{lt_asymmetric, lt_irreflexive, lt_transitive}
use Rattle.vectors.specs.declared.Vec3.{Vec3}
use Rattle.tree_order.specs.declared.Axis.{Axis}
use Rattle.tree_order.specs.declared.Axis.TheVariants.{X, Y, Z}
use Rattle.tree_order.specs.Order.{on_axis, key_on, spread_of_keys, widest_of, along_widest, half_of}
use Rattle.tree_order.specs.Ranks.{PlacesOf, AcceptedPoints}
use Rattle.tree_order.specs.SortLaws.{NoneBelow, Ascending, equal_to, sorted_ascends, sorted_keeps}
use Rattle.tree_order.specs.RankLaws.{number_keys}
use Rattle.tree_order.specs.HalveLaws.{left_of, right_of}

-- ---- the axis

-- where x is not below y, and below z, z is not below y
between : (x y z : Float) → lt x y ≡ false → lt x z ≡ true → lt z y ≡ false
between x y z h k = by (lt z y) refl
  where
    by : (b : Bool) → lt z y ≡ b → lt z y ≡ false
    by false e = e
    by true e = absurd (false≢true (sym h ∙ lt_transitive x z y k e))

pub widest_is_widest : (s : Vec3) (axis : Axis) → lt (on_axis (widest_of s) s) (on_axis axis s) ≡ false
unfolding widest_of on_axis
widest_is_widest s axis = by (lt s.x s.y) refl (lt s.y s.z) refl (lt s.x s.z) refl axis
  where
    by : (p : Bool) → lt s.x s.y ≡ p → (q : Bool) → lt s.y s.z ≡ q → (r : Bool) → lt s.x s.z ≡ r → (a : Axis)
        → lt (on_axis (cond p (cond q Z Y) (cond r Z X)) s) (on_axis a s) ≡ false
    by true e true f r g X = lt_asymmetric s.x s.z (lt_transitive s.x s.y s.z e f)
    by true e true f r g Y = lt_asymmetric s.y s.z f
    by true e true f r g Z = lt_irreflexive s.z
    by true e false f r g X = lt_asymmetric s.x s.y e
    by true e false f r g Y = lt_irreflexive s.y
    by true e false f r g Z = f
    by false e q f true g X = lt_asymmetric s.x s.z g
    by false e q f true g Y = between s.x s.y s.z e g
    by false e q f true g Z = lt_irreflexive s.z
    by false e q f false g X = lt_irreflexive s.x
    by false e q f false g Y = e
    by false e q f false g Z = g

-- ---- the run

module _ (points : List Float) (a : AcceptedPoints points) (run : List ℕ) (w : PlacesOf points run) where
  abbrev key : ℕ → Float
  key = key_on points (widest_of (spread_of_keys points run))

  pub widest_ascends : Ascending key (along_widest points run)
  unfolding along_widest
  widest_ascends = sorted_ascends key run (number_keys points a (widest_of (spread_of_keys points run)) run w)

  pub widest_keeps : (x : Float) → equal_to key x (along_widest points run) ≡ equal_to key x run
  unfolding along_widest
  widest_keeps x = sorted_keeps key x run (number_keys points a (widest_of (spread_of_keys points run)) run w)

  -- ---- its halves

  -- no key of m is below one of l
  abbrev pub NoneBelowAny : List ℕ → List ℕ → Type 0
  NoneBelowAny [] m = Unit {0}
  NoneBelowAny (p ∷ l) m = NoneBelow key (key p) m × NoneBelowAny l m

  rest : (x : Float) (n : ℕ) (l : List ℕ) → NoneBelow key x l → NoneBelow key x (drop n l)
  rest x zero l n = n
  rest x (suc k) [] n = n
  rest x (suc k) (p ∷ l) n = rest x k l n.1

  cut : (n : ℕ) (l : List ℕ) → Ascending key l → NoneBelowAny (take n l) (drop n l)
  cut zero l h = tt
  cut (suc n) [] h = tt
  cut (suc n) (p ∷ l) h = (rest (key p) n l h.0, cut n l h.1)

  pub halves_apart : NoneBelowAny (left_of points run) (right_of points run)
  halves_apart = cut (half_of run) (along_widest points run) widest_ascends
