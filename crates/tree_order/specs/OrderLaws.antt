-- The builder's order holds each present triangle once and nothing else, and is as long as there are present triangles. Assumes nothing.
use Rattle.std.specs.Prelude.{◌≡◌, refl, Bool, true, false, List, ℕ, ◌/◌, ◌≤◌, length, Float}
use Rattle.std.proofs.Common.{◌∙◌, arith}
use Rattle.tree.specs.Tree.{present_at, one}
use Rattle.tree.proofs.TestLaws.{present_within}
use Rattle.tree_order.specs.Order.{present_places, present_in, order_of, times_of}
use Rattle.tree_order.specs.Ranks.{PlacesOf}
use Rattle.tree_order.specs.HalveLaws.{left_of, right_of, halves_times, halved_times, halved_length}
use Rattle.tree_order.specs.PresentLaws.{present_length, present_few, present_once}

module _ (points : List Float) where
  pub order_once : (p : ℕ) → times_of p (order_of points) ≡ one (present_at points p)
  unfolding order_of
  order_once p = halved_times points p (present_places points) ∙ present_once points p

  pub order_length : length (order_of points) ≡ present_in points
  unfolding order_of
  order_length = halved_length points (present_places points) ∙ present_length points (length points / 9)

  pub order_few : length (order_of points) ≤ length points / 9
  order_few = omega (arith, order_length, present_few points (length points / 9))

  absent_past : (p : ℕ) → length points / 9 ≤ p → one (present_at points p) ≡ 0
  absent_past p h = by (present_at points p) refl
    where
      by : (b : Bool) → present_at points p ≡ b → one b ≡ 0
      by true e = absurd (omega (arith, present_within points p e))
      by false e = refl

  pub present_places_lem : PlacesOf points (present_places points)
  present_places_lem p h = present_once points p ∙ absent_past p h

  pub order_places : PlacesOf points (order_of points)
  order_places p h = order_once p ∙ absent_past p h

  -- the halves of a list of places are such lists
  pub left_places : (run : List ℕ) → PlacesOf points run → PlacesOf points (left_of points run)
  left_places run w p h = omega (arith, w p h, halves_times points p run)

  pub right_places : (run : List ℕ) → PlacesOf points run → PlacesOf points (right_of points run)
  right_places run w p h = omega (arith, w p h, halves_times points p run)
