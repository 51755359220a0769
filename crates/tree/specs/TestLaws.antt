-- What the laws of proofs/TestLaws.antt are said with. Definitions only.
use Rattle.std.specs.Prelude.{◌≡◌, List, ℕ, ◌*◌, ◌/◌, ◌≤◌, ◌<◌, length, get_or, Float}
use Rattle.std.proofs.Math.Bool.{true}
use Rattle.names.specs.Numbers.{depth_limit}
use Rattle.triangle.specs.Places.{triangle_at}
use Rattle.boxes.specs.declared.Bounds.{Bounds}
use Rattle.boxes.specs.Boxes.{bounds_at, padded_of, inside_of}
use Rattle.tree.specs.Tree.{box_count, left_at, right_at, present_at}

-- ---- the lists

pub record GoodLists (points boxes : List Float) (nodes order : List ℕ) : Type 0 where
  pub nodes_fit : length nodes ≡ box_count nodes * 3
  pub boxes_fit : length boxes ≡ box_count nodes * 6
  pub order_fits : length order ≤ length points / 9

-- ---- a half

pub record GoodHalf (boxes : List Float) (n : ℕ) (depths : List ℕ) (i h : ℕ) : Type 0 where
  pub follows : i < h
  pub within : h < n
  pub orphan : get_or depths h 0 ≡ 0
  pub inside : inside_of (bounds_at boxes h) (bounds_at boxes i) ≡ true

-- ---- two halves

pub record GoodPair (boxes : List Float) (nodes : List ℕ) (i : ℕ) (depths : List ℕ) : Type 0 where
  pub left : GoodHalf boxes (box_count nodes) depths i (left_at nodes i)
  pub right : GoodHalf boxes (box_count nodes) depths i (right_at nodes i)
  pub apart : left_at nodes i ≡ right_at nodes i → ⊥
  pub shallow : get_or depths i 0 ≤ depth_limit

-- ---- a triangle of a leaf

pub record GoodPlace (points : List Float) (b : Bounds) (seen : List ℕ) (p : ℕ) : Type 0 where
  pub present : present_at points p ≡ true
  pub unseen : get_or seen p 0 ≡ 0
  pub inside : inside_of (padded_of (triangle_at points p)) b ≡ true
