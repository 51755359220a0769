-- One step of writing a tree's rows, as the code reads its numbers. Assumes nothing.
use mathlib.Core.Path.{◌≡◌, refl, sym, ◌∙◌}
use mathlib.Core.Bool.{true, false}
use mathlib.Core.List.{List}
use Prim.Native.Nat.{ℕ, zero, suc, ◌+◌, ◌*◌, ◌-◌, ◌<◌}
use native.Mathlib.Omega.{arith}
use borrow.Author.Tests.{eq-eqb, ne_eqb}
use lib.ListN.{get_or}
use lib.Ieee.{Float}
use Rattle.boxes.specs.Boxes.{bounds_at}
use Rattle.tree.specs.Tree.{box_count, count_at, inner_at, left_at, right_at}
use Rattle.tree_rows.specs.Layout.{whole_limit, with_row, boxes_under, with_rows, Lays}

-- ---- no levels left

pub none_under : (nodes : List ℕ) (levels i k : ℕ) → levels ≡ 0 → k ≡ k + boxes_under nodes levels i
unfolding boxes_under
none_under nodes levels i k e = rw e (omega arith)

pub none_written : (boxes : List Float) (nodes : List ℕ) (levels i k : ℕ) (rows : List Float) → levels ≡ 0 → rows ≡ with_rows boxes nodes levels i k rows
unfolding with_rows
none_written boxes nodes levels i k rows e = rw e

module _ (boxes : List Float) (nodes : List ℕ) (levels i count first : ℕ) (f : levels ≡ 0 → ⊥) (reads : count ≡ get_or nodes (i * 3) 0) (begins : first ≡ get_or nodes (i * 3 + 1) 0) where
  -- ---- an inner box

  module _ (right : ℕ) (z : count ≡ 0) (ends : right ≡ get_or nodes (i * 3 + 2) 0) where
    inner_read : inner_at nodes i ≡ true
    unfolding count_at
    inner_read = eq-eqb (get_or nodes (i * 3) 0) 0 (sym reads ∙ z)

    pub left_within : Lays boxes nodes → i < box_count nodes → first < box_count nodes
    unfolding left_at
    left_within l h = rw begins (l.left_fits i h inner_read)

    pub right_within : Lays boxes nodes → i < box_count nodes → right < box_count nodes
    unfolding right_at
    right_within l h = rw ends (l.right_fits i h inner_read)

    pub halves_under : boxes_under nodes levels i ≡ 1 + boxes_under nodes (levels - 1) first + boxes_under nodes (levels - 1) right
    unfolding boxes_under left_at right_at
    halves_under = by levels refl
      where
        by : (n : ℕ) → levels ≡ n → boxes_under nodes n i ≡ 1 + boxes_under nodes (n - 1) first + boxes_under nodes (n - 1) right
        by zero e = absurd (f e)
        by (suc n) e = let less : suc n - 1 ≡ n = omega arith in rw (inner_read, begins, ends, less) refl

    -- both halves written, then the row
    pub halves_written : (k middle end : ℕ) (rows left both whole : List Float) → middle ≡ k + 1 + boxes_under nodes (levels - 1) first → end ≡ middle + boxes_under nodes (levels - 1) right
        → left ≡ with_rows boxes nodes (levels - 1) first (k + 1) rows → both ≡ with_rows boxes nodes (levels - 1) right middle left → whole ≡ with_row both k (bounds_at boxes i) end 0 0
        → whole ≡ with_rows boxes nodes levels i k rows
    unfolding with_rows left_at right_at
    halves_written k middle end rows left both whole a b c d e = e ∙ by levels refl
      where
        by : (n : ℕ) → levels ≡ n → with_row both k (bounds_at boxes i) end 0 0 ≡ with_rows boxes nodes n i k rows
        by zero q = absurd (f q)
        by (suc n) q = let less : levels - 1 ≡ n = omega arith in rw (d, c, b, a, inner_read, begins, ends, less) refl

  -- ---- a leaf

  module _ (z : count ≡ 0 → ⊥) where
    leaf_read : inner_at nodes i ≡ false
    unfolding count_at
    leaf_read = ne_eqb (get_or nodes (i * 3) 0) 0 (λ (e : get_or nodes (i * 3) 0 ≡ 0). z (reads ∙ e))

    pub run_small_lem : Lays boxes nodes → i < box_count nodes → first + count < whole_limit
    unfolding left_at count_at
    run_small_lem l h = rw (begins, reads) (l.run_small i h leaf_read)

    pub leaf_under : boxes_under nodes levels i ≡ 1
    unfolding boxes_under
    leaf_under = by levels refl
      where
        by : (n : ℕ) → levels ≡ n → boxes_under nodes n i ≡ 1
        by zero e = absurd (f e)
        by (suc n) e = rw leaf_read refl

    pub leaf_written : (k : ℕ) (rows whole : List Float) → whole ≡ with_row rows k (bounds_at boxes i) (k + 1) first count → whole ≡ with_rows boxes nodes levels i k rows
    unfolding with_rows left_at count_at
    leaf_written k rows whole e = e ∙ by levels refl
      where
        by : (n : ℕ) → levels ≡ n → with_row rows k (bounds_at boxes i) (k + 1) first count ≡ with_rows boxes nodes n i k rows
        by zero q = absurd (f q)
        by (suc n) q = rw (leaf_read, begins, reads) refl
