-- What the box round a voxel holds: how many voxels, and which.
use Rattle.std.specs.Prelude.{◌≡◌, refl, Bool, true, false, ◌||◌, List, [], ◌∷◌, ℕ, zero, suc, ◌+◌, ◌*◌, ◌≤◌, ◌<◌, eqb, pos, Float}
use Rattle.std.proofs.Math.Path.{sym}
use Rattle.std.proofs.Common.{◌∙◌, arith, suc-mul, zero-mul, add-zero, zero-add, eqb-true, eq-eqb}
use Rattle.std.proofs.Math.Bool.{or-false}
use Rattle.std.specs.Float.{binary32}
use Rattle.std.specs.Float.Ieee.{add, div, of_int}
use Rattle.names.specs.Bits.{zero32}
use Rattle.lists.specs.Fold.{fold, tab}
use Rattle.lists.specs.Any.{any, any_in, any_out}
use Rattle.means.specs.Box.{first_near, near, along, around, one_more, plus, mean_in, mean_at, mean_of}
use Rattle.means.specs.Sums.{span_of, row_sum, plane_sum, box_sum}

-- a fold that adds b at each number adds b as often as there are numbers
fold_adds : (f : ℕ → ℕ → ℕ) (b : ℕ) → ((i s : ℕ) → f i s ≡ s + b) → (k i s : ℕ) → fold f k i s ≡ s + k * b
unfolding fold
fold_adds f b e zero i s = rw zero-mul (sym (add-zero s))
fold_adds f b e (suc k) i s = fold_adds f b e k (i + 1) (f i s) ∙ omega (arith, e i s, suc-mul k b)

-- the count that divides the sum
pub box_count_lem : (w h d x y z : ℕ) → around w h d x y z one_more 0 ≡ near z d * (near y h * near x w)
unfolding around along
box_count_lem w h d x y z =
    fold_adds _ (near y h * near x w)
    (λ k s.
    fold_adds _ (near x w) (λ j s'. fold_adds _ 1 (λ i s''. refl) (near x w) (first_near x) s' ∙ omega arith) (near y h) (first_near y) s)
    (near z d)
    (first_near z)
    0
    ∙ zero-add _

-- the sum that is divided, as the loops go: by planes, rows and cells
pub box_sum_lem : (src : List Float) (stride c w h d x y z : ℕ) (s : Float)
    → box_sum src stride c w h (span_of x w) (span_of y h) (span_of z d) s ≡ around w h d x y z (plus src stride c) s
unfolding box_sum plane_sum row_sum around along
box_sum_lem src stride c w h d x y z s = refl

-- so the mean is the sum by planes, rows and cells over the product of the box's sides
pub mean_by_rows : (src : List Float) (stride c w h d x y z : ℕ)
    → mean_in src stride c w h d x y z
    ≡ div binary32 (box_sum src stride c w h (span_of x w) (span_of y h) (span_of z d) zero32)
    (of_int binary32 (pos (near z d * (near y h * near x w))))
unfolding mean_in
mean_by_rows src stride c w h d x y z = rw (box_count_lem w h d x y z, box_sum_lem src stride c w h d x y z zero32) refl

-- ---- which voxels

-- A voxel of the grid, by its place, within 1 of (x, y, z) on every axis
pub record Neighbour (w h d x y z v : ℕ) : Type 0 where
  pub i : ℕ
  pub in_x : (i < w) × (i ≤ x + 1) × (x ≤ i + 1)
  pub j : ℕ
  pub in_y : (j < h) × (j ≤ y + 1) × (y ≤ j + 1)
  pub k : ℕ
  pub in_z : (k < d) × (k ≤ z + 1) × (z ≤ k + 1)
  pub at : v ≡ (k * h + j) * w + i

-- whether the walk round (x, y, z) comes by voxel v
abbrev pub met : ℕ → ℕ → Bool → Bool
met v u b = b || eqb u v

or_right : (a b c : Bool) → (a || b) || c ≡ a || (b || c)
or_right true b c = refl
or_right false b c = refl

-- a fold that asks g at each number asks whether any has it
fold_any : (f : ℕ → Bool → Bool) (g : ℕ → Bool) → ((i : ℕ) (b : Bool) → f i b ≡ b || g i) → (k i : ℕ) (b : Bool) → fold f k i b ≡ b || any g k i
unfolding fold any
fold_any f g e zero i b = sym (or-false b)
fold_any f g e (suc k) i b = fold_any f g e k (i + 1) (f i b) ∙ rw (e i b) (or_right b (g i) (any g k (i + 1)))

-- the same walk as a search
searched : ℕ → ℕ → ℕ → ℕ → ℕ → ℕ → ℕ → Bool
searched w h d x y z v =
    any (λ k. any (λ j. any (λ i. eqb ((k * h + j) * w + i) v) (near x w) (first_near x)) (near y h) (first_near y)) (near z d) (first_near z)

meets : (w h d x y z v : ℕ) → around w h d x y z (met v) false ≡ searched w h d x y z v
unfolding around along searched
meets w h d x y z v =
    fold_any _ _
    (λ k b.
    fold_any _ _ (λ j b'. fold_any _ _ (λ i b''. refl) (near x w) (first_near x) b') (near y h) (first_near y) b)
    (near z d)
    (first_near z)
    false

-- the walk comes by every voxel of the grid within 1 on every axis, and by no other
module _ (w h d x y z v : ℕ) where
  pub box_reaches : Neighbour w h d x y z v → around w h d x y z (met v) false ≡ true
  unfolding searched
  box_reaches o =
      meets w h d x y z v
      ∙ any_in _ _ _ o.k (omega (arith, o.in_z)) (omega (arith, o.in_z))
      (any_in _ _ _ o.j (omega (arith, o.in_y)) (omega (arith, o.in_y))
      (any_in _ _ _ o.i (omega (arith, o.in_x)) (omega (arith, o.in_x)) (eq-eqb _ _ (sym o.at))))

  pub box_holds : x < w → y < h → z < d → around w h d x y z (met v) false ≡ true → Neighbour w h d x y z v
  unfolding searched
  box_holds lx ly lz e =
      let c = any_out _ _ _ (sym (meets w h d x y z v) ∙ e) in
      let b = any_out _ _ _ c.3 in
      let a = any_out _ _ _ b.3 in
      record {
        i = a.0;
        in_x = omega (arith, a.1, a.2);
        j = b.0;
        in_y = omega (arith, b.1, b.2);
        k = c.0;
        in_z = omega (arith, c.1, c.2);
        at = sym (eqb-true _ _ a.3);
      }

-- a grid of one voxel: its number over 1
pub mean_of_one : (a : Float) → mean_of (a ∷ []) 1 1 1 1 ≡ div binary32 (add binary32 zero32 a) (of_int binary32 (pos 1)) ∷ []
unfolding mean_of tab mean_at mean_in around along fold
mean_of_one a = refl
