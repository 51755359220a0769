-- Sixteen voxels of a row side by side: where all columns lie in the row, lane t of voxel (x, y, z) is voxel (x + t, y, z), added in the same order.
use mathlib.Core.Path.{◌≡◌, refl, sym, ap, ap₂, ◌∙◌}
use mathlib.Core.List.{List}
use Prim.Native.Nat.{ℕ, zero, suc, ◌+◌, ◌-◌, ◌*◌, ◌/◌, ◌%◌, ◌<◌}
use native.Mathlib.Omega.{arith}
use native.Mathlib.Nat.{suc-mul, div-add-mod', div-eq_of_lt-le}
use lib.IntN.{pos}
use lib.ListN.{get_or}
use lib.Ieee.{Float, nan, binary32, add, div, mul, of_int}
use Rattle.names.specs.Bits.{zero32}
use Rattle.lists.specs.Fold.{fold}
use Rattle.means.specs.declared.Span.{Span}
use Rattle.means.specs.Box.{first_near, near, mean_in, mean_at, square_at}
use Rattle.means.specs.Sums.{span_of, plus_cell, row_sum, plane_sum, box_sum}
use Rattle.means.specs.BoxLaws.{mean_by_rows}

pub fold_same : (f g : ℕ → Float → Float) → ((i : ℕ) (s : Float) → f i s ≡ g i s) → (k i : ℕ) (s : Float) → fold f k i s ≡ fold g k i s
unfolding fold
fold_same f g e zero i s = refl
fold_same f g e (suc k) i s = ap (fold f k (i + 1)) (e i s) ∙ fold_same f g e k (i + 1) (g i s)

-- the same steps t places on
fold_moved : (f g : ℕ → Float → Float) (t : ℕ) → ((i : ℕ) (s : Float) → f i s ≡ g (i + t) s) → (k i : ℕ) (s : Float) → fold f k i s ≡ fold g k (i + t) s
unfolding fold
fold_moved f g t e zero i s = refl
fold_moved f g t e (suc k) i s =
    let z : i + 1 + t ≡ i + t + 1 = omega arith in
    fold_moved f g t e k (i + 1) (f i s) ∙ ap₂ (fold g k) z (e i s)

module _ (src : List Float) (w x t : ℕ) (left : 0 < x) (right : x + t + 1 < w) where
  sides : near x w ≡ near (x + t) w
  sides = omega arith

  row_lane : (row : ℕ) (s : Float) → row_sum src 1 t row (span_of x w) s ≡ row_sum src 1 0 row (span_of (x + t) w) s
  unfolding row_sum
  row_lane row s =
      let z : x - 1 + t ≡ x + t - 1 = omega arith in
      fold_moved (plus_cell src 1 t row) (plus_cell src 1 0 row) t
      (λ i a. (let p : (row + i) * 1 + t ≡ (row + (i + t)) * 1 + 0 = omega arith in ap (λ (n : ℕ). add binary32 a (get_or src n nan)) p))
      (near x w) (first_near x) s
      ∙ ap₂ (λ (k i : ℕ). fold (plus_cell src 1 0 row) k i s) sides z

  plane_lane : (plane : ℕ) (rows : Span) (s : Float) → plane_sum src 1 t w (span_of x w) plane rows s ≡ plane_sum src 1 0 w (span_of (x + t) w) plane rows s
  unfolding plane_sum
  plane_lane plane rows s = fold_same _ _ (λ y a. row_lane ((plane + y) * w) a) _ _ s

  box_lane : (h : ℕ) (rows planes : Span) (s : Float) → box_sum src 1 t w h (span_of x w) rows planes s ≡ box_sum src 1 0 w h (span_of (x + t) w) rows planes s
  unfolding box_sum
  box_lane h rows planes s = fold_same _ _ (λ z a. plane_lane (z * h) rows a) _ _ s

  mean_lane : (h d y z : ℕ) → mean_in src 1 t w h d x y z ≡ mean_in src 1 0 w h d (x + t) y z
  mean_lane h d y z =
      mean_by_rows src 1 t w h d x y z
      ∙ ap₂ (div binary32) (box_lane h (span_of y h) (span_of z d) zero32) (ap (λ (n : ℕ). of_int binary32 (pos (near z d * (near y h * n)))) sides)
      ∙ sym (mean_by_rows src 1 0 w h d (x + t) y z)

-- t places on in the list
module _ (src : List Float) (w h d i t : ℕ) (left : 0 < i % w) (right : i % w + t + 1 < w) where
  same_row : (i + t) / w ≡ i / w
  same_row = div-eq_of_lt-le w (omega (arith, div-add-mod' i w)) (omega (arith, div-add-mod' i w, suc-mul (i / w) w))

  column : (i + t) % w ≡ i % w + t
  column = omega (arith, div-add-mod' i w, rw same_row at (div-add-mod' (i + t) w))

  mean_on : mean_in src 1 t w h d (i % w) (i / w % h) (i / w / h) ≡ mean_at src 1 w h d (i + t)
  unfolding mean_at
  mean_on =
      let one : (i + t) / 1 ≡ i + t = omega arith in
      let none : (i + t) % 1 ≡ 0 = omega arith in
      rw (one, none, same_row, column) (mean_lane src w (i % w) t left right h d (i / w % h) (i / w / h))

  pub square_on : (let m = mean_in src 1 t w h d (i % w) (i / w % h) (i / w / h) in mul binary32 m m) ≡ square_at src w h d (i + t)
  unfolding square_at
  square_on = ap (λ (a : Float). mul binary32 a a) mean_on
