-- The light's blur of numbers within ±1 stays within ±1: the sum of as many numbers as are counted is at most the count, so the mean is at most 1.
use Rattle.std.specs.Prelude.{◌≡◌, List, ℕ, zero, suc, ◌+◌, ◌*◌, ◌^◌, ◌≤◌, ◌<◌, length, get_or, Float}
use Rattle.std.proofs.Common.{sym, ap, suc-mul, zero-mul, div-one, lt_of_le_of_lt, arith, lit<}
use Rattle.std.proofs.Math.Nat.{min-le_left, min-le_right, le-min, mul-pos, mul-le-mul, mul-one, one-mul, zero-add, mod-one}
use Rattle.std.specs.Float.{nan}
use Rattle.names.specs.Bits.{zero32}
use Rattle.lists.specs.Fold.{fold, place, get_or_tab}
use Rattle.grid.specs.Grid.{voxels, x_of, y_of, z_of}
use Rattle.grid.specs.GridLaws.{x_within, y_within, z_within}
use Rattle.grid.specs.declared.Axes.{Axes}
use Rattle.bounds.specs.Bounds.{AtMost}
use Rattle.bounds.specs.BoundsLaws.{add_at_most, mul_at_most, div_at_most, int_at_least, zero_at_most}
use Rattle.means.specs.Box.{first_near, near, along, around, plus, mean_in, mean_at, square_at, light_blur_of}
use Rattle.means.specs.BoxLaws.{box_count_lem}

-- a sum of at most 27 parts
small : (n : ℕ) → n ≤ 27 → n < 16777216
small n h = omega arith

small_power : (n : ℕ) → n ≤ 27 → n * 2 ^ 0 < 2 ^ 128
small_power n h = let g : n * 1 ≤ 27 = omega arith in lt_of_le_of_lt {n = n * 1} {m = 27} g (lit< tt)

-- a fold whose every step adds at most r
fold_at_most : (f : ℕ → Float → Float) (r k i n : ℕ) (s : Float)
    → ((j m : ℕ) (x : Float) → i ≤ j → j < i + k → m + r ≤ 27 → AtMost m 0 x → AtMost (m + r) 0 (f j x)) → n + k * r ≤ 27 → AtMost n 0 s
    → AtMost (n + k * r) 0 (fold f k i s)
unfolding fold
fold_at_most f r zero i n s g b h = let e : n + 0 * r ≡ n = omega (arith, zero-mul r) in rw e h
fold_at_most f r (suc k) i n s g b h =
    let m = suc-mul k r in
    let e : n + suc k * r ≡ n + r + k * r = omega arith in
    rw e (fold_at_most f r k (i + 1) (n + r) (f i s) (λ j l x p q c d. g j l x (omega arith) (omega arith) c d) (omega arith) (g i n s (omega arith) (omega arith) (omega arith) h))

near_most : (x n : ℕ) → near x n ≤ 3
near_most x n = omega (arith, min-le_left (x + 2) n)

near_within : (x n j : ℕ) → first_near x ≤ j → j < first_near x + near x n → j < n
near_within x n j p q = omega (arith, min-le_right (x + 2) n)

near_some : (x n : ℕ) → x < n → 0 < near x n
near_some x n h = omega (arith, le-min {k = x + 1} {a = x + 2} {b = n} (omega arith) (omega arith))

-- the sum round (x, y, z) of numbers within ±1
module _ (src : List Float) (w h d : ℕ) (full : length src ≡ d * h * w) (unit : (i : ℕ) → i < length src → AtMost 1 0 (get_or src i nan)) where
  inside : (k j i : ℕ) → k < d → j < h → i < w → ((k * h + j) * w + i) * 1 + 0 < length src
  inside k j i p q r = omega (arith, full, place {a = k * h + j} {m = d * h} {b = i} {n = w} (place {a = k} {m = d} {b = j} {n = h} p q) r)

  sum_at_most : (x y z : ℕ) → AtMost (near z d * (near y h * near x w)) 0 (around w h d x y z (plus src 1 0) zero32)
  unfolding around along
  sum_at_most x y z =
      let a = near_most x w in
      let b = near_most y h in
      let c = near_most z d in
      let ab = mul-le-mul b a in
      let abc = mul-le-mul c ab in
      let e : 0 + near z d * (near y h * near x w) ≡ near z d * (near y h * near x w) = zero-add _ in
      rw (sym e)
      (fold_at_most _ (near y h * near x w) (near z d) (first_near z) 0 zero32
      (λ k m s p q l o.
      fold_at_most _ (near x w) (near y h) (first_near y) m s
      (λ j m' s' p' q' l' o'.
      let f : near x w * 1 ≡ near x w = mul-one _ in
      rw (ap (λ (n : ℕ). m' + n) (sym f))
      (fold_at_most _ 1 (near x w) (first_near x) m' s'
      (λ i m'' s'' p'' q'' l'' o''.
      add_at_most s'' _ m'' 1 0 (small (m'' + 1) l'') (small_power (m'' + 1) l'') o''
      (unit (((k * h + j) * w + i) * 1 + 0) (inside k j i (near_within z d k p q) (near_within y h j p' q') (near_within x w i p'' q''))))
      (omega arith) o'))
      (omega arith) o)
      (omega arith) (zero_at_most 0 0))

  mean_at_most : (x y z : ℕ) → x < w → y < h → z < d → AtMost 1 0 (mean_in src 1 0 w h d x y z)
  unfolding mean_in
  mean_at_most x y z p q r =
      let n = near z d * (near y h * near x w) in
      let least = mul-pos (near_some z d r) (mul-pos (near_some y h q) (near_some x w p)) in
      let most = mul-le-mul (near_most z d) (mul-le-mul (near_most y h) (near_most x w)) in
      let one : 1 * n ≡ n = one-mul n in
      rw (box_count_lem w h d x y z)
      (div_at_most _ _ 1 n 0 0 least (lit< tt) (lit< tt) (rw one (sum_at_most x y z)) (int_at_least n (omega arith)))

-- the light's blur over a grid
pub blurred_at_most : (a : Axes) (src : List Float) → 0 < a.width → 0 < a.height → length src ≡ voxels a
    → ((i : ℕ) → i < length src → AtMost 1 0 (get_or src i nan)) → (i : ℕ) → i < length src
    → AtMost 1 0 (get_or (light_blur_of src a.width a.height a.depth) i nan)
unfolding light_blur_of square_at mean_at
blurred_at_most a src W H full unit i h =
    let m = mean_at_most src a.width a.height a.depth full unit (x_of a i) (y_of a i) (z_of a i) (x_within a i W) (y_within a i H) (z_within a i W H (omega arith)) in
    rw (get_or_tab (square_at src a.width a.height a.depth) (length src) 0 i nan h, zero-add i, mod-one i, div-one i)
    (mul_at_most _ _ 1 0 1 0 (lit< tt) (lit< tt) m m)
