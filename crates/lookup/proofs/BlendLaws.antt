-- At a cell's lower corner, where the coordinate along each axis comes out whole, the answer is that cell's value: the same number, but
-- that a zero may lose its sign, as −0·1 + 0 is +0. The next cells are multiplied by 0, so they have to be finite, as row 13 asks.
use Rattle.std.specs.Prelude.{◌≡◌, ℕ, zero, suc, ◌+◌, ◌-◌, ◌*◌, ◌%◌, ◌^◌, ◌<◌, ◌≤◌, Bool, true, false, ◌&&◌, T, leb, List, get_or, ℤ, pos, negsuc, ◌≢◌, nat_eq, nat_le, nat_lt, slice_index_or, Float}
use Rattle.std.proofs.Math.Path.{refl}
use Rattle.std.proofs.Common.{sym, ap, ◌∙◌, subst, mul-one, one-mul, zero-mul, mul-zero, add-zero, mul_assoc, sub-add_cancel, sub-le, lt_of_lt_of_le, lt_of_le_of_lt, mul-pos, mul-le-mul_left, mul-lt-mul_of_pos_right, zero-lt-suc, pow-suc, not-le_of_lt, arith, pow-add, pow_pos, pow_mono, leb-true, leb-false, eq-eqb, lt-ltb, le-ltb, eqb→eq, ltb→lt, leb→le}
use Rattle.std.proofs.lemmas.Bool.{false≢true}
use Rattle.std.proofs.Math.Nat.{sub-zero, eq_of_mul-eq-mul_right}
use Rattle.std.proofs.Math.Pow.{pow-lt}
use Rattle.std.specs.Float.Ieee as Ieee
use Rattle.std.specs.Float.Ieee.Scale.{round_same}
use Rattle.std.specs.Float.{nan, inf, fin, binary32}
use Rattle.std.specs.Float.Ieee.{up, down, fits, round, eq, to_unsigned}
use Rattle.std.specs.Float.Ieee.Fits.{down_pos, up_pos, round-fits, and_l, and_r}
use Rattle.std.specs.Float.Ieee.Exact.{HasValue, round_exact}
use Rattle.names.specs.Bits.{zero32, one32}
use Rattle.names.specs.Numbers.{axis_limit}
use Rattle.lists.specs.Fold.{tab, get_or_tab}
use Rattle.floats.specs.Whole.{floor_of, toward}
use Rattle.vectors.specs.declared.Vec3.{Vec3}
use Rattle.grid.specs.declared.Axes.{Axes}
use Rattle.grid.specs.declared.Corners.{Corners}
use Rattle.grid.specs.Grid.{voxels, index_of, float_of, edges_of, AxesWithin}
use Rattle.lookup.specs.declared.Cells.{Cells}
use Rattle.lookup.specs.Place.{clamped, clamped_cell, between_of, coordinate_of, Inside, cells_from, cells_of, blend_of, blended_of}
use Rattle.lookup.specs.PlaceLaws.{clamped_same, cells_read_inside}
use Rattle.lookup.specs.Lookup.{light_blend, number_blend}
use Rattle.lookup.specs.BlendLaws.{Plain, Kept, same, zeros}

-- ---- a float that fits is written in one way

even_odd : (m t : ℕ) → m % 2 ≡ 1 → m ≢ t * 2
even_odd m t o h = omega arith

odds : (m n a b : ℕ) → m % 2 ≡ 1 → n % 2 ≡ 1 → m * 2 ^ a ≡ n * 2 ^ b → (m ≡ n) × (a ≡ b)
odds m n zero zero o p h = (sym (mul-one m) ∙ h ∙ mul-one n, refl)
odds m n zero (suc b) o p h = absurd (even_odd m (n * 2 ^ b) o (sym (mul-one m) ∙ h ∙ ap (λ (x : ℕ). n * x) (pow-suc 2 b) ∙ sym (mul_assoc n (2 ^ b) 2)))
odds m n (suc a) zero o p h = absurd (even_odd n (m * 2 ^ a) p (sym (mul-one n) ∙ sym h ∙ ap (λ (x : ℕ). m * x) (pow-suc 2 a) ∙ sym (mul_assoc m (2 ^ a) 2)))
odds m n (suc a) (suc b) o p h =
    let r = odds m n a b o p (eq_of_mul-eq-mul_right 2 (omega arith) (m * 2 ^ a) (n * 2 ^ b)
    (mul_assoc m (2 ^ a) 2 ∙ ap (λ (x : ℕ). m * x) (sym (pow-suc 2 a)) ∙ h ∙ ap (λ (x : ℕ). n * x) (pow-suc 2 b) ∙ sym (mul_assoc n (2 ^ b) 2))) in
    (r.0, ap suc r.1)

-- the two sides of a comparison of exponents, as powers
exponents : (m n : ℕ) (e d : ℤ) → m % 2 ≡ 1 → n % 2 ≡ 1 → m * up e * down d ≡ n * up d * down e → (m ≡ n) × (e ≡ d)
exponents m n (pos k) (pos l) o p h =
    let r = odds m n k l o p (sym (mul-one (m * 2 ^ k)) ∙ h ∙ mul-one (n * 2 ^ l)) in (r.0, ap pos r.1)
exponents m n (pos k) (negsuc l) o p h =
    let r = odds m n (k + suc l) 0 o p (ap (λ (x : ℕ). m * x) (pow-add 2 k (suc l)) ∙ sym (mul_assoc m (2 ^ k) (2 ^ suc l)) ∙ h ∙ mul-one (n * 1)) in
    absurd (omega (arith, r.1))
exponents m n (negsuc k) (pos l) o p h =
    let r = odds n m (l + suc k) 0 p o (ap (λ (x : ℕ). n * x) (pow-add 2 l (suc k)) ∙ sym (mul_assoc n (2 ^ l) (2 ^ suc k)) ∙ sym h ∙ mul-one (m * 1)) in
    absurd (omega (arith, r.1))
exponents m n (negsuc k) (negsuc l) o p h =
    let r = odds m n (suc l) (suc k) o p (ap (λ (x : ℕ). x * 2 ^ suc l) (sym (mul-one m)) ∙ h ∙ ap (λ (x : ℕ). x * 2 ^ suc k) (mul-one n)) in
    (r.0, ap negsuc (omega (arith, r.1)))

-- ---- rounding a float that fits changes nothing

-- what `fits` says of a number that is not zero
fits_says : (s : Bool) (m : ℕ) (e : ℤ) → T (fits binary32 (fin s (suc m) e))
    → (suc m % 2 ≡ 1) × (suc m < 2 ^ 24) × (down e ≤ 2 ^ 149) × (suc m * up e < 2 ^ 128 * down e)
unfolding fits
fits_says s m e t =
    let a = nat_eq (suc m % 2) 1 in
    let b = nat_lt (suc m) (2 ^ 24) in
    let c = leb (down e) (2 ^ 149) in
    let d = nat_lt (suc m * up e) (2 ^ 128 * down e) in
    let h = and_l (a && b && c) d t in
    let k = and_l (a && b) c h in
    (eqb→eq _ _ (and_l a b k), ltb→lt _ _ (and_r a b k), leb→le _ _ (and_r (a && b) c h), ltb→lt _ _ (and_r (a && b && c) d t))

flat : (e : ℤ) → up e * down e ≡ 1 → e ≡ pos 0
flat (pos zero) h = refl
flat (pos (suc k)) h = let p = pow-suc 2 k in let q : 2 ^ suc k ≡ 1 = sym (mul-one (2 ^ suc k)) ∙ h in absurd (omega (arith, pow_pos k))
flat (negsuc k) h = let p = pow-suc 2 k in let q : 2 ^ suc k ≡ 1 = sym (one-mul (2 ^ suc k)) ∙ h in absurd (omega (arith, pow_pos k))

zero_exponent : (s : Bool) (e : ℤ) → T (fits binary32 (fin s zero e)) → e ≡ pos 0
unfolding fits
zero_exponent s e t = flat e (eqb→eq (up e * down e) 1 t)

-- a power that is at most 2^149 has an exponent of at most 149
exponent_most : (k : ℕ) → 2 ^ k ≤ 2 ^ 149 → k ≤ 149
exponent_most k h = go (nat_le k 149) refl
  where
    go : (b : Bool) → nat_le k 149 ≡ b → k ≤ 149
    go true p = leb-true k 149 p
    go false p = absurd (not-le_of_lt (pow-lt (leb-false k 149 p)) h)

own_value : (s : Bool) (m : ℕ) (e : ℤ) → T (fits binary32 (fin s (suc m) e)) → HasValue (round binary32 s (suc m * up e) (down e)) s (suc m * up e) (down e)
own_value s m (pos k) t =
    let h = fits_says s m (pos k) t in
    let f : suc m * 2 ^ (k + 149) ≡ suc m * 2 ^ k * 2 ^ 149 = ap (λ (x : ℕ). suc m * x) (pow-add 2 k 149) ∙ sym (mul_assoc (suc m) (2 ^ k) (2 ^ 149)) in
    let g : suc m * 2 ^ k < 2 ^ 128 = h.3 in
    round_exact binary32 s (suc m * 2 ^ k) 1 (suc m) (k + 149) (zero-lt-suc 0) h.1 (rw f (mul-lt-mul_of_pos_right g (pow_pos 149))) (sym f ∙ sym (mul-one (suc m * 2 ^ (k + 149))))
own_value s m (negsuc k) t =
    let h = fits_says s m (negsuc k) t in
    let l = exponent_most (suc k) h.2 in
    let j = 149 - suc k in
    let w = sub-add_cancel l in
    let f : 2 ^ 149 ≡ 2 ^ j * 2 ^ suc k = ap (λ (x : ℕ). 2 ^ x) (sym w) ∙ pow-add 2 j (suc k) in
    let a : 2 ^ j ≤ 2 ^ 149 = pow_mono (sub-le 149 (suc k)) in
    let b : suc m * 2 ^ j ≤ suc m * 2 ^ 149 = mul-le-mul_left (suc m) a in
    let c : suc m * 2 ^ 149 < 2 ^ 24 * 2 ^ 149 = mul-lt-mul_of_pos_right h.1 (pow_pos 149) in
    round_exact binary32 s (suc m * 1) (2 ^ suc k) (suc m) j (pow_pos (suc k)) h.1 (lt_of_lt_of_le (lt_of_le_of_lt b c) (pow_mono {i = 173} {j = 277} (leb→le 173 277 tt)))
    (ap (λ (x : ℕ). x * 2 ^ 149) (mul-one (suc m)) ∙ ap (λ (x : ℕ). suc m * x) f ∙ sym (mul_assoc (suc m) (2 ^ j) (2 ^ suc k)))

one_way : (m : ℕ) (s : Bool) (e : ℤ) (x : Float) → T (fits binary32 (fin s (suc m) e)) → T (fits binary32 x) → HasValue x s (suc m * up e) (down e) → x ≡ fin s (suc m) e
one_way m s e nan p q v = absurd v
one_way m s e (inf t) p q v = absurd v
one_way m s e (fin t zero d) p q v =
    let z : zero * up d * down e ≡ 0 = ap (λ (x : ℕ). x * down e) (zero-mul (up d)) ∙ zero-mul (down e) in
    absurd (not-le_of_lt (mul-pos (mul-pos (zero-lt-suc m) (up_pos e)) (down_pos d)) (omega (arith, z, v.1)))
one_way m s e (fin t (suc n) d) p q v =
    let h = fits_says s m e p in
    let k = fits_says t n d q in
    let r = exponents (suc n) (suc m) d e k.0 h.0 v.1 in
    λ i. fin (v.0 i) (r.0 i) (r.1 i)

-- rounding a float that fits gives it back
own : (s : Bool) (m : ℕ) (e : ℤ) → T (fits binary32 (fin s (suc m) e)) → round binary32 s (suc m * up e) (down e) ≡ fin s (suc m) e
own s m e t = one_way m s e _ t (round-fits binary32 s (suc m * up e) (down e)) (own_value s m e t)

-- a fraction of the same size gives it too
own_as : (s : Bool) (m : ℕ) (e : ℤ) (a c : ℕ) → T (fits binary32 (fin s (suc m) e)) → 0 < c → a * down e ≡ suc m * up e * c → round binary32 s a c ≡ fin s (suc m) e
own_as s m e a c t p h = round_same binary32 s a c (suc m * up e) (down e) p (down_pos e) h ∙ own s m e t

-- ---- a·1 + b·0

ones : (a c : ℕ) → a * 1 * c ≡ a * (c * 1)
ones a c = rw (mul-one a, mul-one c)

noughts : (a c : ℕ) → a * 0 * 1 ≡ 0 * c
noughts a c = rw (mul-zero a, zero-mul c)

-- they are equal as numbers
pub kept_equal : {a r : Float} → Plain a → Kept a r → eq r a ≡ true
unfolding eq
kept_equal {a = nan} p same = absurd (false≢true p.number)
kept_equal {a = inf s} p same = absurd (false≢true p.number)
kept_equal {a = fin true m e} p same = rw (eq-eqb (m * up e * down e) (m * up e * down e) refl)
kept_equal {a = fin false m e} p same = rw (eq-eqb (m * up e * down e) (m * up e * down e) refl)
kept_equal p (zeros true true) = refl
kept_equal p (zeros true false) = refl
kept_equal p (zeros false true) = refl
kept_equal p (zeros false false) = refl

kept_plain : {a r : Float} → Plain a → Kept a r → Plain r
unfolding fits
kept_plain p same = p
kept_plain p (zeros s t) = record { fit = tt; number = refl }

kept_trans : {a r q : Float} → Kept a r → Kept r q → Kept a q
kept_trans same k = k
kept_trans (zeros s t) same = zeros s t
kept_trans (zeros s t) (zeros v u) = zeros s u

by_one : (a : Float) → Plain a → Ieee.mul binary32 a one32 ≡ a
unfolding Ieee.mul Ieee.of_bits
by_one nan p = absurd (false≢true p.number)
by_one (inf s) p = absurd (false≢true p.number)
by_one (fin true zero e) p = rw (zero_exponent true e p.fit)
by_one (fin false zero e) p = rw (zero_exponent false e p.fit)
by_one (fin true (suc m) e) p = own_as true m e _ _ p.fit (mul-pos (down_pos e) (zero-lt-suc 0)) (ones (suc m * up e) (down e))
by_one (fin false (suc m) e) p = own_as false m e _ _ p.fit (mul-pos (down_pos e) (zero-lt-suc 0)) (ones (suc m * up e) (down e))

by_zero : (b : Float) → Plain b → (t : Bool) × (Ieee.mul binary32 b zero32 ≡ fin t 0 (pos 0))
unfolding Ieee.mul Ieee.of_bits
by_zero nan p = absurd (false≢true p.number)
by_zero (inf s) p = absurd (false≢true p.number)
by_zero (fin true n d) p = (true, round_same binary32 true _ _ 0 1 (mul-pos (down_pos d) (zero-lt-suc 0)) (zero-lt-suc 0) (noughts (n * up d) (down d * 1)))
by_zero (fin false n d) p = (false, round_same binary32 false _ _ 0 1 (mul-pos (down_pos d) (zero-lt-suc 0)) (zero-lt-suc 0) (noughts (n * up d) (down d * 1)))

sums : (s t : Bool) → Kept (fin s 0 (pos 0)) (Ieee.add binary32 (fin s 0 (pos 0)) (fin t 0 (pos 0)))
unfolding Ieee.add
sums true true = same
sums true false = zeros true false
sums false true = same
sums false false = same

sum_nought : (s t : Bool) (a c d : ℕ) → 0 < a → Ieee.sum binary32 s a t (0 * d) c ≡ round binary32 s a c
unfolding Ieee.sum
sum_nought true true a c d p = rw (zero-mul d, add-zero a)
sum_nought true false a c d p = rw (zero-mul d, le-ltb a 0 (omega arith), lt-ltb 0 a p, sub-zero a)
sum_nought false true a c d p = rw (zero-mul d, le-ltb a 0 (omega arith), sub-zero a)
sum_nought false false a c d p = rw (zero-mul d, add-zero a)

plus_zero : (a : Float) (t : Bool) → Plain a → Kept a (Ieee.add binary32 a (fin t 0 (pos 0)))
unfolding Ieee.add
plus_zero nan t p = absurd (false≢true p.number)
plus_zero (inf s) t p = absurd (false≢true p.number)
plus_zero (fin s zero e) t p = rw (zero_exponent s e p.fit) (sums s t)
plus_zero (fin s (suc m) e) t p =
    let g = sum_nought s t (suc m * up e * 1) (down e * 1) (down e) (mul-pos (mul-pos (zero-lt-suc m) (up_pos e)) (zero-lt-suc 0)) in
    let h = own_as s m e (suc m * up e * 1) (down e * 1) p.fit (mul-pos (down_pos e) (zero-lt-suc 0)) (ones (suc m * up e) (down e)) in
    subst (Kept (fin s (suc m) e)) (sym (g ∙ h)) same

-- a·(1−0) + b·0 is a, but for the sign of a zero
pub blend_at_zero : (a b : Float) → Plain a → Plain b → Kept a (blend_of a b zero32)
unfolding blend_of Ieee.sub Ieee.add Ieee.neg Ieee.of_bits
blend_at_zero a b p q =
    let z = by_zero b q in
    let k = plus_zero a z.0 p in
    rw (by_one a p, z.1) k

-- ---- between eight cells, with three fractions of +0

pub blended_at_zero : (n : ℕ) (c : Cells) (f : ℕ → Float)
    → Inside n c
    → ((i : ℕ) → i < n → Plain (f i))
    → c.x ≡ zero32
    → c.y ≡ zero32
    → c.z ≡ zero32
    → Kept (f c.c000) (blended_of c f)
unfolding blended_of
blended_at_zero n c f h p ex ey ez =
    let a = blend_at_zero (f c.c000) (f c.c100) (p _ h.c000) (p _ h.c100) in
    let b = blend_at_zero (f c.c010) (f c.c110) (p _ h.c010) (p _ h.c110) in
    let d = blend_at_zero (f c.c001) (f c.c101) (p _ h.c001) (p _ h.c101) in
    let e = blend_at_zero (f c.c011) (f c.c111) (p _ h.c011) (p _ h.c111) in
    let pa = kept_plain (p _ h.c000) a in
    let pd = kept_plain (p _ h.c001) d in
    let low = blend_at_zero _ _ pa (kept_plain (p _ h.c010) b) in
    let high = blend_at_zero _ _ pd (kept_plain (p _ h.c011) e) in
    let all = blend_at_zero _ _ (kept_plain pa low) (kept_plain pd high) in
    rw (ex, ey, ez) (kept_trans a (kept_trans low all))

-- ---- a coordinate that comes out whole

each : {A : Type 0} (f g : ℕ → A) (n k : ℕ) (d : A) → tab f n 0 ≡ tab g n 0 → k < n → f k ≡ g k
each f g n k d e h =
    let z : 0 + k ≡ k = omega arith in
    let l = rw z at (get_or_tab f n 0 k d h) in
    let r = rw z at (get_or_tab g n 0 k d h) in
    sym l ∙ ap (λ (t : List _). get_or t k d) e ∙ r

-- of each whole number below the longest axis: its floor is itself, the whole number in it is the number, and it less itself is +0
floors : tab (λ (k : ℕ). floor_of (float_of k)) axis_limit 0 ≡ tab float_of axis_limit 0
unfolding tab toward Ieee.of_int
floors = refl

wholes : tab (λ (k : ℕ). to_unsigned 64 (float_of k)) axis_limit 0 ≡ tab (λ (k : ℕ). k) axis_limit 0
unfolding tab to_unsigned Ieee.of_int
wholes = refl

nothings : tab (λ (k : ℕ). Ieee.sub binary32 (float_of k) (float_of k)) axis_limit 0 ≡ tab (λ (k : ℕ). zero32) axis_limit 0
unfolding tab Ieee.sub Ieee.add Ieee.neg Ieee.of_int Ieee.of_bits
nothings = refl

pub whole_between : (n k : ℕ) → k < n → n ≤ axis_limit → between_of n (float_of k) ≡ record { cell = k; next = clamped n (k + 1); fraction = zero32 }
unfolding between_of clamped_cell
whole_between n k h l =
    let m : k < axis_limit = omega arith in
    rw (each (λ (j : ℕ). floor_of (float_of j)) float_of axis_limit k nan floors m, each (λ (j : ℕ). to_unsigned 64 (float_of j)) (λ (j : ℕ). j) axis_limit k 0 wholes m, each (λ (j : ℕ). Ieee.sub binary32 (float_of j) (float_of j)) (λ (j : ℕ). zero32) axis_limit k nan nothings m, clamped_same n k h)

-- ---- the lower corner of voxel (x, y, z), where the three coordinates come out whole

module _ (a : Axes) (c : Corners) (p : Vec3) (x y z : ℕ) (w : AxesWithin a) (hx : x < a.width) (hy : y < a.height) (hz : z < a.depth)
    (ex : coordinate_of c.min.x (edges_of c a).x p.x ≡ float_of x)
    (ey : coordinate_of c.min.y (edges_of c a).y p.y ≡ float_of y)
    (ez : coordinate_of c.min.z (edges_of c a).z p.z ≡ float_of z) where
  corner_cells : cells_of a c p
      ≡ cells_from a (record { cell = x; next = clamped a.width (x + 1); fraction = zero32 })
      (record { cell = y; next = clamped a.height (y + 1); fraction = zero32 })
      (record { cell = z; next = clamped a.depth (z + 1); fraction = zero32 })
  unfolding cells_of
  corner_cells =
      rw (ex, ey, ez, whole_between a.width x hx w.widest, whole_between a.height y hy w.highest, whole_between a.depth z hz w.deepest)

  at_corner : (f : ℕ → Float) → ((i : ℕ) → i < voxels a → Plain (f i)) → Kept (f (index_of a x y z)) (blended_of (cells_of a c p) f)
  unfolding cells_from
  at_corner f h =
      let i = rw corner_cells at (cells_read_inside a c p w) in
      rw corner_cells (blended_at_zero (voxels a) _ f i h refl refl refl)

  -- the light of that voxel
  pub light_at_corner : (light : List Float) → ((i : ℕ) → i < voxels a → Plain (slice_index_or light i nan)) → Kept (slice_index_or light (index_of a x y z) nan) (light_blend light (cells_of a c p))
  light_at_corner light h = at_corner (λ (i : ℕ). get_or light i nan) h

  -- each of the sixteen numbers of that voxel
  pub number_at_corner : (volume : List Float) (k : ℕ)
      → ((i : ℕ) → i < voxels a → Plain (slice_index_or volume (i * 16 + k) nan))
      → Kept (slice_index_or volume (index_of a x y z * 16 + k) nan) (number_blend volume (cells_of a c p) k)
  number_at_corner volume k h = at_corner (λ (i : ℕ). get_or volume (i * 16 + k) nan) h
