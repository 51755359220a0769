-- A normalised vector: where the dot of a vector with itself is above 0 and finite, no component of the normalised vector is NaN, and each is at most 2 in size.
-- Of any other vector some component is infinite or NaN, or each is a zero.
-- A component x squared, as it rounds, is at most the dot D; so x * x is less than a 256th above D, and one unit; and 4 times the square of the root of D is at least 3 D.
-- Where D is not thin the one unit counts for nothing, and a component is at most 19 / 16. Assumes nothing.
use Rattle.std.specs.Prelude.{◌≡◌, refl, ◌⊎◌, Bool, true, false, cond, ℤ, T, ltb, eqb, Float}
use Rattle.std.proofs.Common.{sym, ap, ◌∙◌, subst, inl, inr, le_refl, le_trans, le_of_eq, le_of_lt, lt_irrefl, lt_of_lt_of_le, lt_of_le_of_lt, lt_of_not-le, mul-one, zero-mul, mul_comm, mul_assoc, mul_left_comm, mul_right_comm, mul-le-mul, mul-le-mul_right, mul-lt-mul_of_pos_right, le_of_mul-le-mul_right, mul-pos, zero-lt-suc, eq-zero-or-pos, div-lt_iff_lt-mul, le-div_iff_mul-le, le-add_right, le-add_left, arith, lit<, lit≤, ne_eqb, ltb-true, ltb-false, pow_pos, pow_mono, pow-add}
use Prim.Native.Nat.{ℕ, zero, suc, ◌+◌, ◌-◌, ◌*◌, ◌/◌, ◌%◌, ◌^◌, ◌≤◌, ◌<◌, zero-le, compare}
use Rattle.std.proofs.lemmas.Bool.{false≢true}
use Rattle.std.proofs.Math.Decide.{dec_le}
use Rattle.std.specs.Float.{nan, inf, fin, binary32}
use Rattle.std.specs.Float.Ieee.{up, down, unlike, size, units, odd, round, add, mul, div, lt, fits, of_bits}
use Rattle.std.specs.Float.Ieee.Digits.{size_reaches, back}
use Rattle.std.specs.Float.Ieee.Fits.{up_pos, down_pos, round_is, mul-fits, add-fits}
use Rattle.std.specs.Float.Ieee.Exact.{HasValue, odd_sign}
use Rattle.std.specs.Float.Ieee.Nearest.{closest_mono, nearest-ge}
use Rattle.std.specs.Float.Ieee.Order.{drop, kept}
use Rattle.std.specs.Float.Ieee.Scale.{finite}
use Rattle.std.specs.Float.Ieee.Positive.{first_pos}
use Rattle.names.specs.Bits.{zero32}
use Rattle.names.specs.Numbers.{thin_limit}
use Rattle.floats.specs.Root.{root_of}
use Rattle.floats.specs.RootLaws.{root_square}
use Rattle.floats.specs.RootLaws.Units.{fits_spread, counted}
use Rattle.floats.specs.OrderLaws.{lt_transitive}
use Rattle.vectors.specs.declared.Vec3.{Vec3}
use Rattle.vectors.specs.Vectors.{dot_v, div_v, length_v, normal_v}
use Rattle.bounds.specs.Bounds.{AtMost, Under, Within, EachAtMost, EachUnder}
use Rattle.bounds.specs.BoundsLaws.{closest_one, round_under}
use Rattle.bounds.specs.WildLaws.{either_wild, Wild, wild_x, wild_y, wild_z, root_wild, over_wild}

-- ---- what a fraction rounds to, in units of 2 ^ -149

-- at least n * 2 ^ j where the fraction is
grid_least : (a c n j : ℕ) → 0 < c → n < 16777216 → n * 2 ^ j * c ≤ a → n * 2 ^ j ≤ kept 24 a c * 2 ^ drop 24 a c
grid_least a c n j C N h = go (dec_le k j)
  where
    k : ℕ
    k = drop 24 a c

    at : (p : ℕ) → p * (c * 2 ^ k) ≤ a → p ≤ kept 24 a c
    at p g = le_trans (le_of_eq (sym (closest_one p))) (closest_mono p 1 a (c * 2 ^ k) (omega arith) (mul-pos C (pow_pos k)) (le_trans g (le_of_eq (sym (mul-one a)))))

    go : Dec (k ≤ j) → n * 2 ^ j ≤ kept 24 a c * 2 ^ k
    go (yes l) =
        let e : n * 2 ^ (j - k) * 2 ^ k ≡ n * 2 ^ j = mul_assoc n (2 ^ (j - k)) (2 ^ k) ∙ ap (λ (z : ℕ). n * z) (sym (pow-add 2 (j - k) k) ∙ ap (λ (z : ℕ). 2 ^ z) (back j k l)) in
        le_trans (le_of_eq (sym e)) (mul-le-mul_right (2 ^ k) (at (n * 2 ^ (j - k)) (le_trans (le_of_eq (sym (mul_assoc (n * 2 ^ (j - k)) c (2 ^ k)) ∙ mul_right_comm (n * 2 ^ (j - k)) c (2 ^ k) ∙ ap (λ (z : ℕ). z * c) e)) h)))
    go (no f) =
        let big : 2 ^ (23 + k) ≤ a / c = size_reaches (a / c) (23 + k) (all_in_use (size (a / c)) j (lt_of_not-le f)) in
        let g : 8388608 * (c * 2 ^ k) ≤ a = le_trans (le_of_eq (sym (mul_assoc 8388608 c (2 ^ k)) ∙ mul_right_comm 8388608 c (2 ^ k) ∙ ap (λ (z : ℕ). z * c) (sym (pow-add 2 23 k)))) ((le-div_iff_mul-le C).0 big) in
        le_trans (le_of_lt (lt_of_lt_of_le (mul-lt-mul_of_pos_right N (pow_pos j)) (le_trans (le_of_eq (sym (pow-add 2 24 j))) (le_trans (pow_mono {i = 24 + j} {j = 23 + k} (more j (lt_of_not-le f))) (le_of_eq (pow-add 2 23 k))))))
        (mul-le-mul_right (2 ^ k) (at 8388608 g))
      where
        all_in_use : (z j : ℕ) → j < z - 24 → 23 + (z - 24) < z
        all_in_use z j h = omega arith

        more : (j : ℕ) → j < k → 24 + j ≤ 23 + k
        more j h = omega arith

-- a fraction is less than a 256th above what it rounds to, and one unit
grid_near : (a c : ℕ) → 0 < c → 256 * a < (257 * (kept 24 a c * 2 ^ drop 24 a c) + 256) * c
grid_near a c C = go (eq-zero-or-pos k)
  where
    k : ℕ
    k = drop 24 a c

    w : ℕ
    w = a / (c * 2 ^ k)

    most : a < (w + 1) * (c * 2 ^ k)
    most = (div-lt_iff_lt-mul (mul-pos C (pow_pos k))).0 (omega arith)

    rounded : w ≤ kept 24 a c
    rounded = nearest-ge w (compare (a % (c * 2 ^ k) * 2) (c * 2 ^ k))

    -- by p = 2 ^ k
    few : (w q c p : ℕ) → p ≡ 1 → w ≤ q → a < (w + 1) * (c * p) → 256 * a < (257 * (q * p) + 256) * c
    few w q c p e h l =
        let h' = mul-le-mul_right c h in
        let l' : a < (w + 1) * (c * 1) = rw e at l in
        rw e (omega arith)

    many : (w q c p : ℕ) → 256 ≤ w → w ≤ q → a < (w + 1) * (c * p) → 256 * a < (257 * (q * p) + 256) * c
    many w q c p s h l =
        let s' = mul-le-mul_right (c * p) s in
        let h' = mul-le-mul_right (c * p) h in
        omega arith

    go : (k ≡ 0) ⊎ (0 < k) → 256 * a < (257 * (kept 24 a c * 2 ^ k) + 256) * c
    go (inl z) = few w (kept 24 a c) c (2 ^ k) (ap (λ (v : ℕ). 2 ^ v) z) rounded most
    go (inr y) =
        let big : 2 ^ (23 + k) ≤ a / c = size_reaches (a / c) (23 + k) (all_in_use (size (a / c)) y) in
        let large : 8388608 ≤ w = (le-div_iff_mul-le (mul-pos C (pow_pos k))).1 (le_trans (le_of_eq (sym (mul_assoc 8388608 c (2 ^ k)) ∙ mul_right_comm 8388608 c (2 ^ k) ∙ ap (λ (z : ℕ). z * c) (sym (pow-add 2 23 k)))) ((le-div_iff_mul-le C).0 big)) in
        many w (kept 24 a c) c (2 ^ k) (omega arith) rounded most
      where
        all_in_use : (z : ℕ) → 0 < z - 24 → 23 + (z - 24) < z
        all_in_use z h = omega arith

-- a rounded number that is finite
round_value : (s : Bool) (a c : ℕ) → finite (round binary32 s a c) ≡ true → HasValue (round binary32 s a c) s (kept 24 (a * 2 ^ 149) c * 2 ^ drop 24 (a * 2 ^ 149) c) (2 ^ 149)
unfolding units
round_value s a c h =
    subst (λ (v : Float). HasValue v s (kept 24 (a * 2 ^ 149) c * 2 ^ drop 24 (a * 2 ^ 149) c) (2 ^ 149)) (sym (round_is binary32 s a c)) (of_units (kept 24 (a * 2 ^ 149) c) (drop 24 (a * 2 ^ 149) c) (ap finite (sym (round_is binary32 s a c)) ∙ h))
  where
    of_units : (q k : ℕ) → finite (units binary32 s q k) ≡ true → HasValue (units binary32 s q k) s (q * 2 ^ k) (2 ^ 149)
    of_units q k h = go (ltb (q * 2 ^ k) (2 ^ 277)) h
      where
        go : (b : Bool) → finite (cond b (odd 25 s q k 149) (inf s)) ≡ true → HasValue (cond b (odd 25 s q k 149) (inf s)) s (q * 2 ^ k) (2 ^ 149)
        go true h = odd_sign 25 s q k 149
        go false h = absurd (false≢true h)

-- ---- the parts of a sum and of a square

parts_finite : (x y : Float) → finite (add binary32 x y) ≡ true → (finite x ≡ true) × (finite y ≡ true)
unfolding add
parts_finite nan y h = absurd (false≢true h)
parts_finite (inf s) nan h = absurd (false≢true h)
parts_finite (inf true) (inf true) h = absurd (false≢true h)
parts_finite (inf true) (inf false) h = absurd (false≢true h)
parts_finite (inf false) (inf true) h = absurd (false≢true h)
parts_finite (inf false) (inf false) h = absurd (false≢true h)
parts_finite (inf s) (fin t n d) h = absurd (false≢true h)
parts_finite (fin s m e) nan h = absurd (false≢true h)
parts_finite (fin s m e) (inf t) h = absurd (false≢true h)
parts_finite (fin s m e) (fin t n d) h = (refl, refl)

-- x * x is less than a 256th above q units, and one unit
abbrev HasSquare : Float → ℕ → Type 0
HasSquare nan q = ⊥
HasSquare (inf s) q = ⊥
HasSquare (fin s m e) q = 256 * (m * up e * (m * up e) * 2 ^ 149) < (257 * q + 256) * (down e * down e)

square_is : (x : Float) → finite (mul binary32 x x) ≡ true → (q : ℕ) × HasValue (mul binary32 x x) false q (2 ^ 149) × HasSquare x q
unfolding mul
square_is nan h = absurd (false≢true h)
square_is (inf true) h = absurd (false≢true h)
square_is (inf false) h = absurd (false≢true h)
square_is (fin true m e) h = let a = m * up e * (m * up e) in let c = down e * down e in (kept 24 (a * 2 ^ 149) c * 2 ^ drop 24 (a * 2 ^ 149) c, round_value false a c h, grid_near (a * 2 ^ 149) c (mul-pos (down_pos e) (down_pos e)))
square_is (fin false m e) h = let a = m * up e * (m * up e) in let c = down e * down e in (kept 24 (a * 2 ^ 149) c * 2 ^ drop 24 (a * 2 ^ 149) c, round_value false a c h, grid_near (a * 2 ^ 149) c (mul-pos (down_pos e) (down_pos e)))

-- an f32 of a units is no more than what a fraction from there up rounds to
part : (m : ℕ) (e : ℤ) (a : ℕ) → T (fits binary32 (fin false m e)) → m * up e * 2 ^ 149 ≡ a * down e → (N C : ℕ) → 0 < C → a * C ≤ N → a ≤ kept 24 N C * 2 ^ drop 24 N C
part m e a f v N C p h =
    let s = fits_spread m e f in
    let q : a ≡ m * 2 ^ s.1.0 = sym (counted m e a v) ∙ s.1.1 in
    le_trans (le_of_eq q) (grid_least N C m s.1.0 p s.0 (le_trans (le_of_eq (ap (λ (z : ℕ). z * C) (sym q))) h))

-- a sum of two that are not negative is at least each
sum_is : (x y : Float) (a b : ℕ) → T (fits binary32 x) → T (fits binary32 y) → HasValue x false a (2 ^ 149) → HasValue y false b (2 ^ 149) → finite (add binary32 x y) ≡ true
    → (c : ℕ) × HasValue (add binary32 x y) false c (2 ^ 149) × (a ≤ c) × (b ≤ c)
unfolding add
sum_is nan y a b f g v w h = absurd v
sum_is (inf s) y a b f g v w h = absurd v
sum_is (fin true m e) y a b f g v w h = absurd (false≢true (sym v.0))
sum_is (fin false m e) nan a b f g v w h = absurd w
sum_is (fin false m e) (inf t) a b f g v w h = absurd w
sum_is (fin false m e) (fin true n d) a b f g v w h = absurd (false≢true (sym w.0))
sum_is (fin false m e) (fin false n d) a b f g v w h =
    let A = m * up e * down d in
    let B = n * up d * down e in
    let C = down e * down d in
    let N = (A + B) * 2 ^ 149 in (
      kept 24 N C * 2 ^ drop 24 N C,
      round_value false (A + B) C h,
      part m e a f v.1 N C (mul-pos (down_pos e) (down_pos d)) (le_trans (le_of_eq (sym (mul_assoc a (down e) (down d)) ∙ ap (λ (z : ℕ). z * down d) (sym v.1) ∙ mul_right_comm (m * up e) (2 ^ 149) (down d))) (mul-le-mul_right (2 ^ 149) (le-add_right A B))),
      part n d b g w.1 N C (mul-pos (down_pos e) (down_pos d))
          (le_trans (le_of_eq (ap (λ (z : ℕ). b * z) (mul_comm (down e) (down d)) ∙ sym (mul_assoc b (down d) (down e)) ∙ ap (λ (z : ℕ). z * down e) (sym w.1) ∙ mul_right_comm (n * up d) (2 ^ 149) (down e))) (mul-le-mul_right (2 ^ 149) (le-add_left B A))),
    )

-- ---- one component over the root

square_back : (a b : ℕ) → a * a ≤ b * b → a ≤ b
square_back a b h = go (dec_le a b)
  where
    go : Dec (a ≤ b) → a ≤ b
    go (yes l) = l
    go (no f) = let l = lt_of_not-le f in absurd (lt_irrefl (b * b) (lt_of_lt_of_le (lt_of_le_of_lt (mul-le-mul (le_refl b) (le_of_lt l)) (mul-lt-mul_of_pos_right l (lt_of_le_of_lt zero-le l))) h))

-- |x| by 2 ^ d is at most u times R units
abbrev AtMostUnits : Float → ℕ → ℕ → ℕ → Type 0
AtMostUnits nan d u R = ⊥
AtMostUnits (inf s) d u R = ⊥
AtMostUnits (fin s m e) d u R = 2 ^ d * (m * up e * 2 ^ 149) ≤ u * (R * down e)

-- so x over R units is at most u / 2 ^ d
over_root : (x r : Float) (R u d : ℕ) → HasValue r false R (2 ^ 149) → 0 < R → u < 16777216 → d ≤ 149 → AtMostUnits x d u R → Under u d (div binary32 x r)
unfolding div
over_root nan r R u d v p U E h = absurd h
over_root (inf s) r R u d v p U E h = absurd h
over_root (fin s m e) nan R u d v p U E h = absurd v
over_root (fin s m e) (inf t) R u d v p U E h = absurd v
over_root (fin s m e) (fin t n j) R u d v p U E h =
    let some : 0 < n * up j = first_pos (n * up j) (2 ^ 149) (subst (λ (z : ℕ). 0 < z) (sym v.1) (mul-pos p (down_pos j))) in
    let z : eqb n 0 ≡ false = ne_eqb n 0 (λ e. lt_irrefl 0 (subst (λ (k : ℕ). 0 < k) (ap (λ (k : ℕ). k * up j) e ∙ zero-mul (up j)) some)) in
    subst (λ (b : Bool). Under u d (cond b (cond (eqb m 0) nan (inf (unlike s t))) (round binary32 (unlike s t) (m * up e * down j) (n * up j * down e)))) (sym z)
    (round_under (unlike s t) (m * up e * down j) (n * up j * down e) u d (mul-pos some (down_pos e)) U E
    (le_of_mul-le-mul_right
    (le_trans (le_of_eq (first (m * up e) (down j) (2 ^ d) (2 ^ 149)))
    (le_trans (mul-le-mul_right (down j) h)
    (le_of_eq (second u R (down e) (down j) ∙ ap (λ (z : ℕ). u * (z * down e)) (sym v.1) ∙ third u (n * up j) (2 ^ 149) (down e)))))
    (pow_pos 149)))
  where
    first : (a b c q : ℕ) → a * b * c * q ≡ c * (a * q) * b
    first a b c q = simp (mul_assoc, mul_comm, mul_left_comm)

    second : (a b c q : ℕ) → a * (b * c) * q ≡ a * (b * q * c)
    second a b c q = simp (mul_assoc, mul_comm, mul_left_comm)

    third : (a b c q : ℕ) → a * (b * c * q) ≡ a * (b * q) * c
    third a b c q = simp (mul_assoc, mul_comm, mul_left_comm)

-- P is 2 ^ 149: from the square of A / B, which is at most S / 256 units, to A / B itself; S is at most t times the dot's D units, and R are the root's
root_over : (u v t A B P S D R : ℕ) → 4 * t * (v * v) ≤ 768 * (u * u) → 256 * (A * A * P) ≤ S * (B * B) → S ≤ t * D → 3 * (D * P) ≤ 4 * (R * R) → v * (A * P) ≤ u * (R * B)
root_over u v t A B P S D R c h l g =
    let h' = mul-le-mul_right (3 * P) h in
    let l' = mul-le-mul_right (B * B * (3 * P)) l in
    let g' = mul-le-mul_right (t * (B * B)) g in
    let e : 768 * (A * P * (A * P)) ≤ 4 * t * (R * B * (R * B)) = omega arith in
    square_back (v * (A * P)) (u * (R * B)) (last (A * P) (R * B) e)
  where
    last : (a b : ℕ) → 768 * (a * a) ≤ 4 * t * (b * b) → v * a * (v * a) ≤ u * b * (u * b)
    last a b e = let e' = mul-le-mul_right (v * v) e in let c' = mul-le-mul_right (b * b) c in omega arith

some_root : (D P R : ℕ) → 0 < D → 0 < P → 3 * (D * P) ≤ 4 * (R * R) → 0 < R
some_root D P R d p h = go (eq-zero-or-pos R)
  where
    go : (R ≡ 0) ⊎ (0 < R) → 0 < R
    go (inr l) = l
    go (inl e) = absurd (lt_irrefl 0 (lt_of_lt_of_le (mul-pos (zero-lt-suc 2) (mul-pos d p)) (le_trans h (le_of_eq (ap (λ (z : ℕ). 4 * (z * z)) e)))))

component : (u d t : ℕ) → u < 16777216 → d ≤ 149 → 4 * t * (2 ^ d * 2 ^ d) ≤ 768 * (u * u) → (x y : Float) (q D : ℕ) → T (fits binary32 y) → HasSquare x q → HasValue y false D (2 ^ 149) → 0 < D → 257 * q + 256 ≤ t * D
    → Under u d (div binary32 x (root_of y))
component u d t U E c nan y q D f h v p l = absurd h
component u d t U E c (inf s) y q D f h v p l = absurd h
component u d t U E c (fin s m e) nan q D f h v p l = absurd v
component u d t U E c (fin s m e) (inf i) q D f h v p l = absurd v
component u d t U E c (fin s m e) (fin true n g) q D f h v p l = absurd (false≢true (sym v.0))
component u d t U E c (fin s m e) (fin false zero g) q D f h v p l = absurd (lt_irrefl 0 (lt_of_lt_of_le (mul-pos p (down_pos g)) (le_of_eq (sym v.1 ∙ ap (λ (z : ℕ). z * 2 ^ 149) (zero-mul (up g)) ∙ zero-mul (2 ^ 149)))))
component u d t U E c (fin s m e) (fin false (suc n) g) q D f h v p l =
    let r = root_square n g f in
    let R = r.0 in
    let b : 3 * (D * 2 ^ 149) ≤ 4 * (R * R) = subst (λ (z : ℕ). 3 * (z * 2 ^ 149) ≤ 4 * (R * R)) (counted (suc n) g D v.1) r.2 in
    over_root (fin s m e) (root_of (fin false (suc n) g)) R u d r.1 (some_root D (2 ^ 149) R p (pow_pos 149) b) U E (root_over u (2 ^ d) t (m * up e) (down e) (2 ^ 149) (257 * q + 256) D R c (le_of_lt h) l b)

-- ---- the vector

above_zero_lem : (d : Float) (D : ℕ) → HasValue d false D (2 ^ 149) → lt zero32 d ≡ true → 0 < D
unfolding lt of_bits
above_zero_lem nan D v h = absurd v
above_zero_lem (inf s) D v h = absurd v
above_zero_lem (fin true m e) D v h = absurd (false≢true (sym v.0))
above_zero_lem (fin false m e) D v h =
    let some : 0 < m * up e = lt_of_le_of_lt zero-le (lt_of_lt_of_le (ltb-true (0 * down e) (m * up e * 1) h) (le_of_eq (mul-one (m * up e)))) in
    first_pos D (down e) (subst (λ (z : ℕ). 0 < z) v.1 (mul-pos some (pow_pos 149)))

thin_above : lt zero32 thin_limit ≡ true
unfolding lt of_bits
thin_above = refl

-- the dot of a vector with itself, in units, and what each component's square is at most
record Squared (a : Vec3) : Type 0 where
  whole : ℕ
  value : HasValue (dot_v a a) false whole (2 ^ 149)
  x_part : ℕ
  x_square : HasSquare a.x x_part
  x_most : x_part ≤ whole
  y_part : ℕ
  y_square : HasSquare a.y y_part
  y_most : y_part ≤ whole
  z_part : ℕ
  z_square : HasSquare a.z z_part
  z_most : z_part ≤ whole

squared : (a : Vec3) → finite (dot_v a a) ≡ true → Squared a
unfolding dot_v
squared a f =
    let X = mul binary32 a.x a.x in
    let Y = mul binary32 a.y a.y in
    let Z = mul binary32 a.z a.z in
    let S = add binary32 X Y in
    let o = parts_finite S Z f in
    let i = parts_finite X Y o.0 in
    let x = square_is a.x i.0 in
    let y = square_is a.y i.1 in
    let z = square_is a.z o.1 in
    let s = sum_is X Y x.0 y.0 (mul-fits binary32 a.x a.x) (mul-fits binary32 a.y a.y) x.1 y.1 o.0 in
    let t = sum_is S Z s.0 z.0 (add-fits binary32 X Y) (mul-fits binary32 a.z a.z) s.1 z.1 f in
    record {
      whole = t.0;
      value = t.1;
      x_part = x.0;
      x_square = x.2;
      x_most = le_trans s.2 t.2;
      y_part = y.0;
      y_square = y.2;
      y_most = le_trans s.3 t.2;
      z_part = z.0;
      z_square = z.2;
      z_most = t.3;
    }

-- it is not negative
pub square_sum : (a : Vec3) → finite (dot_v a a) ≡ true → (D : ℕ) × HasValue (dot_v a a) false D (2 ^ 149)
square_sum a f = let s = squared a f in (s.whole, s.value)

-- where the squares, in 256ths, are at most t times the dot's
normal_under : (u d t : ℕ) → u < 16777216 → d ≤ 149 → 4 * t * (2 ^ d * 2 ^ d) ≤ 768 * (u * u) → (a : Vec3) (s : Squared a) → 0 < s.whole → ((q : ℕ) → q ≤ s.whole → 257 * q + 256 ≤ t * s.whole)
    → EachUnder u d (normal_v a)
unfolding dot_v normal_v div_v length_v
normal_under u d t U E c a s g l =
    let h = add-fits binary32 _ _ in
    record {
      x = component u d t U E c a.x (dot_v a a) s.x_part s.whole h s.x_square s.value g (l _ s.x_most);
      y = component u d t U E c a.y (dot_v a a) s.y_part s.whole h s.y_square s.value g (l _ s.y_most);
      z = component u d t U E c a.z (dot_v a a) s.z_part s.whole h s.z_square s.value g (l _ s.z_most);
    }

whole_under : (x : Float) → Under 2 0 x → Within 1 x
unfolding Under AtMost
whole_under nan h = h
whole_under (inf s) h = h
whole_under (fin s m e) h = omega (arith, h)

pub normal_within : (a : Vec3) → lt zero32 (dot_v a a) ≡ true → finite (dot_v a a) ≡ true → EachAtMost 1 1 (normal_v a)
normal_within a p f =
    let s = squared a f in
    let g = above_zero_lem (dot_v a a) s.whole s.value p in
    let n = normal_under 2 0 513 (lit< tt) (lit≤ tt) (lit≤ tt) a s g (λ q h. omega arith) in
    record { x = whole_under _ n.x; y = whole_under _ n.y; z = whole_under _ n.z }

-- so too of a light's direction or a cross that is not thin
pub thin_normal_within : (a : Vec3) → lt thin_limit (dot_v a a) ≡ true → finite (dot_v a a) ≡ true → EachAtMost 1 1 (normal_v a)
thin_normal_within a p f = normal_within a (lt_transitive zero32 thin_limit (dot_v a a) thin_above p) f

-- a dot that is not thin is many units
many_units : (d : Float) (D : ℕ) → HasValue d false D (2 ^ 149) → lt thin_limit d ≡ true → 256 ≤ D
unfolding lt of_bits
many_units nan D v h = absurd v
many_units (inf s) D v h = absurd v
many_units (fin true m e) D v h = absurd (false≢true (sym v.0))
many_units (fin false m e) D v h =
    let l : 2305843 * 1 * down e < m * up e * 2 ^ 61 = ltb-true _ _ h in
    le_of_mul-le-mul_right (le_trans (mul-le-mul_right {m = 256} {n = 2305843 * 1} (down e) (lit≤ tt)) (le_trans (le_of_lt l) (le_trans (mul-le-mul (le_refl (m * up e)) (pow_mono {i = 61} {j = 149} (lit≤ tt))) (le_of_eq v.1)))) (down_pos e)

-- and there each component is at most 19 / 16 in size
pub thin_normal_under : (a : Vec3) → lt thin_limit (dot_v a a) ≡ true → finite (dot_v a a) ≡ true → EachUnder 19 4 (normal_v a)
thin_normal_under a p f =
    let s = squared a f in
    let m = many_units (dot_v a a) s.whole s.value p in
    normal_under 19 4 258 (lit< tt) (lit≤ tt) (lit≤ tt) a s (omega arith) (λ q h. omega arith)

-- ---- any vector

-- where the dot is 0, each quotient is infinite or NaN
over_zero : (x : Float) (s : Bool) (e : ℤ) → finite (div binary32 x (fin s 0 e)) ≡ false
unfolding div
over_zero nan s e = refl
over_zero (inf t) s e = refl
over_zero (fin t m d) s e = either_wild (eqb m 0) (unlike t s)

over_none : (x d : Float) (D : ℕ) → HasValue d false D (2 ^ 149) → lt zero32 d ≡ false → finite (div binary32 x (root_of d)) ≡ false
unfolding lt of_bits root_of
over_none x nan D v h = absurd v
over_none x (inf s) D v h = absurd v
over_none x (fin true m e) D v h = absurd (false≢true (sym v.0))
over_none x (fin false zero e) D v h = over_zero x false e
over_none x (fin false (suc m) e) D v h =
    absurd (lt_irrefl 0 (lt_of_lt_of_le (mul-pos (mul-pos (zero-lt-suc m) (up_pos e)) (zero-lt-suc 0)) (le_trans (ltb-false (0 * down e) (suc m * up e * 1) h) (le_of_eq (zero-mul (down e))))))

-- whatever is normalised: some component is infinite or NaN, or each is at most 2 in size
pub normal_spread : (a : Vec3) → Wild (normal_v a) ⊎ EachAtMost 1 1 (normal_v a)
unfolding normal_v div_v length_v
normal_spread a = by (finite (dot_v a a)) refl
  where
    over : Float → Float
    over x = div binary32 x (root_of (dot_v a a))

    each : (p q r : Bool) → finite (dot_v a a) ≡ false → finite (over a.x) ≡ p → finite (over a.y) ≡ q → finite (over a.z) ≡ r
        → Wild (normal_v a) ⊎ EachAtMost 1 1 (normal_v a)
    each false q r f h g k = inl (wild_x h)
    each true false r f h g k = inl (wild_y g)
    each true true false f h g k = inl (wild_z k)
    each true true true f h g k =
        let o = root_wild (dot_v a a) f in
        inr (record { x = over_wild a.x _ 1 1 o h; y = over_wild a.y _ 1 1 o g; z = over_wild a.z _ 1 1 o k })

    some : (b : Bool) → lt zero32 (dot_v a a) ≡ b → finite (dot_v a a) ≡ true → Wild (normal_v a) ⊎ EachAtMost 1 1 (normal_v a)
    some true p f = inr (normal_within a p f)
    some false p f = let s = squared a f in inl (wild_x (over_none a.x (dot_v a a) s.whole s.value p))

    by : (b : Bool) → finite (dot_v a a) ≡ b → Wild (normal_v a) ⊎ EachAtMost 1 1 (normal_v a)
    by true f = some (lt zero32 (dot_v a a)) refl f
    by false f = each (finite (over a.x)) (finite (over a.y)) (finite (over a.z)) f refl refl refl
