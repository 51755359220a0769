-- From a corner and an edge to the coordinate of a voxel's centre less one half, step by step. With a corner of at most 2^22 edges, which is 4,096 beside 1/1024, the two sums that the
-- corner enters are off by at most 17/64 of an edge each, half an edge by a 32nd of one, i edges by a 64th, and the difference from the corner by a 1024th. So that difference lies within 5/8
-- of an edge of i and a half edges, the quotient within 3/4 of i + 1/2, and that less one half within 7/8 of i. Assumes nothing.
use Rattle.std.specs.Prelude.{◌≡◌, refl, ℕ, ◌+◌, ◌*◌, ◌/◌, ◌^◌, ◌≤◌, ◌<◌, Bool, true, false, Float}
use Rattle.std.proofs.Common.{sym, ap, ◌∙◌, subst, zero-le, mul-pos, mul-le-mul_right, le_of_mul-le-mul_right, arith, lit<, lit≤, pow_pos}
use Rattle.std.specs.Float.{binary32}
use Rattle.std.specs.Float.Ieee.{round, add, sub, mul, div, unlike, of_bits}
use Rattle.std.specs.Float.Ieee.Exact.{HasValue}
use Rattle.std.specs.Float.Ieee.Scale.{finite}
use Rattle.names.specs.Bits.{half32}
use Rattle.lookup.specs.Place.{coordinate_of}
use Rattle.centre_laws.specs.Rounding.{RoundedFrom, rounded_from, mul_of, div_of}
use Rattle.centre_laws.specs.Near.{Apart, NearTo, finer_value, add_near, sub_near}

-- ---- the arithmetic, with u units of 2^-149 to 1 and d parts to a unit

-- half an edge
half_off : (u d e h : ℕ) → 0 < u → 16777216 * (h * (u * d * 2)) ≤ 16777217 * (e * 1 * u) + 8388608 * (u * d * 2) → 16777215 * (e * 1 * u) ≤ 16777216 * (h * (u * d * 2)) + 8388608 * (u * d * 2)
    → (33554432 * (h * d) ≤ 16777217 * e + 16777216 * d) × (16777215 * e ≤ 33554432 * (h * d) + 16777216 * d)
half_off u d e h U a b = (le_of_mul-le-mul_right {k = u} (omega arith) U, le_of_mul-le-mul_right {k = u} (omega arith) U)

-- i edges
along_off : (u d j w : ℕ) → 0 < u → 16777216 * (w * (1 * (u * d))) ≤ 16777217 * (j * u) + 8388608 * (1 * (u * d)) → 16777215 * (j * u) ≤ 16777216 * (w * (1 * (u * d))) + 8388608 * (1 * (u * d))
    → (16777216 * (w * d) ≤ 16777217 * j + 8388608 * d) × (16777215 * j ≤ 16777216 * (w * d) + 8388608 * d)
along_off u d j w U a b = (le_of_mul-le-mul_right {k = u} (omega arith) U, le_of_mul-le-mul_right {k = u} (omega arith) U)

-- the quotient of d by e, in units, of which an eighth of 1 has y
quotient_off : (s : Bool) (u y i e d q : ℕ) → u ≡ 8 * y → 1048576 ≤ y → i ≤ 127 → 0 < e → Apart s (8 * d) (8 * (i * e) + 4 * e) 0 (5 * e)
    → 16777216 * (q * e) ≤ 16777217 * (d * u) + 8388608 * e → 16777215 * (d * u) ≤ 16777216 * (q * e) + 8388608 * e → Apart s q (i * u + 4 * y) 0 (6 * y)
quotient_off false u y i e d q r Y I E h a b =
    let k = mul-le-mul_right u I in
    let h0 = mul-le-mul_right u h.0 in
    let h1 = mul-le-mul_right u h.1 in
    let m : 134217728 * q ≤ 16777217 * (8 * (i * u) + 9 * u) + 67108864 = le_of_mul-le-mul_right {k = e} (omega arith) E in
    let l : 16777215 * (8 * (i * u)) ≤ 134217728 * q + 16777215 * u + 67108864 = le_of_mul-le-mul_right {k = e} (omega arith) E in
    (omega arith, omega arith)
quotient_off true u y i e d q r Y I E h a b =
    let k = mul-le-mul_right u I in
    let h1 = mul-le-mul_right u h.1 in
    let m : 134217728 * q + 16777217 * (8 * (i * u)) ≤ 16777217 * u + 67108864 = le_of_mul-le-mul_right {k = e} (omega arith) E in
    (zero-le, omega arith)

-- how far off the two sums, and the difference, may be
abbrev wide_of : ℕ → ℕ
wide_of e = 17 * e / 64

abbrev thin_of : ℕ → ℕ
thin_of e = e / 1024

-- p − m is the corner, h half an edge e as it rounds, w and j are i edges as they round and as they are, all in dth parts of a unit
record Parts (d p m e h w j : ℕ) : Type 0 where
  some : 0 < d
  corner : p + m ≤ 4194304 * e
  large : 1073741824 * d ≤ e
  half : (33554432 * h ≤ 16777217 * e + 16777216 * d) × (16777215 * e ≤ 33554432 * h + 16777216 * d)
  along : (16777216 * w ≤ 16777217 * j + 8388608 * d) × (16777215 * j ≤ 16777216 * w + 8388608 * d)
  few : j ≤ 127 * e

-- in 32nds and 64ths of the edge
record Coarse (e h w j : ℕ) : Type 0 where
  half : (32 * h ≤ 17 * e) × (15 * e ≤ 32 * h)
  along : (64 * w ≤ 64 * j + e) × (64 * j ≤ 64 * w + e)

-- so the difference from the corner lies within 5/8 of the edge of j and a half of it
apart_coarse : (p m e h w j : ℕ) → Coarse e h w j → (s : Bool) (z : ℕ) → Apart s z (p + h + w + m) (m + 0 + 0 + p) (0 + 0 + wide_of e + 0 + wide_of e + 0 + thin_of e) → Apart s (8 * z) (8 * j + 4 * e) 0 (5 * e)
apart_coarse p m e h w j o false z a = (omega arith, omega arith)
apart_coarse p m e h w j o true z a = (zero-le, omega arith)

module _ (d p m e h w j : ℕ) (o : Parts d p m e h w j) where
  first_room : p + m + h + 0 + 0 + 8388608 * d ≤ 16777216 * wide_of e
  first_room = omega arith

  centre_room : p + m + h + w + (0 + 0 + wide_of e) + 0 + 8388608 * d ≤ 16777216 * wide_of e
  centre_room = omega arith

  apart_room : h + w + (0 + 0 + wide_of e + 0 + wide_of e) + 0 + 8388608 * d ≤ 16777216 * thin_of e
  apart_room = omega arith

  coarse : Coarse e h w j
  coarse = record { half = (omega arith, omega arith); along = (omega arith, omega arith) }

  apart_off : (s : Bool) (z : ℕ) → Apart s z (p + h + w + m) (m + 0 + 0 + p) (0 + 0 + wide_of e + 0 + wide_of e + 0 + thin_of e) → Apart s (8 * z) (8 * j + 4 * e) 0 (5 * e)
  apart_off = apart_coarse p m e h w j coarse

-- ---- the numbers

-- the centre of voxel i, whose float is n, and its coordinate less one half
abbrev pub centre_along : Float → Float → Float → Float
centre_along low e n = add binary32 (add binary32 low (mul binary32 e half32)) (mul binary32 n e)

abbrev pub less_half : Float → Float → Float → Float
less_half low e pos = sub binary32 (coordinate_of low e pos) half32

-- each step's number is finite
pub record FiniteSteps (low e n : Float) : Type 0 where
  pub half : finite (mul binary32 e half32) ≡ true
  pub first : finite (add binary32 low (mul binary32 e half32)) ≡ true
  pub along : finite (mul binary32 n e) ≡ true
  pub centre : finite (centre_along low e n) ≡ true
  pub apart : finite (sub binary32 (centre_along low e n) low) ≡ true
  pub coordinate : finite (coordinate_of low e (centre_along low e n)) ≡ true
  pub less : finite (less_half low e (centre_along low e n)) ≡ true

half_value : HasValue half32 false 1 2
unfolding of_bits
half_value = (refl, refl)

half_units : HasValue half32 false (4 * 2 ^ 146) (2 ^ 149)
unfolding of_bits
half_units = (refl, refl)

-- what is not negative is near its own size
plain_near : (d : ℕ) (x : Float) (a : ℕ) → HasValue x false a (2 ^ 149 * d) → NearTo d x a 0 0
plain_near d x a v = record { minus = false; size = a; value = v; apart = (omega arith, omega arith) }

plus_sign : (s : Bool) → unlike s false ≡ s
plus_sign true = refl
plus_sign false = refl

-- a product of numbers that are not negative, as one fraction rounds
product_from : (x y : Float) (a c b d : ℕ) → 0 < c → 0 < d → HasValue x false a c → HasValue y false b d → finite (mul binary32 x y) ≡ true → RoundedFrom false (a * b) (c * d) (mul binary32 x y)
product_from x y a c b d C D v w f =
    let e = mul_of x y false false a c b d C D v w in
    subst (λ (z : Float). RoundedFrom false (a * b) (c * d) z) (sym e) (rounded_from false (a * b) (c * d) (mul-pos C D) (ap finite (sym e) ∙ f))

quotient_from : (x y : Float) (s : Bool) (a b c : ℕ) → 0 < b → 0 < c → HasValue x s a c → HasValue y false b c → finite (div binary32 x y) ≡ true → RoundedFrom s a b (div binary32 x y)
quotient_from x y s a b c B C v w f =
    let e = div_of x y s false a b c B C v w ∙ ap (λ (z : Bool). round binary32 z a b) (plus_sign s) in
    subst (λ (z : Float). RoundedFrom s a b z) (sym e) (rounded_from s a b B (ap finite (sym e) ∙ f))

-- |g − i| ≤ 7/8, for a corner p − m and an edge a, in dth parts of a unit
pub less_near : (low e n : Float) (d p m a i : ℕ) → 0 < d → FiniteSteps low e n → NearTo d low p m 0 → HasValue e false a (2 ^ 149 * d) → HasValue n false i 1 → p + m ≤ 4194304 * a → 1073741824 * d ≤ a
    → i ≤ 127 → NearTo 1 (less_half low e (centre_along low e n)) (i * 2 ^ 149 + 4 * 2 ^ 146 + 0) (0 + 4 * 2 ^ 146) (6 * 2 ^ 146 + 0 + 2 ^ 146)
less_near low e n d p m a i D f l ev nv c g I =
    let U = pow_pos 149 in
    let C = mul-pos U D in
    let hr = product_from e half32 a (2 ^ 149 * d) 1 2 C (lit< tt) ev half_value f.half in
    let ar = product_from n e i 1 a (2 ^ 149 * d) (lit< tt) C nv ev f.along in
    let h = hr.units * d in
    let w = ar.units * d in
    let o : Parts d p m a h w (i * a) =
    record {
      some = D;
      corner = c;
      large = g;
      half = half_off (2 ^ 149) d a hr.units U hr.most hr.least;
      along = along_off (2 ^ 149) d (i * a) ar.units U ar.most ar.least;
      few = mul-le-mul_right a I;
    } in
    let first =
    add_near d p m 0 h 0 0 (p + m + h) (wide_of a) D (omega arith) (omega arith) (first_room d p m a h w (i * a) o) low (mul binary32 e half32) f.first l
    (plain_near d (mul binary32 e half32) h (finer_value d (mul binary32 e half32) false hr.units hr.value)) in
    let centre =
    add_near d (p + h) (m + 0) (0 + 0 + wide_of a) w 0 0 (p + m + h + w) (wide_of a) D (omega arith) (omega arith) (centre_room d p m a h w (i * a) o) _ (mul binary32 n e) f.centre first
    (plain_near d (mul binary32 n e) w (finer_value d (mul binary32 n e) false ar.units ar.value)) in
    let z =
    sub_near d (p + h + w) (m + 0 + 0) (0 + 0 + wide_of a + 0 + wide_of a) p m 0 (h + w) (thin_of a) D (omega arith) (omega arith) (apart_room d p m a h w (i * a) o) (centre_along low e n) low f.apart centre
    l in
    let A : 0 < a = omega arith in
    let qr = quotient_from _ e z.minus z.size a (2 ^ 149 * d) A C z.value ev f.coordinate in
    let q : NearTo 1 (coordinate_of low e (centre_along low e n)) (i * 2 ^ 149 + 4 * 2 ^ 146) 0 (6 * 2 ^ 146) =
    record {
      minus = z.minus;
      size = qr.units;
      value = qr.value;
      apart =
          quotient_off z.minus (2 ^ 149) (2 ^ 146) i a z.size qr.units refl (lit≤ tt) I A (apart_off d p m a h w (i * a) o z.minus z.size z.apart) qr.most qr.least;
    } in
    let r = last_room (2 ^ 149) (2 ^ 146) refl (lit≤ tt) in
    sub_near 1 (i * 2 ^ 149 + 4 * 2 ^ 146) 0 (6 * 2 ^ 146) (4 * 2 ^ 146) 0 0 (i * 2 ^ 149) (2 ^ 146) (lit< tt) r.0 r.1 r.2 _ half32 f.less q (plain_near 1 half32 (4 * 2 ^ 146) half_units)
  where
    last_room : (u y : ℕ) → u ≡ 8 * y → 1048576 ≤ y
        → (i * u + 4 * y + 0 ≤ 0 + 4 * y + i * u) × (0 + 4 * y ≤ i * u + 4 * y + 0 + i * u) × (i * u + 6 * y + 0 + 8388608 * 1 ≤ 16777216 * y)
    last_room u y e Y = let k = mul-le-mul_right u I in (omega arith, omega arith, omega arith)
