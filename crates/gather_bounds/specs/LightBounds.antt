-- How large the light of a surface and its projection are, from colours up to 2^16 and normals whose components are at most 2. A lamp that reaches
-- a surface stands at a finite distance whose square is above 1e-12, so that n·l/d² is at most 2^63.
use Rattle.std.specs.Prelude.{◌≡◌, refl, Bool, true, false, cond, eqb, ltb, ℤ, Float}
use Rattle.std.proofs.Common.{sym, ◌∙◌, zero-mul, mul-le-mul_right, lt_of_le_of_lt, arith, lit<, lit≤, ne_eqb, le-ltb}
use Rattle.std.proofs.lemmas.Bool.{false≢true, not-false}
use Prim.Native.Nat.{ℕ, zero, suc, ◌+◌, ◌-◌, ◌*◌, ◌/◌, ◌%◌, ◌^◌, ◌≤◌, compare}
use Rattle.std.specs.Float.Ieee as Ieee
use Rattle.std.specs.Float.{nan, inf, fin, binary32}
use Rattle.std.specs.Float.Ieee.{is_nan, of_bits, odd, units, round, nearest, size, up, down}
use Rattle.std.specs.Float.Ieee.Scale.{finite}
use Rattle.std.specs.Float.Ieee.Exact.{HasValue}
use Rattle.names.specs.Bits.{lit, zero32, one32}
use Rattle.names.specs.Numbers.{thin_limit}
use Rattle.floats.specs.Root.{root_of}
use Rattle.floats.specs.FiniteLaws.{finite_number}
use Rattle.floats.specs.OrderLaws.{not_lt_le}
use Rattle.vectors.specs.declared.Vec3.{Vec3}
use Rattle.vectors.specs.Vectors.{neg_v, sub_v, scale_v, div_v, dot_v, length_v, normal_v, lerp_v}
use Rattle.bounds.specs.Bounds.{AtMost, EachAtMost}
use Rattle.bounds.specs.BoundsLaws.{at_most_up, at_most_finite, at_least_of_test, add_at_most, sub_at_most, mul_at_most, div_at_most, larger_at_most, clamp_at_most, zero_at_most, one_at_most}
use Rattle.bounds.specs.NormalLaws.{thin_normal_within}
use Rattle.bounds.specs.WildLaws.{root_wild}
use Rattle.bounds.specs.VectorLaws.{each_up, neg_each, add_each, mul_each, scale_each, larger_each, dot_at_most}
use Rattle.limits.specs.LimitsLaws.{either}
use Rattle.harmonics.specs.declared.Coefficients.{Coefficients}
use Rattle.harmonics.specs.Harmonics.{zero_v, linear_basis, primary_weight, add_weighted, projected, added_to, irradiance_of, evaluated_at, raised_v, raised_of, floor32, luminance_of, blended_v, blended_each, shortfall_of, floored_of}
use Rattle.bounce.specs.Light.{facing_of, slant_of, sunlight_of, skylight_of, bounced_of, reflected_of}
use Rattle.bounce.specs.Lamps.{way_to, unlit_by, lamplight_of}
use Rattle.gather_bounds.specs.Each.{div_each, zero_each, taken_each, AllAtMost, all_up, taken_all, constant_basis_small, linear_basis_small, primary_weight_small, constant_irradiance_small, linear_irradiance_small, floor_small, red_small, green_small, blue_small, quarter_small, pi_least}

-- ---- light on a surface

pub raised_each : (a : Vec3) (n k : ℕ) → EachAtMost n k a → EachAtMost n k (raised_v a)
unfolding raised_v
raised_each a n k h = larger_each a zero_v n k h (zero_each n k)

pub facing_each : (n d : Vec3) (m k : ℕ) → EachAtMost m k n → EachAtMost m k (facing_of n d)
unfolding facing_of
facing_each n d m k h = taken_each (Ieee.lt (dot_v n (neg_v d)) zero32) (neg_v n) n m k (neg_each n m k h) h

-- ambient at a normal: 4 · 2^17
pub evaluated_each : (c : Coefficients) (n : Vec3) → AllAtMost 1 16 c → EachAtMost 1 1 n → EachAtMost 4 17 (evaluated_at c n)
unfolding evaluated_at
evaluated_each c n h g =
    let a = each_up c.c0 1 16 1 17 (lit≤ tt) h.c0 in
    let b = scale_each c.c1 n.y 1 16 1 1 (lit< tt) (lit< tt) h.c1 g.y in
    let d = scale_each c.c2 n.z 1 16 1 1 (lit< tt) (lit< tt) h.c2 g.z in
    let e = scale_each c.c3 n.x 1 16 1 1 (lit< tt) (lit< tt) h.c3 g.x in
    add_each _ _ 3 1 17 (lit< tt) (lit< tt) (add_each _ _ 2 1 17 (lit< tt) (lit< tt) (add_each _ _ 1 1 17 (lit< tt) (lit< tt) a b) d) e

-- the sky's light, where four transmittances were summed: 16 · 2^17
pub skylight_each : (c : Coefficients) (n : Vec3) (s : Float) → AllAtMost 1 16 c → EachAtMost 1 1 n → AtMost 4 0 s
    → EachAtMost 16 17 (skylight_of c n (Ieee.mul binary32 s (lit 0x3e800000)))
unfolding skylight_of
skylight_each c n s h g t =
    scale_each _ _ 4 17 4 0 (lit< tt) (lit< tt) (raised_each _ 4 17 (evaluated_each c n h g)) (mul_at_most s (lit 0x3e800000) 4 0 1 0 (lit< tt) (lit< tt) t quarter_small)

-- the sun's: 3 · 2^18
pub sunlight_each : (c n l : Vec3) (v : Float) → EachAtMost 1 16 c → EachAtMost 1 1 n → EachAtMost 1 1 l → AtMost 1 0 v
    → EachAtMost 3 18 (sunlight_of c (slant_of n l) v)
unfolding sunlight_of slant_of
sunlight_each c n l v h g k t =
    let d = larger_at_most _ zero32 3 2 (dot_at_most n l 1 1 1 1 (lit< tt) (lit< tt) g k) (zero_at_most 3 2) in
    scale_each c _ 1 16 3 2 (lit< tt) (lit< tt) h (mul_at_most _ v 3 2 1 0 (lit< tt) (lit< tt) d t)

-- ---- the light of a lamp: 1 · 2^79

-- NaN, or a zero
abbrev Nothing : Float → Type 0
Nothing nan = Unit
Nothing (inf s) = ⊥
Nothing (fin s m e) = AtMost 0 0 (fin s m e)

nothing_zero : (x : Float) (k : ℕ) → AtMost 0 k x → Nothing x
unfolding AtMost
nothing_zero nan k h = tt
nothing_zero (inf s) k h = absurd h
nothing_zero (fin s m e) k h = at_most_up (fin s m e) 0 k 0 0 (omega arith) h

-- a number times nothing, and the sum of two, are nothing
nothing_mul : (x y : Float) → AtMost 1 1 x → Nothing y → Nothing (Ieee.mul binary32 x y)
unfolding AtMost Ieee.mul
nothing_mul nan y h g = absurd h
nothing_mul (inf s) y h g = absurd h
nothing_mul (fin s m e) nan h g = tt
nothing_mul (fin s m e) (inf t) h g = absurd g
nothing_mul (fin s m e) (fin t n d) h g = nothing_zero (Ieee.mul binary32 (fin s m e) (fin t n d)) 1 (mul_at_most (fin s m e) (fin t n d) 1 1 0 0 (lit< tt) (lit< tt) h g)

nothing_add : (x y : Float) → Nothing x → Nothing y → Nothing (Ieee.add binary32 x y)
unfolding Ieee.add
nothing_add nan y h g = tt
nothing_add (inf s) y h g = absurd h
nothing_add (fin s m e) nan h g = tt
nothing_add (fin s m e) (inf t) h g = absurd g
nothing_add (fin s m e) (fin t n d) h g = nothing_zero (Ieee.add binary32 (fin s m e) (fin t n d)) 0 (add_at_most (fin s m e) (fin t n d) 0 0 0 (lit< tt) (lit< tt) h g)

nothing_not_above : (x : Float) → Nothing x → Ieee.lt zero32 x ≡ false
unfolding AtMost Ieee.lt of_bits
nothing_not_above nan h = refl
nothing_not_above (inf s) h = absurd h
nothing_not_above (fin true m e) h = refl
nothing_not_above (fin false m e) h = le-ltb (0 * down e) (m * up e * 1) (omega (arith, h))

-- over what is no number or infinite there is nothing
nothing_over : (x r : Float) → finite r ≡ false → Nothing (Ieee.div binary32 x r)
unfolding Ieee.div AtMost
nothing_over nan r h = tt
nothing_over (inf s) nan h = tt
nothing_over (inf s) (inf t) h = tt
nothing_over (inf s) (fin t n d) h = absurd (false≢true (sym h))
nothing_over (fin s m e) nan h = tt
nothing_over (fin s m e) (inf t) h = lit≤ tt
nothing_over (fin s m e) (fin t n d) h = absurd (false≢true (sym h))

-- a lamp above a surface stands at a finite distance: from any other, l has no component above 0, and n·l is none
pub reach_finite : (n v : Vec3) → EachAtMost 1 1 n → Ieee.lt zero32 (dot_v n (normal_v v)) ≡ true → finite (dot_v v v) ≡ true
unfolding normal_v length_v div_v dot_v
reach_finite n v h l = go (finite (dot_v v v)) refl
  where
    r : Float
    r = root_of (dot_v v v)

    none : finite (dot_v v v) ≡ false → Nothing (dot_v n (div_v v r))
    none e =
        let f = root_wild (dot_v v v) e in
        nothing_add _ _ (nothing_add _ _ (nothing_mul n.x _ h.x (nothing_over v.x r f)) (nothing_mul n.y _ h.y (nothing_over v.y r f))) (nothing_mul n.z _ h.z (nothing_over v.z r f))

    go : (b : Bool) → finite (dot_v v v) ≡ b → finite (dot_v v v) ≡ true
    go true e = e
    go false e = absurd (false≢true (sym (nothing_not_above (dot_v n (div_v v r)) (none e)) ∙ l))

-- not at most, and a number: above
pub above : (x y : Float) → is_nan x ≡ false → is_nan y ≡ false → Ieee.le y x ≡ false → Ieee.lt x y ≡ true
above x y p o h = go (Ieee.lt x y) refl
  where
    go : (b : Bool) → Ieee.lt x y ≡ b → b ≡ true
    go true e = refl
    go false e = absurd (false≢true (sym h ∙ not_lt_le y x o p e))

pub thin_number : is_nan thin_limit ≡ false
unfolding is_nan of_bits
thin_number = refl

thin_value : HasValue thin_limit false 9223372 (2 ^ 63)
unfolding of_bits
thin_value = (refl, refl)

lt_le : (x y : Float) → Ieee.lt x y ≡ true → Ieee.le x y ≡ true
unfolding Ieee.le
lt_le x y h = rw h

-- so a lamp that reaches a surface brings at most 1 · 2^79 of each colour
pub lamplight_each : (c n p q : Vec3) (v : Float) → EachAtMost 1 16 c → EachAtMost 1 1 n → AtMost 1 0 v → unlit_by n (way_to p q) ≡ false
    → EachAtMost 1 79 (lamplight_of c n (way_to p q) v)
unfolding lamplight_of unlit_by way_to
lamplight_each c n p q v h g t e =
    let w = sub_v q p in
    let o = (either _ _).0 e in
    let l = not-false _ o.0 in
    let f = reach_finite n w g l in
    let s = above thin_limit (dot_v w w) thin_number (finite_number _ f) o.1 in
    let u = thin_normal_within w s f in
    let a = at_least_of_test (dot_v w w) thin_limit 9223372 63 thin_value f (lt_le _ _ s) in
    let k = at_most_up _ 3 2 9223372 0 (lit≤ tt) (dot_at_most n (normal_v w) 1 1 1 1 (lit< tt) (lit< tt) g u) in
    let d = div_at_most _ _ 1 9223372 0 63 (lit< tt) (lit< tt) (lit< tt) k a in
    scale_each _ v 1 79 1 0 (lit< tt) (lit< tt) (scale_each c _ 1 16 1 63 (lit< tt) (lit< tt) h d) t

-- what is sent out, where at most 9 · 2^79 has fallen: 10 · 2^79
pub reflected_each : (a e f : Vec3) → EachAtMost 1 0 a → EachAtMost 1 16 e → EachAtMost 9 79 f → EachAtMost 10 79 (reflected_of a e f)
unfolding reflected_of bounced_of
reflected_each a e f ha he hf =
    let r = raised_each f 9 79 hf in
    let b = mul_each a _ 1 0 9 79 (lit< tt) (lit< tt) ha (div_each _ (lit 0x40490fdb) 9 1 79 0 (lit< tt) (lit< tt) (lit< tt) r pi_least) in
    add_each _ e 9 1 79 (lit< tt) (lit< tt) (taken_each (Ieee.lt zero32 (dot_v (raised_v f) (raised_v f))) _ zero_v 9 79 b (zero_each 9 79)) (each_up e 1 16 1 79 (lit≤ tt) he)

-- ---- projection: a direction adds at most 20 · 2^79 to each sum

weighted_each : (sum r : Vec3) (b : Float) (n : ℕ) → n ≤ 1280 → EachAtMost n 79 sum → EachAtMost 10 79 r → AtMost 2 0 b
    → EachAtMost (n + 20) 79 (add_weighted sum r b)
unfolding add_weighted
weighted_each sum r b n N h g k =
    let w = mul_at_most b primary_weight 2 0 1 0 (lit< tt) (lit< tt) k primary_weight_small in
    add_each sum _ n 20 79 (omega arith) (lt_of_le_of_lt (mul-le-mul_right {m = n + 20} {n = 1300} (2 ^ 79) (omega arith)) (lit< tt)) h (scale_each r _ 10 79 2 0 (lit< tt) (lit< tt) g w)

linear_each : (x : Float) → AtMost 2 0 x → AtMost 2 0 (Ieee.mul binary32 linear_basis x)
linear_each x h = mul_at_most linear_basis x 1 0 2 0 (lit< tt) (lit< tt) linear_basis_small h

pub projected_all : (s : Coefficients) (d r : Vec3) (n : ℕ) → n ≤ 1280 → AllAtMost n 79 s → EachAtMost 2 0 d → EachAtMost 10 79 r
    → AllAtMost (n + 20) 79 (projected s d r)
unfolding projected
projected_all s d r n N h g k =
    record { c0 = weighted_each s.c0 r _ n N h.c0 k (at_most_up _ 1 0 2 0 (lit≤ tt) constant_basis_small); c1 = weighted_each s.c1 r _ n N h.c1 k (linear_each d.y g.y); c2 = weighted_each s.c2 r _ n N h.c2 k (linear_each d.z g.z); c3 = weighted_each s.c3 r _ n N h.c3 k (linear_each d.x g.x) }

pub added_all : (s : Coefficients) (d r : Vec3) (n : ℕ) → n ≤ 1280 → AllAtMost n 79 s → EachAtMost 2 0 d → EachAtMost 10 79 r
    → AllAtMost (n + 20) 79 (added_to s d r)
unfolding added_to
added_all s d r n N h g k = taken_all (Ieee.le (dot_v r r) zero32) s _ (n + 20) 79 (all_up s n 79 (n + 20) 79 (mul-le-mul_right {m = n} {n = n + 20} (2 ^ 79) (omega arith)) h) (projected_all s d r n N h g k)

-- ---- irradiance and the floor

pub irradiance_all : (c : Coefficients) → AllAtMost 1280 79 c → AllAtMost 2560 79 (irradiance_of c)
unfolding irradiance_of
irradiance_all c h =
    record { c0 = each_up _ 1280 79 2560 79 (lit≤ tt) (scale_each c.c0 _ 1280 79 1 0 (lit< tt) (lit< tt) h.c0 constant_irradiance_small); c1 = scale_each c.c1 _ 1280 79 2 0 (lit< tt) (lit< tt) h.c1 linear_irradiance_small; c2 = scale_each c.c2 _ 1280 79 2 0 (lit< tt) (lit< tt) h.c2 linear_irradiance_small; c3 = scale_each c.c3 _ 1280 79 2 0 (lit< tt) (lit< tt) h.c3 linear_irradiance_small }

pub raised_all : (c : Coefficients) (n k : ℕ) → AllAtMost n k c → AllAtMost n k (raised_of c)
unfolding raised_of
raised_all c n k h = record { c0 = raised_each c.c0 n k h.c0; c1 = raised_each c.c1 n k h.c1; c2 = raised_each c.c2 n k h.c2; c3 = raised_each c.c3 n k h.c3 }

-- the luminance of the floor and of a coefficient is finite
floor_luminance : (c : Vec3) → EachAtMost 1 16 c → AtMost 3 16 (luminance_of (scale_v c floor32))
unfolding luminance_of
floor_luminance c h =
    let e = scale_each c floor32 1 16 1 0 (lit< tt) (lit< tt) h floor_small in
    add_at_most _ _ 2 1 16 (lit< tt) (lit< tt) (add_at_most _ _ 1 1 16 (lit< tt) (lit< tt) (mul_at_most _ _ 1 0 1 16 (lit< tt) (lit< tt) red_small e.x) (mul_at_most _ _ 1 0 1 16 (lit< tt) (lit< tt) green_small e.y)) (mul_at_most _ _ 1 0 1 16 (lit< tt) (lit< tt) blue_small e.z)

present_luminance : (c : Vec3) → EachAtMost 2560 79 c → AtMost 7680 79 (luminance_of c)
unfolding luminance_of
present_luminance c e =
    add_at_most _ _ 5120 2560 79 (lit< tt) (lit< tt) (add_at_most _ _ 2560 2560 79 (lit< tt) (lit< tt) (mul_at_most _ _ 1 0 2560 79 (lit< tt) (lit< tt) red_small e.x) (mul_at_most _ _ 1 0 2560 79 (lit< tt) (lit< tt) green_small e.y)) (mul_at_most _ _ 1 0 2560 79 (lit< tt) (lit< tt) blue_small e.z)

-- what is rounded is a number
odd_number : (d : ℕ) (s : Bool) (q k l : ℕ) → is_nan (odd d s q k l) ≡ false
unfolding is_nan odd
odd_number d s zero k l = refl
odd_number d s (suc q) k l = refl

either_number : (b : Bool) (x y : Float) → is_nan x ≡ false → is_nan y ≡ false → is_nan (cond b x y) ≡ false
either_number true x y h g = h
either_number false x y h g = g

inf_number : (s : Bool) → is_nan (inf s) ≡ false
unfolding is_nan
inf_number s = refl

units_number : (s : Bool) (q k : ℕ) → is_nan (units binary32 s q k) ≡ false
unfolding units
units_number s q k = either_number (ltb (q * 2 ^ k) (2 ^ 277)) (odd 25 s q k 149) (inf s) (odd_number 25 s q k 149) (inf_number s)

round_number : (s : Bool) (a c : ℕ) → is_nan (round binary32 s a c) ≡ false
unfolding round
round_number s a c =
    let n = a * 2 ^ 149 in
    let k = size (n / c) - 24 in
    let u = c * 2 ^ k in
    units_number s (nearest (n / u) (compare (n % u * 2) u)) k

-- a quotient of finite numbers whose divisor is above 0 is a number
zero_level : (t : Bool) (d : ℤ) → Ieee.le (fin t 0 d) zero32 ≡ true
unfolding Ieee.le Ieee.lt Ieee.eq of_bits
zero_level true d = rw (zero-mul (up d), zero-mul (down d))
zero_level false d = rw (zero-mul (up d), zero-mul (down d))

nonzero : (t : Bool) (n : ℕ) (d : ℤ) → Ieee.le (fin t n d) zero32 ≡ false → eqb n 0 ≡ false
nonzero t zero d h = absurd (false≢true (sym h ∙ zero_level t d))
nonzero t (suc n) d h = ne_eqb (suc n) 0 (λ e. omega arith)

quotient_number : (x y : Float) → finite x ≡ true → finite y ≡ true → Ieee.le y zero32 ≡ false → is_nan (Ieee.div binary32 x y) ≡ false
unfolding Ieee.div
quotient_number nan y f g h = absurd (false≢true f)
quotient_number (inf s) y f g h = absurd (false≢true f)
quotient_number (fin s m e) nan f g h = absurd (false≢true g)
quotient_number (fin s m e) (inf t) f g h = absurd (false≢true g)
quotient_number (fin s m e) (fin t n d) f g h = rw (nonzero t n d h) (round_number (Ieee.unlike s t) (m * up e * down d) (n * up d * down e))

-- ---- the floor: 5121 · 2^79

shortfall_small : (least present : Float) → finite least ≡ true → finite (Ieee.sub binary32 least present) ≡ true → Ieee.le least zero32 ≡ false
    → AtMost 1 0 (shortfall_of least present)
unfolding shortfall_of
shortfall_small least present f g h = clamp_at_most _ (quotient_number _ least g f h)

blended_each_lem : (c a : Vec3) (t : Float) → EachAtMost 2560 79 c → EachAtMost 1 16 a → AtMost 1 0 t → EachAtMost 5121 79 (blended_v c a t)
unfolding blended_v lerp_v
blended_each_lem c a t h g k =
    let r = sub_at_most one32 t 1 1 0 (lit< tt) (lit< tt) one_at_most k in
    let p = scale_each c _ 2560 79 2 0 (lit< tt) (lit< tt) h r in
    let q = scale_each _ t 1 16 1 0 (lit< tt) (lit< tt) (scale_each a floor32 1 16 1 0 (lit< tt) (lit< tt) g floor_small) k in
    add_each _ _ 5120 1 79 (lit< tt) (lit< tt) p (each_up _ 1 16 1 79 (lit≤ tt) q)

blended_all : (c a : Coefficients) (t : Float) → AllAtMost 2560 79 c → AllAtMost 1 16 a → AtMost 1 0 t → AllAtMost 5121 79 (blended_each c a t)
unfolding blended_each
blended_all c a t h g k =
    record { c0 = blended_each_lem c.c0 a.c0 t h.c0 g.c0 k; c1 = blended_each_lem c.c1 a.c1 t h.c1 g.c1 k; c2 = blended_each_lem c.c2 a.c2 t h.c2 g.c2 k; c3 = blended_each_lem c.c3 a.c3 t h.c3 g.c3 k }

pub floored_all : (c a : Coefficients) → AllAtMost 2560 79 c → AllAtMost 1 16 a → AllAtMost 5121 79 (floored_of c a)
unfolding floored_of
floored_all c a h g = go (Ieee.le least zero32) refl
  where
    least : Float
    least = luminance_of (scale_v a.c0 floor32)

    present : Float
    present = luminance_of c.c0

    kept : AllAtMost 5121 79 c
    kept = all_up c 2560 79 5121 79 (lit≤ tt) h

    go : (b : Bool) → Ieee.le least zero32 ≡ b → AllAtMost 5121 79 (cond b c (cond (Ieee.le least present) c (blended_each c a (shortfall_of least present))))
    go true e = kept
    go false e =
        let l = floor_luminance a.c0 g.c0 in
        let p = present_luminance c.c0 h.c0 in
        let d = sub_at_most least present 1 7680 79 (lit< tt) (lit< tt) (at_most_up least 3 16 1 79 (lit≤ tt) l) p in
        taken_all (Ieee.le least present) c _ 5121 79 kept
        (blended_all c a _ h g (shortfall_small least present (at_most_finite least 3 16 l) (at_most_finite _ 7681 79 d) e))
