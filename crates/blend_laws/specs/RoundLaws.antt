-- Rounding keeps the order of fractions with a sign, infinities included, and `le` is the order of the exact values. Assumes nothing.
use Rattle.std.specs.Prelude.{◌≡◌, refl, Bool, true, false, cond, not, ltb, Float}
use Rattle.std.proofs.Common.{sym, ap, ◌∙◌, add_comm, zero-mul, le_of_mul-le-mul_right, mul-le-mul_right, zero-lt-suc, arith, ltb-false, le-ltb}
use Prim.Native.Nat.{ℕ, zero, suc, ◌+◌, ◌-◌, ◌*◌, ◌/◌, ◌%◌, ◌^◌, ◌≤◌, ◌<◌, zero-le, compare}
use Rattle.std.specs.Float.{nan, inf, fin, binary32}
use Rattle.std.specs.Float.Ieee.{up, down, below, round, units, odd, size, climb, span, nearest, neg, lt, eq, le, is_nan}
use Rattle.std.specs.Float.Ieee.Bits.{is_true}
use Rattle.std.specs.Float.Ieee.Fits.{round_is}
use Rattle.std.specs.Float.Ieee.Exact.{HasValue}
use Rattle.std.specs.Float.Ieee.Order.{round_mono}
use Rattle.std.specs.Float.Ieee.Scale.{round_same}
use Rattle.floats.specs.OrderLaws.{le_not_lt, not_lt_le, le_numbers, le_transitive, lt_values}
use Rattle.blend_laws.specs.Signed.{NoMore}

-- ---- `le` by exact values

not_below : (s : Bool) (a : ℕ) (t : Bool) (b : ℕ) → below t b s a ≡ false → NoMore s a t b
not_below false a false b h = omega (arith, ltb-false b a h)
not_below false a true b h = omega (arith, ltb-false 0 (b + a) h)
not_below true a false b h = omega arith
not_below true a true b h = omega (arith, ltb-false a b h)

below_not : (s : Bool) (a : ℕ) (t : Bool) (b : ℕ) → NoMore s a t b → below t b s a ≡ false
below_not false a false b h = le-ltb b a (omega arith)
below_not false a true b h = le-ltb 0 (b + a) (omega arith)
below_not true a false b h = refl
below_not true a true b h = le-ltb a b (omega arith)

value_number : (x : Float) (s : Bool) (a c : ℕ) → HasValue x s a c → is_nan x ≡ false
unfolding is_nan
value_number nan s a c v = absurd v
value_number (inf t) s a c v = absurd v
value_number (fin t m e) s a c v = refl

-- x is ±a / c and y is ±b / d
pub no_more_of_le : (x y : Float) (s t : Bool) (a c b d : ℕ) → 0 < c → 0 < d → HasValue x s a c → HasValue y t b d → le x y ≡ true → NoMore s (a * d) t (b * c)
no_more_of_le x y s t a c b d C D v w h = not_below s (a * d) t (b * c) (sym (lt_values y x t s b d a c D C w v) ∙ le_not_lt x y h)

pub le_of_no_more : (x y : Float) (s t : Bool) (a c b d : ℕ) → 0 < c → 0 < d → HasValue x s a c → HasValue y t b d → NoMore s (a * d) t (b * c) → le x y ≡ true
le_of_no_more x y s t a c b d C D v w h =
    not_lt_le x y (value_number x s a c v) (value_number y t b d w) (lt_values y x t s b d a c D C w v ∙ below_not s (a * d) t (b * c) h)

-- both times k, or both without it
pub no_more_times : (s : Bool) (a : ℕ) (t : Bool) (b k : ℕ) → NoMore s a t b → NoMore s (a * k) t (b * k)
no_more_times false a false b k h = let g : a * k ≤ b * k = mul-le-mul_right k (omega arith) in omega arith
no_more_times false a true b k h =
    let p : a ≡ 0 = omega arith in
    let q : b ≡ 0 = omega arith in
    rw (p, q, zero-mul k) zero-le
no_more_times true a false b k h = omega arith
no_more_times true a true b k h = let g : b * k ≤ a * k = mul-le-mul_right k (omega arith) in omega arith

pub no_more_back : (s : Bool) (a : ℕ) (t : Bool) (b k : ℕ) → 0 < k → NoMore s (a * k) t (b * k) → NoMore s a t b
no_more_back false a false b k K h = let g : a ≤ b = le_of_mul-le-mul_right (omega arith) K in omega arith
no_more_back false a true b k K h =
    let p : a ≤ 0 = le_of_mul-le-mul_right (omega (arith, zero-mul k)) K in
    let q : b ≤ 0 = le_of_mul-le-mul_right (omega (arith, zero-mul k)) K in
    omega arith
no_more_back true a false b k K h = omega arith
no_more_back true a true b k K h = let g : b ≤ a = le_of_mul-le-mul_right (omega arith) K in omega arith

-- ---- turned about zero

below_turned : (s : Bool) (a : ℕ) (t : Bool) (b : ℕ) → below (not t) b (not s) a ≡ below s a t b
below_turned false a false b = refl
below_turned false a true b = refl
below_turned true a false b = ap (λ (z : ℕ). ltb 0 z) (add_comm b a)
below_turned true a true b = refl

lt_turned : (x y : Float) → lt (neg y) (neg x) ≡ lt x y
unfolding lt neg
lt_turned nan nan = refl
lt_turned nan (inf t) = refl
lt_turned nan (fin t n d) = refl
lt_turned (inf s) nan = refl
lt_turned (inf true) (inf true) = refl
lt_turned (inf true) (inf false) = refl
lt_turned (inf false) (inf true) = refl
lt_turned (inf false) (inf false) = refl
lt_turned (inf true) (fin t n d) = refl
lt_turned (inf false) (fin t n d) = refl
lt_turned (fin s m e) nan = refl
lt_turned (fin s m e) (inf true) = refl
lt_turned (fin s m e) (inf false) = refl
lt_turned (fin s m e) (fin t n d) = below_turned s (m * up e * down d) t (n * up d * down e)

turned_number : (x : Float) → is_nan (neg x) ≡ is_nan x
unfolding is_nan neg
turned_number nan = refl
turned_number (inf s) = refl
turned_number (fin s m e) = refl

le_turned : (x y : Float) → le x y ≡ true → le (neg y) (neg x) ≡ true
le_turned x y h =
    let n = le_numbers x y h in
    not_lt_le (neg y) (neg x) (turned_number y ∙ n.1) (turned_number x ∙ n.0) (lt_turned y x ∙ le_not_lt x y h)

odd_turned : (d q k l : ℕ) → neg (odd d false q k l) ≡ odd d true q k l
unfolding neg odd
odd_turned d zero k l = refl
odd_turned d (suc q) k l = refl

units_turned : (q k : ℕ) → neg (units binary32 false q k) ≡ units binary32 true q k
unfolding units neg
units_turned q k = go (ltb (q * 2 ^ k) (2 ^ 277))
  where
    go : (b : Bool) → neg (cond b (odd 25 false q k 149) (inf false)) ≡ cond b (odd 25 true q k 149) (inf true)
    go true = odd_turned 25 q k 149
    go false = refl

pub round_turned : (a c : ℕ) → neg (round binary32 false a c) ≡ round binary32 true a c
round_turned a c =
    let n = a * 2 ^ 149 in
    let k = size (n / c) - 24 in
    let u = c * 2 ^ k in
    ap neg (round_is binary32 false a c) ∙ units_turned (nearest (n / u) (compare (n % u * 2) u)) k ∙ sym (round_is binary32 true a c)

-- ---- rounding keeps the order

unsigned : (a c b d : ℕ) → 0 < c → 0 < d → a * d ≤ b * c → le (round binary32 false a c) (round binary32 false b d) ≡ true
unsigned a c b d C D h = is_true (le (round binary32 false a c) (round binary32 false b d)) (round_mono binary32 a c b d C D h)

negative : (a c b d : ℕ) → 0 < c → 0 < d → b * c ≤ a * d → le (round binary32 true a c) (round binary32 true b d) ≡ true
negative a c b d C D h =
    rw (← round_turned a c, ← round_turned b d) (le_turned (round binary32 false b d) (round binary32 false a c) (unsigned b d a c D C h))

zeros_level : le (round binary32 true 0 1) (round binary32 false 0 1) ≡ true
unfolding round units odd size climb span le lt eq
zeros_level = refl

zeros_level' : le (round binary32 false 0 1) (round binary32 true 0 1) ≡ true
unfolding round units odd size climb span le lt eq
zeros_level' = refl

zero_rounded : (s : Bool) (a c : ℕ) → 0 < c → a ≡ 0 → round binary32 s a c ≡ round binary32 s 0 1
zero_rounded s a c C e = round_same binary32 s a c 0 1 C (zero-lt-suc 0) (rw (e, zero-mul c))

none : (a d : ℕ) → 0 < d → a * d ≡ 0 → a ≡ 0
none a d D h = let g : a ≤ 0 = le_of_mul-le-mul_right (omega (arith, zero-mul d)) D in omega arith

-- ±a / c ≤ ±b / d, so what they round to is in that order
pub round_no_more : (s : Bool) (a c : ℕ) (t : Bool) (b d : ℕ) → 0 < c → 0 < d → NoMore s (a * d) t (b * c) → le (round binary32 s a c) (round binary32 t b d) ≡ true
round_no_more false a c false b d C D h = unsigned a c b d C D (omega arith)
round_no_more true a c true b d C D h = negative a c b d C D (omega arith)
round_no_more true a c false b d C D h =
    le_transitive (round binary32 true a c) (round binary32 true 0 1) (round binary32 false b d) (negative a c 0 1 C (zero-lt-suc 0) (omega (arith, zero-mul c)))
    (le_transitive (round binary32 true 0 1) (round binary32 false 0 1) (round binary32 false b d) zeros_level (unsigned 0 1 b d (zero-lt-suc 0) D (omega (arith, zero-mul d))))
round_no_more false a c true b d C D h =
    let p : a ≡ 0 = none a d D (omega arith) in
    let q : b ≡ 0 = none b c C (omega arith) in
    rw (zero_rounded false a c C p, zero_rounded true b d D q) zeros_level'
