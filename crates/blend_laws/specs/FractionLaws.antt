-- The fraction between two cells, a coordinate less its floor, is a number from 0 to 1 whatever finite number the coordinate is: so every blend of a lookup whose coordinates are finite is one between
-- values, and goes past neither. Assumes nothing.
use Rattle.std.specs.Prelude.{◌≡◌, refl, Bool, true, false, not, ℕ, ◌+◌, ◌*◌, ◌^◌, ◌≤◌, ◌<◌, ℤ, T, Float}
use Rattle.std.proofs.Common.{sym, ap, ◌∙◌, le_trans, le_of_eq, le_of_lt, mul-one, one-mul, zero-mul, mul_comm, mul_right_comm, add-mul, mul-le-mul_right, le_of_mul-le-mul_right, zero-lt-suc, arith}
use Rattle.std.proofs.lemmas.Bool.{false≢true}
use Rattle.std.specs.Float.{nan, inf, fin, binary32}
use Rattle.std.specs.Float.Ieee.{up, down, unlike, fits, round, neg, sub, le, of_bits}
use Rattle.std.specs.Float.Ieee.Fits.{down_pos, sub-fits}
use Rattle.std.specs.Float.Ieee.Exact.{HasValue}
use Rattle.std.specs.Float.Ieee.Scale.{finite}
use Rattle.names.specs.Bits.{one32}
use Rattle.floats.specs.Root.{count}
use Rattle.floats.specs.RootLaws.Units.{count_exact}
use Rattle.floats.specs.Whole.{step, floor_of}
use Rattle.floats.specs.WholeLaws.{step_cut, step_raised, toward_value}
use Rattle.limits.specs.Limits.{up_to}
use Rattle.grid.specs.declared.Axes.{Axes}
use Rattle.lookup.specs.Place.{between_of, cells_from}
use Rattle.centre_laws.specs.Rounding.{add_of}
use Rattle.blend_laws.specs.Signed.{above_zero, below_zero, NoMore}
use Rattle.blend_laws.specs.RoundLaws.{round_no_more}
use Rattle.blend_laws.specs.SignedLaws.{sum_rounded, neg_in_units}
use Rattle.blend_laws.specs.Blendable.{Weight, Weights}
use Rattle.blend_laws.specs.WeightLaws.{unit_pos, zero_rounds}

-- ---- a number from 0 to 1 is rounded to one

one_rounds : round binary32 false 1 1 ≡ one32
unfolding round of_bits
one_rounds = refl

rounded_unit : (r : Bool) (z c : ℕ) → 0 < c → NoMore false 0 r z → NoMore r z false c → up_to one32 (round binary32 r z c) ≡ true
unfolding up_to
rounded_unit r z c C h k =
    let from : le (round binary32 false 0 1) (round binary32 r z c) ≡ true = round_no_more false 0 1 r z c (zero-lt-suc 0) C (rw (zero-mul c, mul-one z) h) in
    let to : le (round binary32 r z c) (round binary32 false 1 1) ≡ true = round_no_more r z c false 1 1 C (zero-lt-suc 0) (rw (mul-one z, one-mul c) k) in
    rw (rw zero_rounds at from, rw one_rounds at to)

-- ---- the floor in units

whole_value : (x : Float) (s : Bool) (n c : ℕ) → HasValue x s n 1 → HasValue x s (n * c) c
whole_value nan s n c v = absurd v
whole_value (inf t) s n c v = absurd v
whole_value (fin t m e) s n c v = (v.0, ap (λ (z : ℕ). z * c) (sym (mul-one (m * up e)) ∙ v.1) ∙ mul_right_comm n (down e) c)

-- a / c is x / u
scaled_up : (n a c x u : ℕ) → 0 < c → a * u ≡ x * c → n * c ≤ a → n * u ≤ x
scaled_up n a c x u C e h = le_of_mul-le-mul_right (le_trans (le_of_eq (mul_right_comm n u c)) (le_trans (mul-le-mul_right u h) (le_of_eq e))) C

scaled_down : (n a c x u : ℕ) → 0 < c → a * u ≡ x * c → a ≤ n * c → x ≤ n * u
scaled_down n a c x u C e h = le_of_mul-le-mul_right (le_trans (le_of_eq (sym e)) (le_trans (mul-le-mul_right u h) (le_of_eq (mul_right_comm n c u)))) C

further : (a c x u : ℕ) → a * u ≡ x * c → (a + c) * u ≡ (x + u) * c
further a c x u e = omega (arith, add-mul a c u, add-mul x u c, mul_comm c u)

-- x is n * u and less than u more, or as much below zero and no further
floor_near : (s : Bool) (m : ℕ) (e : ℤ) (n x u : ℕ) → n ≡ step (unlike s false) (m * up e) (down e) → m * up e * u ≡ x * down e
    → NoMore s (n * u) s x × (above_zero s x + below_zero s (n * u) ≤ u + (above_zero s (n * u) + below_zero s x))
floor_near false m e n x u q v =
    let h = rw (← q) at (step_cut (m * up e) (down e) (down_pos e)) in
    let l = scaled_up n (m * up e) (down e) x u (down_pos e) v h.0 in
    let g = scaled_down (n + 1) (m * up e) (down e) x u (down_pos e) v (le_of_lt h.1) in
    (omega arith, omega (arith, add-mul n 1 u))
floor_near true m e n x u q v =
    let h = rw (← q) at (step_raised (m * up e) (down e) (down_pos e)) in
    let l = scaled_down n (m * up e) (down e) x u (down_pos e) v h.0 in
    let g = scaled_up n (m * up e + down e) (down e) (x + u) u (down_pos e) (further (m * up e) (down e) x u v) (le_of_lt h.1) in
    (omega arith, omega arith)

-- ---- the fraction

difference_unit : (x y : Float) (s : Bool) (a b : ℕ) → HasValue x s a (2 ^ 149) → HasValue y s b (2 ^ 149) → NoMore s b s a → above_zero s a + below_zero s b ≤ 2 ^ 149 + (above_zero s b + below_zero s a)
    → up_to one32 (sub binary32 x y) ≡ true
unfolding sub
difference_unit x y s a b v w h k =
    let r = sum_rounded s a (not s) b (2 ^ 149) in
    rw (add_of x (neg y) s (not s) a b (2 ^ 149) unit_pos v (neg_in_units (2 ^ 149) unit_pos y s b w) ∙ r.same)
    (rounded_unit r.negative r.size (2 ^ 149) unit_pos (from s r.negative r.size h r.net) (to s r.negative r.size (2 ^ 149) k r.net))
  where
    from : (s r : Bool) (z : ℕ) → NoMore s b s a → above_zero r z + (below_zero s a + below_zero (not s) b) ≡ below_zero r z + (above_zero s a + above_zero (not s) b) → NoMore false 0 r z
    from false r z h n = omega arith
    from true r z h n = omega arith

    to : (s r : Bool) (z u : ℕ) → above_zero s a + below_zero s b ≤ u + (above_zero s b + below_zero s a) → above_zero r z + (below_zero s a + below_zero (not s) b) ≡ below_zero r z + (above_zero s a + above_zero (not s) b)
        → NoMore r z false u
    to false r z u k n = omega arith
    to true r z u k n = omega arith

fraction_unit : (x : Float) → T (fits binary32 x) → finite x ≡ true → up_to one32 (sub binary32 x (floor_of x)) ≡ true
fraction_unit nan f h = absurd (false≢true h)
fraction_unit (inf s) f h = absurd (false≢true h)
fraction_unit (fin s m e) f h =
    let u = count_exact s m e f in
    let n = step (unlike s false) (m * up e) (down e) in
    let g = floor_near s m e n (count m e) (2 ^ 149) refl u.1 in
    difference_unit (fin s m e) (floor_of (fin s m e)) s (count m e) (n * 2 ^ 149) u (whole_value (floor_of (fin s m e)) s n (2 ^ 149) (toward_value false s m e f)) g.0 g.1

-- a coordinate less its floor
pub fraction_weight : (x : Float) → T (fits binary32 x) → finite x ≡ true → Weight (sub binary32 x (floor_of x))
fraction_weight x f h = record { fit = sub-fits binary32 x (floor_of x); from_to = fraction_unit x f h }

-- the three of a position, by its three coordinates
pub cells_weights : (a : Axes) (l m n : ℕ) (x y z : Float) → T (fits binary32 x) → T (fits binary32 y) → T (fits binary32 z) → finite x ≡ true → finite y ≡ true → finite z ≡ true
    → Weights (cells_from a (between_of l x) (between_of m y) (between_of n z))
unfolding cells_from between_of
cells_weights a l m n x y z f g h p q r = record { x = fraction_weight x f p; y = fraction_weight y g q; z = fraction_weight z h r }
