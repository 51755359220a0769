-- What the units of a light are: k exactly when k·2^-24 is not above the light and (k + 1)·2^-24 is; at most 2^24, and 2^24 of 1 alone. Assumes nothing.
use Rattle.std.specs.Prelude.{◌≡◌, ℕ, ◌+◌, ◌*◌, ◌/◌, ◌<◌, ◌≤◌, Bool, true, false, ◌&&◌, ◌||◌, ◌↔◌, ℤ, ◌==◌, nat_lt, refl, Float}
use Rattle.std.proofs.Common.{sym, ◌∙◌, ⊎_elim, mul-one, one-mul, mul-le-mul_right, zero-mul, div-mul-le_self, add-mul, eq-or-lt_of_le, arith, ltb-true, eqb-true, eq-eqb, lt-ltb}
use Rattle.std.proofs.lemmas.Bool.{false≢true, not-false}
use Rattle.std.proofs.Math.Bool.{and-eq-true_iff, or-true}
use Rattle.std.proofs.Math.Nat.{zero-div, lt-div-mul-add, div-le_of_le-mul, div-eq_of_lt-le}
use Rattle.std.specs.Float.Ieee.Fits.{down_pos}
use Rattle.std.specs.Float.Ieee as Ieee
use Rattle.std.specs.Float.{nan, inf, fin}
use Rattle.std.specs.Float.Ieee.{up, down}
use Rattle.names.specs.Numbers.{most_units}
use Rattle.names.specs.Bits.{lit, zero32, one32}
use Rattle.limits.specs.Limits.{up_to}
use Rattle.light_units.specs.Units.{units_of, light_outside}

-- ---- rounded down

pub units_down : (s : Bool) (m : ℕ) (e : ℤ)
    → (units_of (fin s m e) * down e ≤ m * up e * most_units) × (m * up e * most_units < (units_of (fin s m e) + 1) * down e)
unfolding units_of
units_down s m e =
    let a : ℕ = m * up e * most_units in
    (div-mul-le_self a (down e), rw (add-mul (a / down e) 1 (down e), one-mul (down e)) (lt-div-mul-add {a = a} (down_pos e)))

-- no other number of units does that
pub units_only : (s : Bool) (m : ℕ) (e : ℤ) (k : ℕ) → k * down e ≤ m * up e * most_units → m * up e * most_units < (k + 1) * down e → units_of (fin s m e) ≡ k
unfolding units_of
units_only s m e k p q = div-eq_of_lt-le (down e) p q

-- ---- which lights are counted

-- finite; from 0 up, or −0; and not above 1
pub data Counted : Float → Type 0 where
  above : {m : ℕ} {e : ℤ} → m * up e ≤ down e → Counted (fin false m e)
  minus_zero : {m : ℕ} {e : ℤ} → m * up e ≡ 0 → Counted (fin true m e)

either_way : (a b : Bool) {P : Type 0} → a || b ≡ true → (a ≡ true → P) → (b ≡ true → P) → P
either_way true b h p q = p refl
either_way false b h p q = q h

pub counted_found : (x : Float) → light_outside x ≡ false → Counted x
unfolding light_outside up_to Ieee.of_bits Ieee.le Ieee.lt Ieee.eq
counted_found nan h = absurd (false≢true (sym h))
counted_found (inf true) h = absurd (false≢true (sym h))
counted_found (inf false) h = absurd (false≢true (sym h))
counted_found (fin true m e) h =
    let p = (and-eq-true_iff (Ieee.le zero32 (fin true m e)) (Ieee.le (fin true m e) one32)).0 (not-false _ h) in
    let q = (and-eq-true_iff (0 * 1 * down e == m * up e * 1) (0 * 1 * down e == 0)).0 p.0 in
    minus_zero (sym (mul-one (m * up e)) ∙ sym (eqb-true _ _ q.0) ∙ zero-mul (down e))
counted_found (fin false m e) h =
    let p = (and-eq-true_iff (Ieee.le zero32 (fin false m e)) (Ieee.le (fin false m e) one32)).0 (not-false _ h) in
    let a : ℕ = m * up e * 1 in
    let b : ℕ = 1 * 1 * down e in
    let le : m * up e ≤ down e = either_way (nat_lt a b) (a == b && true) p.1 (λ t. omega (arith, ltb-true a b t)) (λ t. omega (arith, eqb-true a b ((and-eq-true_iff (a == b) true).0 t).0)) in
    above le

not_above : (a b : ℕ) → a ≤ b → nat_lt a b || (a == b && true) ≡ true
not_above a b h = ⊎_elim (λ e. rw (eq-eqb a b e) (or-true (nat_lt a b))) (λ l. rw (lt-ltb a b l) refl) (eq-or-lt_of_le h)

counted_given : (x : Float) → Counted x → light_outside x ≡ false
unfolding light_outside up_to Ieee.of_bits Ieee.le Ieee.lt Ieee.eq
counted_given _ (above {m} {e} h) = rw (not_above (0 * 1 * down e) (m * up e * 1) (omega (arith, zero-mul (down e))), not_above (m * up e * 1) (1 * 1 * down e) (omega arith)) refl
counted_given _ (minus_zero {m} {e} h) =
    let z : 0 * 1 * down e ≡ m * up e * 1 = omega (arith, zero-mul (down e)) in
    let p : 0 * 1 * down e ≡ 0 = zero-mul (down e) in
    let q : 0 < m * up e * 1 + 1 * 1 * down e = omega (arith, down_pos e) in
    rw (eq-eqb _ _ z, eq-eqb _ _ p, lt-ltb _ _ q) refl

-- exactly these are not outside
pub counted_exactly : (x : Float) → (light_outside x ≡ false) ↔ Counted x
counted_exactly x = (counted_found x, counted_given x)

-- ---- how many

most_of : (x : Float) → Counted x → units_of x ≤ most_units
unfolding units_of
most_of _ (above {m} {e} h) = div-le_of_le-mul (down e) (mul-le-mul_right most_units h)
most_of _ (minus_zero {m} {e} h) = rw (h, zero-div (down e)) (omega arith)

pub units_most : (x : Float) → light_outside x ≡ false → units_of x ≤ most_units
units_most x h = most_of x (counted_found x h)

-- 2^24 is that of 1, and of no other light
pub one_units : units_of one32 ≡ most_units
unfolding units_of Ieee.of_bits
one_units = refl

one_of : (x : Float) → Counted x → units_of x ≡ most_units → Ieee.eq x one32 ≡ true
unfolding Ieee.of_bits Ieee.eq
one_of _ (above {m} {e} h) f =
    let d = (units_down false m e).0 in
    let g : most_units * down e ≤ m * up e * most_units = rw f at d in
    let k : m * up e * 1 ≡ 1 * 1 * down e = omega arith in
    rw (eq-eqb _ _ k) refl
one_of _ (minus_zero {m} {e} h) f =
    let d = (units_down true m e).0 in
    let g : most_units * down e ≤ m * up e * most_units = rw f at d in
    absurd (omega (arith, down_pos e))

pub one_only : (x : Float) → light_outside x ≡ false → units_of x ≡ most_units → Ieee.eq x one32 ≡ true
one_only x h f = one_of x (counted_found x h) f

-- ---- figures: 0 and −0, the least light of all, just below and at one unit, just below 1; above 1 and a negative light are outside

pub units_figures :
    (units_of (lit 0) ≡ 0)
    × (units_of (lit 0x80000000) ≡ 0)
    × (units_of (lit 1) ≡ 0)
    × (units_of (lit 0x337fffff) ≡ 0)
    × (units_of (lit 0x33800000) ≡ 1)
    × (units_of (lit 0x3f7fffff) ≡ 16777215)
unfolding units_of Ieee.of_bits
units_figures = (refl, refl, refl, refl, refl, refl)

pub outside_figures :
    (light_outside (lit 0) ≡ false)
    × (light_outside (lit 0x80000000) ≡ false)
    × (light_outside one32 ≡ false)
    × (light_outside (lit 0x3f800001) ≡ true)
    × (light_outside (lit 0x80000001) ≡ true)
    × (light_outside (lit 0x7fc00000) ≡ true)
unfolding light_outside up_to Ieee.of_bits Ieee.le Ieee.lt Ieee.eq
outside_figures = (refl, refl, refl, refl, refl, refl)
