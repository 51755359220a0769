-- A transmittance lies from 0 to 1. That a hit that stops light leaves nothing is `opaque_dark` of scan.
use Rattle.std.specs.Prelude.{◌≡◌, refl, Bool, true, false, cond, ◌||◌, ◌&&◌, List, [], ◌∷◌, ℕ, zero, suc, ◌+◌, ◌*◌, ◌≤◌, ◌<◌, T, ltb, eqb, ℤ, length, get_or, Float}
use Rattle.std.proofs.Common.{sym, ap, ◌∙◌, suc-le-suc, zero-le, mul-le-mul, mul-one, one-mul, zero-mul, mul-zero, mul-pos, arith, ltb-true, eqb-true}
use Rattle.std.proofs.lemmas.Bool.{false≢true}
use Rattle.std.proofs.Math.Bool.{and-eq-true_iff}
use Rattle.std.specs.Float.{nan, inf, fin, binary32}
use Rattle.std.specs.Float.Ieee.{of_bits, up, down, round, units, odd, size, climb, span, lt, eq, le, mul}
use Rattle.std.specs.Float.Ieee.Fits.{up_pos, down_pos}
use Rattle.std.specs.Float.Ieee.Order.{round_mono}
use Rattle.std.specs.Float.Ieee.Scale.{round_same}
use Rattle.names.specs.Bits.{zero32, one32}
use Rattle.names.specs.Numbers.{faint_limit}
use Rattle.names.specs.Scene.{Scene, Sound}
use Rattle.vectors.specs.declared.Ray.{Ray}
use Rattle.limits.specs.Limits.{up_to, bad_numbers}
use Rattle.limits.specs.LimitsLaws.{transmission_within}
use Rattle.hits.specs.Hits.{hits_of, places_of}
use Rattle.hits.proofs.HitLaws.{places_below}
use Rattle.panels.specs.Panels.{kind_at, stops_light}
use Rattle.scan.specs.Transmittance.{transmission_at, pass_of, transmittance_of}

-- a number from 0 to 1: +a / p with a at most p, or −0
data Unitary : Float → Type 0 where
  plus : (m : ℕ) (e : ℤ) → m * up e ≤ down e → Unitary (fin false m e)
  nought : (e : ℤ) → Unitary (fin true zero e)

most : (a b : ℕ) (c : Bool) → ltb a b || (eqb a b && c) ≡ true → a ≤ b
most a b c h = by (ltb a b) refl h
  where
    by : (x : Bool) → ltb a b ≡ x → x || (eqb a b && c) ≡ true → a ≤ b
    by true e g = omega (arith, ltb-true a b e)
    by false e g = omega (arith, eqb-true a b ((and-eq-true_iff (eqb a b) c).0 g).0)

unitary : (x : Float) → up_to one32 x ≡ true → Unitary x
unfolding up_to of_bits le lt eq
unitary nan h = absurd (false≢true h)
unitary (inf true) h = absurd (false≢true h)
unitary (inf false) h = absurd (false≢true h)
unitary (fin true zero e) h = nought e
unitary (fin true (suc m) e) h =
    let f : le zero32 (fin true (suc m) e) ≡ true = ((and-eq-true_iff (le zero32 (fin true (suc m) e)) (le (fin true (suc m) e) one32)).0 h).0 in
    let z : 0 * down e ≡ suc m * up e * 1 = eqb-true (0 * down e) (suc m * up e * 1) ((and-eq-true_iff (eqb (0 * down e) (suc m * up e * 1)) (eqb (0 * down e) 0)).0 f).0 in
    let y : suc m * up e * 1 ≡ suc m * up e = mul-one (suc m * up e) in
    let w : 0 * down e ≡ 0 = zero-mul (down e) in
    absurd (omega (arith, mul-pos {m = suc m} {n = up e} (suc-le-suc zero-le) (up_pos e)))
unitary (fin false m e) h =
    let f : le (fin false m e) one32 ≡ true = ((and-eq-true_iff (le zero32 (fin false m e)) (le (fin false m e) one32)).0 h).1 in
    let g : m * up e * 1 ≤ 1 * down e = most (m * up e * 1) (1 * down e) true f in
    let y : m * up e * 1 ≡ m * up e = mul-one (m * up e) in
    let z : 1 * down e ≡ down e = one-mul (down e) in
    plus m e (omega arith)

nothing_rounded : round binary32 false 0 1 ≡ zero32
unfolding round units odd size climb span of_bits
nothing_rounded = refl

one_rounded : round binary32 false 1 1 ≡ one32
unfolding round units odd size climb span of_bits
one_rounded = refl

-- T of a test is that it is true
holds : (b : Bool) → T b → b ≡ true
holds true t = refl
holds false t = absurd t

-- a fraction from 0 to 1 is rounded to a number from 0 to 1
rounded_within : (a c : ℕ) → 0 < c → a ≤ c → up_to one32 (round binary32 false a c) ≡ true
unfolding up_to of_bits
rounded_within a c C h =
    let low : le (round binary32 false 0 1) (round binary32 false a c) ≡ true = holds _ (round_mono binary32 0 1 a c (suc-le-suc zero-le) C (omega (arith, zero-mul c))) in
    let high : le (round binary32 false a c) (round binary32 false 1 1) ≡ true = holds _ (round_mono binary32 a c 1 1 C (suc-le-suc zero-le) (omega (arith, mul-one a, one-mul c))) in
    let zeroes : round binary32 false 0 1 ≡ zero32 = nothing_rounded in
    let ones : round binary32 false 1 1 ≡ one32 = one_rounded in
    both (rw zeroes at low) (rw ones at high)
  where
    both : le zero32 (round binary32 false a c) ≡ true → le (round binary32 false a c) one32 ≡ true
        → le zero32 (round binary32 false a c) && le (round binary32 false a c) one32 ≡ true
    both p q = rw p q

-- and a zero, of either sign, to a zero
zero_signed : (s : Bool) → up_to one32 (round binary32 s 0 1) ≡ true
unfolding up_to round units odd size climb span of_bits le lt eq
zero_signed true = refl
zero_signed false = refl

zero_within : (s : Bool) (a c : ℕ) → 0 < c → a ≡ 0 → up_to one32 (round binary32 s a c) ≡ true
zero_within s a c C e =
    rw (e, round_same binary32 s 0 c 0 1 C (suc-le-suc zero-le) (zero-mul 1 ∙ sym (zero-mul c))) (zero_signed s)

unitary_product : {x y : Float} → Unitary x → Unitary y → up_to one32 (mul binary32 x y) ≡ true
unfolding mul
unitary_product (plus m e f) (plus n d g) =
    rounded_within (m * up e * (n * up d)) (down e * down d) (mul-pos (down_pos e) (down_pos d)) (mul-le-mul f g)
unitary_product (plus m e f) (nought d) =
    zero_within true (m * up e * (0 * up d)) (down e * down d) (mul-pos (down_pos e) (down_pos d)) (ap (λ (k : ℕ). m * up e * k) (zero-mul (up d)) ∙ mul-zero (m * up e))
unitary_product (nought e) (plus n d g) =
    zero_within true (0 * up e * (n * up d)) (down e * down d) (mul-pos (down_pos e) (down_pos d)) (ap (λ (k : ℕ). k * (n * up d)) (zero-mul (up e)) ∙ zero-mul (n * up d))
unitary_product (nought e) (nought d) =
    zero_within false (0 * up e * (0 * up d)) (down e * down d) (mul-pos (down_pos e) (down_pos d)) (ap (λ (k : ℕ). k * (0 * up d)) (zero-mul (up e)) ∙ zero-mul (0 * up d))

-- the product of two numbers from 0 to 1
pub product_within : (x y : Float) → up_to one32 x ≡ true → up_to one32 y ≡ true → up_to one32 (mul binary32 x y) ≡ true
product_within x y h k = unitary_product (unitary x h) (unitary y k)

pub zero_is_within : up_to one32 zero32 ≡ true
unfolding up_to of_bits le lt eq
zero_is_within = refl

pub one_is_within : up_to one32 one32 ≡ true
unfolding up_to of_bits le lt eq
one_is_within = refl

pub pass_within : (uses kinds : List ℕ) (numbers : List Float) (w : Float) (is : List ℕ) → up_to one32 w ≡ true
    → ((j : ℕ) → j < length is → up_to one32 (transmission_at uses numbers (get_or is j 0)) ≡ true) → up_to one32 (pass_of uses kinds numbers w is) ≡ true
unfolding pass_of
pass_within uses kinds numbers w [] h t = h
pass_within uses kinds numbers w (i ∷ is) h t =
    let x = mul binary32 w (transmission_at uses numbers i) in
    by (stops_light (kind_at uses kinds i)) (le x faint_limit) _
    (pass_within uses kinds numbers x is (product_within w _ h (t 0 (suc-le-suc zero-le))) (λ j l. t (suc j) (suc-le-suc l)))
  where
    by : (a b : Bool) (y : Float) → up_to one32 y ≡ true → up_to one32 (cond a zero32 (cond b zero32 y)) ≡ true
    by true b y r = zero_is_within
    by false true y r = zero_is_within
    by false false y r = r

-- a transmittance lies from 0 to 1, where the materials' numbers are accepted
pub transmittance_within : (scene : Scene) (ray : Ray) → Sound scene → bad_numbers scene.numbers ≡ false → up_to one32 (transmittance_of scene ray) ≡ true
unfolding transmittance_of
transmittance_within scene ray s b =
    pass_within scene.uses scene.kinds scene.numbers one32 _ one_is_within
    (λ j l.
    let p = places_below scene ray (length scene.uses) j l in
    let i = get_or (places_of (hits_of scene ray (length scene.uses))) j 0 in
    let u = get_or scene.uses i 0 in
    transmission_within scene.numbers b (u * 7 + 6) (omega (arith, s.within i p, s.numbers)) (omega arith))
