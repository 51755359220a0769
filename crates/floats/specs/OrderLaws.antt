-- The order of floats, as IEEE 754's comparisons have it: `lt` is a strict order of all that is not NaN, infinities included, and tells any two unequal ones apart.
-- Beside NaN every comparison is false, so that what only leads from one `lt` to another holds of NaN too. And `lt` goes by the exact values. Assumes nothing.
use Rattle.std.specs.Prelude.{◌≡◌, refl, ◌⊎◌, ℕ, ◌+◌, ◌*◌, ◌<◌, Bool, true, false, ◌&&◌, ◌||◌, ℤ, ltb, eqb, Float}
use Rattle.std.proofs.Math.Path.{sym, ap}
use Rattle.std.proofs.Common.{◌∙◌, inl, inr, mul_comm, mul_right_comm, mul-pos, add-mul, zero-mul, mul-lt-mul_of_pos_right, lt_of_mul-lt-mul_right, arith, ltb-true, ltb-false, lt-ltb, le-ltb, eq-eqb, eqb-true}
use Rattle.std.specs.Bool.{beq}
use Rattle.std.proofs.lemmas.Bool.{false≢true}
use Rattle.std.proofs.Math.Bool.{and-eq-true_iff}
use Rattle.std.proofs.Math.Nat.{mul-mul-mul_comm}
use Rattle.std.specs.Float.{nan, inf, fin}
use Rattle.std.specs.Float.Ieee.{up, down, below, level, lt, eq, le, is_nan}
use Rattle.std.specs.Float.Ieee.Fits.{down_pos}
use Rattle.std.specs.Float.Ieee.Exact.{HasValue}

-- ---- signed whole numbers

same_bool : (p q : Bool) → (p ≡ true → q ≡ true) → (q ≡ true → p ≡ true) → p ≡ q
same_bool true q f g = sym (f refl)
same_bool false true f g = g refl
same_bool false false f g = refl

or-true : (p q : Bool) → (p || q) ≡ true → (p ≡ true) ⊎ (q ≡ true)
or-true true q h = inl refl
or-true false q h = inr h

or_right : (p q : Bool) → q ≡ true → (p || q) ≡ true
or_right true q h = refl
or_right false q h = h

ltb_scaled : (a b k : ℕ) → 0 < k → ltb (a * k) (b * k) ≡ ltb a b
ltb_scaled a b k p =
    same_bool (ltb (a * k) (b * k)) (ltb a b) (λ h. lt-ltb a b (lt_of_mul-lt-mul_right k (ltb-true (a * k) (b * k) h))) (λ h. lt-ltb (a * k) (b * k) (mul-lt-mul_of_pos_right (ltb-true a b h) p))

-- both sides times k
below_scaled : (s : Bool) (a : ℕ) (t : Bool) (b k : ℕ) → 0 < k → below s (a * k) t (b * k) ≡ below s a t b
below_scaled false a false b k p = ltb_scaled a b k p
below_scaled false a true b k p = refl
below_scaled true a false b k p = ap (λ (z : ℕ). ltb 0 z) (sym (add-mul a b k)) ∙ ap (λ (z : ℕ). ltb z ((a + b) * k)) (sym (zero-mul k)) ∙ ltb_scaled 0 (a + b) k p
below_scaled true a true b k p = ltb_scaled b a k p

below_asym : (s : Bool) (a : ℕ) (t : Bool) (b : ℕ) → below s a t b ≡ true → below t b s a ≡ false
below_asym false a false b h = le-ltb b a (omega (arith, ltb-true a b h))
below_asym false a true b h = absurd (false≢true h)
below_asym true a false b h = refl
below_asym true a true b h = le-ltb a b (omega (arith, ltb-true b a h))

below_trans : (s : Bool) (a : ℕ) (t : Bool) (b : ℕ) (u : Bool) (c : ℕ) → below s a t b ≡ true → below t b u c ≡ true → below s a u c ≡ true
below_trans false a false b false c h k = lt-ltb a c (omega (arith, ltb-true a b h, ltb-true b c k))
below_trans false a false b true c h k = absurd (false≢true k)
below_trans false a true b u c h k = absurd (false≢true h)
below_trans true a false b false c h k = lt-ltb 0 (a + c) (omega (arith, ltb-true b c k))
below_trans true a false b true c h k = absurd (false≢true k)
below_trans true a true b false c h k = lt-ltb 0 (a + c) (omega (arith, ltb-true b a h))
below_trans true a true b true c h k = lt-ltb c a (omega (arith, ltb-true b a h, ltb-true c b k))

below_not_trans : (s : Bool) (a : ℕ) (t : Bool) (b : ℕ) (u : Bool) (c : ℕ) → below s a t b ≡ false → below t b u c ≡ false → below s a u c ≡ false
below_not_trans false a false b false c h k = le-ltb a c (omega (arith, ltb-false a b h, ltb-false b c k))
below_not_trans false a t b true c h k = refl
below_not_trans false a true b false c h k = le-ltb a c (omega (arith, ltb-false 0 (b + c) k))
below_not_trans true a false b false c h k = le-ltb 0 (a + c) (omega (arith, ltb-false 0 (a + b) h, ltb-false b c k))
below_not_trans true a false b true c h k = le-ltb c a (omega (arith, ltb-false 0 (a + b) h))
below_not_trans true a true b false c h k = le-ltb 0 (a + c) (omega (arith, ltb-false b a h, ltb-false 0 (b + c) k))
below_not_trans true a true b true c h k = le-ltb c a (omega (arith, ltb-false b a h, ltb-false c b k))

below_level : (s : Bool) (a : ℕ) (t : Bool) (b : ℕ) → below s a t b ≡ false → below t b s a ≡ false → level s a t b ≡ true
below_level false a false b h k = rw (eq-eqb a b (omega (arith, ltb-false a b h, ltb-false b a k)))
below_level true a true b h k = rw (eq-eqb a b (omega (arith, ltb-false b a h, ltb-false a b k)))
below_level false a true b h k =
    let z : a ≡ 0 = omega (arith, ltb-false 0 (b + a) k) in
    let e : a ≡ b = omega (arith, ltb-false 0 (b + a) k) in
    rw (eq-eqb a b e, eq-eqb a 0 z)
below_level true a false b h k =
    let z : a ≡ 0 = omega (arith, ltb-false 0 (a + b) h) in
    let e : a ≡ b = omega (arith, ltb-false 0 (a + b) h) in
    rw (eq-eqb a b e, eq-eqb a 0 z)

level_not_below : (s : Bool) (a : ℕ) (t : Bool) (b : ℕ) → level s a t b ≡ true → below s a t b ≡ false
level_not_below false a false b h = le-ltb a b (omega (arith, eqb-true a b ((and-eq-true_iff (eqb a b) true).0 h).0))
level_not_below true a true b h = le-ltb b a (omega (arith, eqb-true a b ((and-eq-true_iff (eqb a b) true).0 h).0))
level_not_below false a true b h = refl
level_not_below true a false b h =
    let p = (and-eq-true_iff (eqb a b) (eqb a 0)).0 h in
    le-ltb 0 (a + b) (omega (arith, eqb-true a b p.0, eqb-true a 0 p.1))

level_swapped : (s : Bool) (a : ℕ) (t : Bool) (b : ℕ) → level s a t b ≡ true → level t b s a ≡ true
level_swapped s a t b h =
    let p = (and-eq-true_iff (eqb a b) (beq s t || eqb a 0)).0 h in
    let e = eqb-true a b p.0 in
    ap (λ (z : Bool). z && (beq t s || eqb b 0)) (eq-eqb b a (sym e)) ∙ ap (λ (z : Bool). z || eqb b 0) (beq_swapped t s) ∙ ap (λ (z : ℕ). beq s t || eqb z 0) (sym e) ∙ p.1
  where
    beq_swapped : (s t : Bool) → beq s t ≡ beq t s
    beq_swapped true true = refl
    beq_swapped true false = refl
    beq_swapped false true = refl
    beq_swapped false false = refl

-- ---- three finite numbers over one denominator
module _ (s : Bool) (m : ℕ) (e : ℤ) (t : Bool) (n : ℕ) (d : ℤ) (u : Bool) (l : ℕ) (g : ℤ) where
  over_first : below t (n * up d * down g * down e) u (l * up g * down d * down e) ≡ below t (n * up d * down g) u (l * up g * down d)
  over_first = below_scaled t (n * up d * down g) u (l * up g * down d) (down e) (down_pos e)

  over_second : below s (m * up e * down g * down d) u (l * up g * down e * down d) ≡ below s (m * up e * down g) u (l * up g * down e)
  over_second = below_scaled s (m * up e * down g) u (l * up g * down e) (down d) (down_pos d)

  over_third : below s (m * up e * down d * down g) t (n * up d * down e * down g) ≡ below s (m * up e * down d) t (n * up d * down e)
  over_third = below_scaled s (m * up e * down d) t (n * up d * down e) (down g) (down_pos g)

  fin_trans : lt (fin s m e) (fin t n d) ≡ true → lt (fin t n d) (fin u l g) ≡ true → lt (fin s m e) (fin u l g) ≡ true
  unfolding lt
  fin_trans h k =
      sym over_second ∙ ap (λ (z : ℕ). below s z u (l * up g * down e * down d)) (mul_right_comm (m * up e) (down g) (down d)) ∙ ap (λ (z : ℕ). below s (m * up e * down d * down g) u z) (mul_right_comm (l * up g) (down e) (down d))
      ∙ below_trans s (m * up e * down d * down g) t (n * up d * down e * down g) u (l * up g * down d * down e) (over_third ∙ h)
      (ap (λ (z : ℕ). below t z u (l * up g * down d * down e)) (mul_right_comm (n * up d) (down e) (down g)) ∙ over_first ∙ k)

  fin_not_trans : lt (fin s m e) (fin t n d) ≡ false → lt (fin t n d) (fin u l g) ≡ false → lt (fin s m e) (fin u l g) ≡ false
  unfolding lt
  fin_not_trans h k =
      sym over_second ∙ ap (λ (z : ℕ). below s z u (l * up g * down e * down d)) (mul_right_comm (m * up e) (down g) (down d)) ∙ ap (λ (z : ℕ). below s (m * up e * down d * down g) u z) (mul_right_comm (l * up g) (down e) (down d))
      ∙ below_not_trans s (m * up e * down d * down g) t (n * up d * down e * down g) u (l * up g * down d * down e) (over_third ∙ h)
      (ap (λ (z : ℕ). below t z u (l * up g * down d * down e)) (mul_right_comm (n * up d) (down e) (down g)) ∙ over_first ∙ k)

-- ---- the laws

-- x < y, so not y < x
pub lt_asymmetric : (x y : Float) → lt x y ≡ true → lt y x ≡ false
unfolding lt
lt_asymmetric nan y h = absurd (false≢true h)
lt_asymmetric (inf s) nan h = absurd (false≢true h)
lt_asymmetric (inf true) (inf true) h = absurd (false≢true h)
lt_asymmetric (inf true) (inf false) h = refl
lt_asymmetric (inf false) (inf t) h = absurd (false≢true h)
lt_asymmetric (inf true) (fin t n d) h = refl
lt_asymmetric (inf false) (fin t n d) h = absurd (false≢true h)
lt_asymmetric (fin s m e) nan h = absurd (false≢true h)
lt_asymmetric (fin s m e) (inf true) h = absurd (false≢true h)
lt_asymmetric (fin s m e) (inf false) h = refl
lt_asymmetric (fin s m e) (fin t n d) h = below_asym s (m * up e * down d) t (n * up d * down e) h

-- no number is below itself
pub lt_irreflexive : (x : Float) → lt x x ≡ false
lt_irreflexive x = go (lt x x) refl
  where
    go : (b : Bool) → lt x x ≡ b → lt x x ≡ false
    go true h = lt_asymmetric x x h
    go false h = h

-- x < y and y < z, so x < z
pub lt_transitive : (x y z : Float) → lt x y ≡ true → lt y z ≡ true → lt x z ≡ true
unfolding lt
lt_transitive nan y z h k = absurd (false≢true h)
lt_transitive (inf s) nan z h k = absurd (false≢true h)
lt_transitive (inf false) (inf t) z h k = absurd (false≢true h)
lt_transitive (inf true) (inf true) z h k = absurd (false≢true h)
lt_transitive (inf true) (inf false) nan h k = absurd (false≢true k)
lt_transitive (inf true) (inf false) (inf u) h k = absurd (false≢true k)
lt_transitive (inf true) (inf false) (fin u l g) h k = refl
lt_transitive (inf false) (fin t n d) z h k = absurd (false≢true h)
lt_transitive (inf true) (fin t n d) nan h k = absurd (false≢true k)
lt_transitive (inf true) (fin t n d) (inf true) h k = absurd (false≢true k)
lt_transitive (inf true) (fin t n d) (inf false) h k = refl
lt_transitive (inf true) (fin t n d) (fin u l g) h k = refl
lt_transitive (fin s m e) nan z h k = absurd (false≢true h)
lt_transitive (fin s m e) (inf true) z h k = absurd (false≢true h)
lt_transitive (fin s m e) (inf false) nan h k = absurd (false≢true k)
lt_transitive (fin s m e) (inf false) (inf u) h k = absurd (false≢true k)
lt_transitive (fin s m e) (inf false) (fin u l g) h k = absurd (false≢true k)
lt_transitive (fin s m e) (fin t n d) nan h k = absurd (false≢true k)
lt_transitive (fin s m e) (fin t n d) (inf true) h k = absurd (false≢true k)
lt_transitive (fin s m e) (fin t n d) (inf false) h k = refl
lt_transitive (fin s m e) (fin t n d) (fin u l g) h k = fin_trans s m e t n d u l g h k

-- nothing is above the upper infinity
inf_not_lt : (z : Float) → lt (inf false) z ≡ false
unfolding lt
inf_not_lt nan = refl
inf_not_lt (inf u) = refl
inf_not_lt (fin u l g) = refl

-- neither x < y nor y < z, so not x < z, where y is not NaN
pub lt_negatively_transitive : (x y z : Float) → is_nan y ≡ false → lt x y ≡ false → lt y z ≡ false → lt x z ≡ false
unfolding lt is_nan
lt_negatively_transitive nan y z o h k = refl
lt_negatively_transitive (inf false) y z o h k = inf_not_lt z
lt_negatively_transitive (inf true) nan z o h k = absurd (false≢true (sym o))
lt_negatively_transitive (inf true) (inf true) z o h k = k
lt_negatively_transitive (inf true) (inf false) z o h k = absurd (false≢true (sym h))
lt_negatively_transitive (inf true) (fin t n d) z o h k = absurd (false≢true (sym h))
lt_negatively_transitive (fin s m e) nan z o h k = absurd (false≢true (sym o))
lt_negatively_transitive (fin s m e) (inf false) z o h k = absurd (false≢true (sym h))
lt_negatively_transitive (fin s m e) (inf true) nan o h k = refl
lt_negatively_transitive (fin s m e) (inf true) (inf true) o h k = refl
lt_negatively_transitive (fin s m e) (inf true) (inf false) o h k = absurd (false≢true (sym k))
lt_negatively_transitive (fin s m e) (inf true) (fin u l g) o h k = absurd (false≢true (sym k))
lt_negatively_transitive (fin s m e) (fin t n d) nan o h k = refl
lt_negatively_transitive (fin s m e) (fin t n d) (inf true) o h k = refl
lt_negatively_transitive (fin s m e) (fin t n d) (inf false) o h k = absurd (false≢true (sym k))
lt_negatively_transitive (fin s m e) (fin t n d) (fin u l g) o h k = fin_not_trans s m e t n d u l g h k

-- neither is below the other, so they are equal, where neither is NaN
pub lt_tells_apart : (x y : Float) → is_nan x ≡ false → is_nan y ≡ false → lt x y ≡ false → lt y x ≡ false → eq x y ≡ true
unfolding lt eq is_nan
lt_tells_apart nan y o p h k = absurd (false≢true (sym o))
lt_tells_apart (inf s) nan o p h k = absurd (false≢true (sym p))
lt_tells_apart (inf true) (inf true) o p h k = refl
lt_tells_apart (inf true) (inf false) o p h k = absurd (false≢true (sym h))
lt_tells_apart (inf false) (inf true) o p h k = absurd (false≢true (sym k))
lt_tells_apart (inf false) (inf false) o p h k = refl
lt_tells_apart (inf true) (fin t n d) o p h k = absurd (false≢true (sym h))
lt_tells_apart (inf false) (fin t n d) o p h k = absurd (false≢true (sym k))
lt_tells_apart (fin s m e) nan o p h k = absurd (false≢true (sym p))
lt_tells_apart (fin s m e) (inf true) o p h k = absurd (false≢true (sym k))
lt_tells_apart (fin s m e) (inf false) o p h k = absurd (false≢true (sym h))
lt_tells_apart (fin s m e) (fin t n d) o p h k = below_level s (m * up e * down d) t (n * up d * down e) h k

-- ---- `eq` and `le`

pub eq_symmetric : (x y : Float) → eq x y ≡ true → eq y x ≡ true
unfolding eq
eq_symmetric nan y h = absurd (false≢true h)
eq_symmetric (inf s) nan h = absurd (false≢true h)
eq_symmetric (inf true) (inf true) h = refl
eq_symmetric (inf true) (inf false) h = absurd (false≢true h)
eq_symmetric (inf false) (inf true) h = absurd (false≢true h)
eq_symmetric (inf false) (inf false) h = refl
eq_symmetric (inf s) (fin t n d) h = absurd (false≢true h)
eq_symmetric (fin s m e) nan h = absurd (false≢true h)
eq_symmetric (fin s m e) (inf t) h = absurd (false≢true h)
eq_symmetric (fin s m e) (fin t n d) h = level_swapped s (m * up e * down d) t (n * up d * down e) h

-- equal numbers: neither is below the other
pub eq_not_lt : (x y : Float) → eq x y ≡ true → lt x y ≡ false
unfolding eq lt
eq_not_lt nan y h = refl
eq_not_lt (inf s) nan h = refl
eq_not_lt (inf true) (inf true) h = refl
eq_not_lt (inf true) (inf false) h = absurd (false≢true h)
eq_not_lt (inf false) (inf t) h = refl
eq_not_lt (inf s) (fin t n d) h = absurd (false≢true h)
eq_not_lt (fin s m e) nan h = refl
eq_not_lt (fin s m e) (inf t) h = absurd (false≢true h)
eq_not_lt (fin s m e) (fin t n d) h = level_not_below s (m * up e * down d) t (n * up d * down e) h

-- what a comparison that holds compares is not NaN
pub lt_numbers : (x y : Float) → lt x y ≡ true → (is_nan x ≡ false) × (is_nan y ≡ false)
unfolding lt is_nan
lt_numbers nan y h = absurd (false≢true h)
lt_numbers (inf s) nan h = absurd (false≢true h)
lt_numbers (inf s) (inf t) h = (refl, refl)
lt_numbers (inf s) (fin t n d) h = (refl, refl)
lt_numbers (fin s m e) nan h = absurd (false≢true h)
lt_numbers (fin s m e) (inf t) h = (refl, refl)
lt_numbers (fin s m e) (fin t n d) h = (refl, refl)

pub eq_numbers : (x y : Float) → eq x y ≡ true → (is_nan x ≡ false) × (is_nan y ≡ false)
unfolding eq is_nan
eq_numbers nan y h = absurd (false≢true h)
eq_numbers (inf s) nan h = absurd (false≢true h)
eq_numbers (inf s) (inf t) h = (refl, refl)
eq_numbers (inf s) (fin t n d) h = (refl, refl)
eq_numbers (fin s m e) nan h = absurd (false≢true h)
eq_numbers (fin s m e) (inf t) h = (refl, refl)
eq_numbers (fin s m e) (fin t n d) h = (refl, refl)

pub le_numbers : (x y : Float) → le x y ≡ true → (is_nan x ≡ false) × (is_nan y ≡ false)
unfolding le
le_numbers x y h = elim (or-true (lt x y) (eq x y) h) [ inl l ↦ lt_numbers x y l | inr e ↦ eq_numbers x y e ]

-- x ≤ y is that y is not below x, where neither is NaN
pub le_not_lt : (x y : Float) → le x y ≡ true → lt y x ≡ false
unfolding le
le_not_lt x y h = elim (or-true (lt x y) (eq x y) h) [ inl l ↦ lt_asymmetric x y l | inr e ↦ eq_not_lt y x (eq_symmetric x y e) ]

pub not_lt_le : (x y : Float) → is_nan x ≡ false → is_nan y ≡ false → lt y x ≡ false → le x y ≡ true
unfolding le
not_lt_le x y o p h = go (lt x y) refl
  where
    go : (b : Bool) → lt x y ≡ b → (lt x y || eq x y) ≡ true
    go true e = ap (λ (z : Bool). z || eq x y) e
    go false e = or_right (lt x y) (eq x y) (lt_tells_apart x y o p e h)

pub lt_le : (x y : Float) → lt x y ≡ true → le x y ≡ true
unfolding le
lt_le x y h = ap (λ (z : Bool). z || eq x y) h

pub le_transitive : (x y z : Float) → le x y ≡ true → le y z ≡ true → le x z ≡ true
le_transitive x y z h k =
    let p = le_numbers x y h in
    let q = le_numbers y z k in
    not_lt_le x z p.0 q.1 (lt_negatively_transitive z y x p.1 (le_not_lt y z k) (le_not_lt x y h))

pub lt_le_transitive : (x y z : Float) → lt x y ≡ true → le y z ≡ true → lt x z ≡ true
lt_le_transitive x y z h k = go (lt x z) refl
  where
    go : (b : Bool) → lt x z ≡ b → lt x z ≡ true
    go true e = e
    go false e =
        let q = le_numbers y z k in
        absurd (false≢true (sym (lt_negatively_transitive x z y q.1 e (le_not_lt y z k)) ∙ h))

pub le_lt_transitive : (x y z : Float) → le x y ≡ true → lt y z ≡ true → lt x z ≡ true
le_lt_transitive x y z h k = go (lt x z) refl
  where
    go : (b : Bool) → lt x z ≡ b → lt x z ≡ true
    go true e = e
    go false e =
        let p = le_numbers x y h in
        absurd (false≢true (sym (lt_negatively_transitive y x z p.0 (le_not_lt x y h) e) ∙ k))

-- ---- by exact values

-- numbers that are a / c and b / d in size compare as a * d and b * c do
pub lt_values : (x y : Float) (s t : Bool) (a c b d : ℕ) → 0 < c → 0 < d → HasValue x s a c → HasValue y t b d → lt x y ≡ below s (a * d) t (b * c)
unfolding lt
lt_values nan y s t a c b d C D v w = absurd v
lt_values (inf p) y s t a c b d C D v w = absurd v
lt_values (fin p m e) nan s t a c b d C D v w = absurd w
lt_values (fin p m e) (inf q) s t a c b d C D v w = absurd w
lt_values (fin p m e) (fin q n g) s t a c b d C D v w =
    let X = m * up e in
    let Y = n * up g in
    let E = down e in
    let G = down g in
    let left : X * G * (c * d) ≡ a * d * (E * G) = mul-mul-mul_comm X G c d ∙ ap (λ (z : ℕ). z * (G * d)) v.1 ∙ ap (λ (z : ℕ). a * E * z) (mul_comm G d) ∙ mul-mul-mul_comm a E d G in
    let right : Y * E * (c * d) ≡ b * c * (E * G) =
    ap (λ (z : ℕ). Y * E * z) (mul_comm c d) ∙ mul-mul-mul_comm Y E d c ∙ ap (λ (z : ℕ). z * (E * c)) w.1 ∙ ap (λ (z : ℕ). b * G * z) (mul_comm E c) ∙ mul-mul-mul_comm b G c E ∙ ap (λ (z : ℕ). b * c * z) (mul_comm G E) in
    sym (below_scaled p (X * G) q (Y * E) (c * d) (mul-pos C D))
    ∙ ap (λ (z : ℕ). below p z q (Y * E * (c * d))) left ∙ ap (λ (z : ℕ). below p (a * d * (E * G)) q z) right
    ∙ below_scaled p (a * d) q (b * c) (E * G) (mul-pos (down_pos e) (down_pos g))
    ∙ ap (λ (z : Bool). below z (a * d) q (b * c)) v.0 ∙ ap (λ (z : Bool). below s (a * d) z (b * c)) w.0
