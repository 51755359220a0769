-- Floor is the largest whole number not above x, and ceiling the smallest not below it, each with x's sign; and no other f32 is.
-- Both are x's size over its power of two, cut or raised to a whole number, and numbers compare as their exact sizes do. Assumes nothing.
use Rattle.std.specs.Prelude.{◌≡◌, refl, ℕ, ◌+◌, ◌*◌, ◌≤◌, ◌<◌, Bool, true, false, ℤ, T, Float}
use Rattle.std.proofs.Common.{sym, ◌∙◌, subst, lt_of_le_of_lt, lt_of_lt_of_le, lt_of_mul-lt-mul_right, add-mul, arith, ltb-false, le-ltb}
use Rattle.std.specs.Float.{nan, inf, fin, binary32}
use Rattle.std.specs.Float.Ieee.{up, down, unlike, below, fits, is_nan}
use Rattle.std.specs.Float.Ieee.Fits.{down_pos, round-fits}
use Rattle.std.specs.Float.Ieee.Exact.{HasValue}
use Rattle.std.specs.Float.Ieee.Back.{whole_unique}
use Rattle.floats.specs.Whole.{step, toward, floor_of, ceiling_of, onward, FirstWhole, WholeFrom, FloorOf, CeilingOf}
use Rattle.floats.specs.OrderLaws.{le_not_lt, not_lt_le, lt_values}
use Rattle.floats.specs.WholeLaws.{step_cut, step_raised, toward_value}

-- ---- the sizes

-- of the whole numbers up to a / c the cut one is the largest, and of those from a / c on the raised one is the smallest
cut_most : (a c n : ℕ) → 0 < c → n * c ≤ a → n ≤ step false a c
cut_most a c n p h = let l : n < step false a c + 1 = lt_of_mul-lt-mul_right c (lt_of_le_of_lt h (step_cut a c p).1) in omega arith

raised_least : (a c n : ℕ) → 0 < c → a ≤ n * c → step true a c ≤ n
raised_least a c n p h = let l : step true a c < n + 1 = lt_of_mul-lt-mul_right c (lt_of_lt_of_le (step_raised a c p).1 (omega (arith, add-mul n 1 c))) in omega arith

none : (n c : ℕ) → 0 < c → n * c ≤ 0 → n ≤ 0
none n c p h = let l : n < 1 = lt_of_mul-lt-mul_right c (omega arith) in omega arith

-- ±b lies on the side of ±a that `u` does not go to
abbrev behind : Bool → Bool → ℕ → Bool → ℕ → Bool
behind true s a t b = below t b s a
behind false s a t b = below s a t b

step_on : (u s : Bool) (a c : ℕ) → 0 < c → behind u s (a * 1) s (step (unlike s u) a c * c) ≡ false
step_on true true a c p = le-ltb (a * 1) (step false a c * c) (omega (arith, (step_cut a c p).0))
step_on true false a c p = le-ltb (step true a c * c) (a * 1) (omega (arith, (step_raised a c p).0))
step_on false true a c p = le-ltb (step true a c * c) (a * 1) (omega (arith, (step_raised a c p).0))
step_on false false a c p = le-ltb (a * 1) (step false a c * c) (omega (arith, (step_cut a c p).0))

step_first : (u s t : Bool) (a c n : ℕ) → 0 < c → behind u s (a * 1) t (n * c) ≡ false → behind u s (step (unlike s u) a c * 1) t (n * 1) ≡ false
step_first true true true a c n p h = le-ltb (step false a c * 1) (n * 1) (omega (arith, cut_most a c n p (omega (arith, ltb-false (a * 1) (n * c) h))))
step_first true true false a c n p h = refl
step_first true false true a c n p h =
    let g = ltb-false 0 (n * c + a * 1) h in
    le-ltb 0 (n * 1 + step true a c * 1) (omega (arith, none n c p (omega arith), raised_least a c 0 p (omega arith)))
step_first true false false a c n p h = le-ltb (n * 1) (step true a c * 1) (omega (arith, raised_least a c n p (omega (arith, ltb-false (n * c) (a * 1) h))))
step_first false true true a c n p h = le-ltb (n * 1) (step true a c * 1) (omega (arith, raised_least a c n p (omega (arith, ltb-false (n * c) (a * 1) h))))
step_first false true false a c n p h =
    let g = ltb-false 0 (a * 1 + n * c) h in
    le-ltb 0 (step true a c * 1 + n * 1) (omega (arith, none n c p (omega arith), raised_least a c 0 p (omega arith)))
step_first false false true a c n p h = refl
step_first false false false a c n p h = le-ltb (step false a c * 1) (n * 1) (omega (arith, cut_most a c n p (omega (arith, ltb-false (a * 1) (n * c) h))))

same_size : (u s : Bool) (n k : ℕ) → behind u s (n * 1) s (k * 1) ≡ false → behind u s (k * 1) s (n * 1) ≡ false → n ≡ k
same_size true true n k h g = omega (arith, ltb-false (n * 1) (k * 1) h, ltb-false (k * 1) (n * 1) g)
same_size true false n k h g = omega (arith, ltb-false (k * 1) (n * 1) h, ltb-false (n * 1) (k * 1) g)
same_size false true n k h g = omega (arith, ltb-false (k * 1) (n * 1) h, ltb-false (n * 1) (k * 1) g)
same_size false false n k h g = omega (arith, ltb-false (n * 1) (k * 1) h, ltb-false (k * 1) (n * 1) g)

-- ---- the numbers

number : (x : Float) (s : Bool) (a c : ℕ) → HasValue x s a c → is_nan x ≡ false
unfolding is_nan
number nan s a c v = absurd v
number (inf t) s a c v = refl
number (fin t m e) s a c v = refl

module _ (x z : Float) (s t : Bool) (a c b d : ℕ) (C : 0 < c) (D : 0 < d) (v : HasValue x s a c) (w : HasValue z t b d) where
  on_of : (u : Bool) → behind u s (a * d) t (b * c) ≡ false → onward u x z ≡ true
  on_of true h = not_lt_le x z (number x s a c v) (number z t b d w) (lt_values z x t s b d a c D C w v ∙ h)
  on_of false h = not_lt_le z x (number z t b d w) (number x s a c v) (lt_values x z s t a c b d C D v w ∙ h)

  of_on : (u : Bool) → onward u x z ≡ true → behind u s (a * d) t (b * c) ≡ false
  of_on true h = sym (lt_values z x t s b d a c D C w v) ∙ le_not_lt x z h
  of_on false h = sym (lt_values x z s t a c b d C D v w) ∙ le_not_lt z x h

one : 0 < 1
one = omega arith

toward_first : (u s : Bool) (m : ℕ) (e : ℤ) → T (fits binary32 (fin s m e)) → FirstWhole u s (fin s m e) (toward u (fin s m e))
unfolding toward
toward_first u s m e h =
    let x = fin s m e in
    let y = toward u x in
    let a = m * up e in
    let c = down e in
    let q = step (unlike s u) a c in
    let C = down_pos e in
    let v = toward_value u s m e h in
    record {
      single = round-fits binary32 s q 1;
      whole = record { negative = s; size = q; exact = v };
      sign = refl;
      on = on_of x y s s a c q 1 C one (refl, refl) v u (step_on u s a c C);
      first = λ z w o. on_of y z s w.negative q 1 w.size 1 one one v w.exact u (step_first u s w.negative a c w.size C (of_on x z s w.negative a c w.size 1 C one (refl, refl) w.exact u o));
    }

toward_from : (u : Bool) (x : Float) → T (fits binary32 x) → WholeFrom u x (toward u x)
unfolding WholeFrom toward
toward_from u nan h = refl
toward_from u (inf s) h = refl
toward_from u (fin s m e) h = toward_first u s m e h

-- two that are each the first lie on each other's far side, so that they are equal in size
one_first : (u s : Bool) (x y z : Float) → FirstWhole u s x y → FirstWhole u s x z → y ≡ z
one_first u s x y z p q =
    let n = p.whole.size in
    let k = q.whole.size in
    let v = subst (λ (t : Bool). HasValue y t n 1) p.sign p.whole.exact in
    let w = subst (λ (t : Bool). HasValue z t k 1) q.sign q.whole.exact in
    let e = same_size u s n k (of_on y z s s n 1 k 1 one one v w u (p.first z q.whole q.on)) (of_on z y s s k 1 n 1 one one w v u (q.first y p.whole p.on)) in
    whole_unique binary32 y z s k p.single q.single (subst (λ (i : ℕ). HasValue y s i 1) e v) w

toward_only : (u : Bool) (x y : Float) → T (fits binary32 x) → WholeFrom u x y → y ≡ toward u x
unfolding WholeFrom toward
toward_only u nan y h r = r
toward_only u (inf s) y h r = r
toward_only u (fin s m e) y h r = one_first u s (fin s m e) y (toward u (fin s m e)) r (toward_first u s m e h)

-- ---- the laws

pub floor_is_floor : (x : Float) → T (fits binary32 x) → FloorOf x (floor_of x)
floor_is_floor x h = toward_from false x h

pub floor_is_only : (x y : Float) → T (fits binary32 x) → FloorOf x y → y ≡ floor_of x
floor_is_only x y h r = toward_only false x y h r

pub ceiling_is_ceiling : (x : Float) → T (fits binary32 x) → CeilingOf x (ceiling_of x)
ceiling_is_ceiling x h = toward_from true x h

pub ceiling_is_only : (x y : Float) → T (fits binary32 x) → CeilingOf x y → y ≡ ceiling_of x
ceiling_is_only x y h r = toward_only true x y h r
