-- Which numbers are finite: those between two bounds, and the larger and the smaller of two. And of two equals, larger and smaller give the second. Assumes nothing.
use Rattle.std.specs.Prelude.{◌≡◌, refl, Bool, true, false, cond, ◌||◌, Float}
use Rattle.std.proofs.Common.{sym, ap, ◌∙◌, subst}
use Rattle.std.proofs.lemmas.Bool.{false≢true}
use Rattle.std.specs.Float.{nan, inf, fin}
use Rattle.std.specs.Float.Ieee.{is_nan, lt, eq, le, neg}
use Rattle.std.specs.Float.Ieee.Scale.{finite}
use Rattle.floats.specs.Choice.{larger_of, smaller_of}
use Rattle.floats.specs.OrderLaws.{lt_asymmetric, lt_irreflexive, eq_not_lt, eq_symmetric, eq_numbers}

pub finite_number : (x : Float) → finite x ≡ true → is_nan x ≡ false
unfolding is_nan
finite_number nan h = absurd (false≢true h)
finite_number (inf s) h = absurd (false≢true h)
finite_number (fin s m e) h = refl

-- −b ≤ x ≤ b
pub within_finite : (b x : Float) → finite b ≡ true → le (neg b) x ≡ true → le x b ≡ true → finite x ≡ true
unfolding neg le
within_finite nan x f h k = absurd (false≢true f)
within_finite (inf t) x f h k = absurd (false≢true f)
within_finite (fin t n d) nan f h k = absurd (false≢true k)
within_finite (fin t n d) (inf true) f h k = absurd (false≢true h)
within_finite (fin t n d) (inf false) f h k = absurd (false≢true k)
within_finite (fin t n d) (fin s m e) f h k = refl

choice_finite : (b : Bool) (x y : Float) → finite x ≡ true → finite y ≡ true → finite (cond b x y) ≡ true
choice_finite true x y h k = h
choice_finite false x y h k = k

-- without NaN the choice is by `lt` alone
pub larger_number : (x y : Float) → is_nan x ≡ false → is_nan y ≡ false → larger_of x y ≡ cond (lt y x) x y
unfolding larger_of
larger_number x y h k = ap (λ (t : Bool). cond (t || is_nan y) nan (cond (lt y x) x y)) h ∙ ap (λ (t : Bool). cond t nan (cond (lt y x) x y)) k

pub smaller_number : (x y : Float) → is_nan x ≡ false → is_nan y ≡ false → smaller_of x y ≡ cond (lt x y) x y
unfolding smaller_of
smaller_number x y h k = ap (λ (t : Bool). cond (t || is_nan y) nan (cond (lt x y) x y)) h ∙ ap (λ (t : Bool). cond t nan (cond (lt x y) x y)) k

-- the larger is below neither, and the smaller is above neither
pub larger_not_below : (x y : Float) → is_nan x ≡ false → is_nan y ≡ false → (lt (larger_of x y) x ≡ false) × (lt (larger_of x y) y ≡ false)
larger_not_below x y h k = subst (λ (v : Float). (lt v x ≡ false) × (lt v y ≡ false)) (sym (larger_number x y h k)) (go (lt y x) refl)
  where
    go : (b : Bool) → lt y x ≡ b → (lt (cond b x y) x ≡ false) × (lt (cond b x y) y ≡ false)
    go true e = (lt_irreflexive x, lt_asymmetric y x e)
    go false e = (e, lt_irreflexive y)

pub smaller_not_above : (x y : Float) → is_nan x ≡ false → is_nan y ≡ false → (lt x (smaller_of x y) ≡ false) × (lt y (smaller_of x y) ≡ false)
smaller_not_above x y h k = subst (λ (v : Float). (lt x v ≡ false) × (lt y v ≡ false)) (sym (smaller_number x y h k)) (go (lt x y) refl)
  where
    go : (b : Bool) → lt x y ≡ b → (lt x (cond b x y) ≡ false) × (lt y (cond b x y) ≡ false)
    go true e = (lt_irreflexive x, lt_asymmetric x y e)
    go false e = (e, lt_irreflexive y)

pub larger_finite : (x y : Float) → finite x ≡ true → finite y ≡ true → finite (larger_of x y) ≡ true
larger_finite x y h k = ap finite (larger_number x y (finite_number x h) (finite_number y k)) ∙ choice_finite (lt y x) x y h k

pub smaller_finite : (x y : Float) → finite x ≡ true → finite y ≡ true → finite (smaller_of x y) ≡ true
smaller_finite x y h k = ap finite (smaller_number x y (finite_number x h) (finite_number y k)) ∙ choice_finite (lt x y) x y h k

-- "Of two equals, larger and smaller give the second"
pub larger_second : (x y : Float) → eq x y ≡ true → larger_of x y ≡ y
larger_second x y h = let n = eq_numbers x y h in larger_number x y n.0 n.1 ∙ ap (λ (t : Bool). cond t x y) (eq_not_lt y x (eq_symmetric x y h))

pub smaller_second : (x y : Float) → eq x y ≡ true → smaller_of x y ≡ y
smaller_second x y h = let n = eq_numbers x y h in smaller_number x y n.0 n.1 ∙ ap (λ (t : Bool). cond t x y) (eq_not_lt x y h)
