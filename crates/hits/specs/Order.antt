-- Consequences of the order of floats (floats' OrderLaws) in the form that the scans ask for.
use Rattle.std.specs.Prelude.{◌≡◌, refl, Bool, true, false, Float}
use Rattle.std.proofs.Common.{sym, ◌∙◌}
use Rattle.std.proofs.lemmas.Bool.{false≢true}
use Rattle.std.specs.Float.Ieee.{lt, eq, le, is_nan}
use Rattle.floats.specs.OrderLaws.{lt_tells_apart, eq_symmetric, eq_not_lt, le_not_lt, le_transitive, lt_le_transitive, le_lt_transitive, eq_numbers}

pub eq_le : (x y : Float) → eq x y ≡ true → le x y ≡ true
unfolding le
eq_le x y e = rw (eq_not_lt x y e, e) refl

-- below an equal
pub lt_eq : (x y z : Float) → lt x y ≡ true → eq y z ≡ true → lt x z ≡ true
lt_eq x y z h e = lt_le_transitive x y z h (eq_le y z e)

pub eq_lt : (x y z : Float) → eq x y ≡ true → lt y z ≡ true → lt x z ≡ true
eq_lt x y z e h = le_lt_transitive x y z (eq_le x y e) h

pub eq_transitive : (x y z : Float) → eq x y ≡ true → eq y z ≡ true → eq x z ≡ true
eq_transitive x y z e f =
    lt_tells_apart x z (eq_numbers x y e).0 (eq_numbers y z f).1
    (le_not_lt z x (le_transitive z y x (eq_le z y (eq_symmetric y z f)) (eq_le y x (eq_symmetric x y e))))
    (le_not_lt x z (le_transitive x y z (eq_le x y e) (eq_le y z f)))

-- of two numbers that is not below and not equal, the other is below
pub otherwise_below : (x y : Float) → is_nan x ≡ false → is_nan y ≡ false → lt x y ≡ false → eq x y ≡ false → lt y x ≡ true
otherwise_below x y p q h k = by (lt y x) refl
  where
    by : (b : Bool) → lt y x ≡ b → lt y x ≡ true
    by true e = e
    by false e = absurd (false≢true (sym k ∙ lt_tells_apart x y p q h e))
